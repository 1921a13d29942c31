-- Digits from their characters.
use Rattle.std.proofs.Common.{◌≡◌, ◌<◌, ◌≤◌, ◌∙◌, ◌++◌, ◌∷◌, [], List, All, ap, sym, subst, refl, ◌-◌, map, take, length, get_or, ℕ, ◌+◌, arith, decimal}
use Rattle.std.proofs.lemmas.List.{take_more, map-append, length-map}
use Rattle.std.proofs.lemmas.List.Elements.{All-map}
use Rattle.std.proofs.lemmas.Fmt.{decimal_digit}
use Rattle.gtp_values.specs.Imsi.{IsDigitCode, IsImsi, IsImsiText, value_of_digit, digits_text}

-- the digits of characters are below 10
pub digits_below : (text : List ℕ) → All IsDigitCode text → All (λ digit. digit < 10) (map value_of_digit text)
digits_below text all =
    All-map (λ digit. digit < 10) value_of_digit text (λ k d within.
    let octet = get_or text k d in
    let least : 48 ≤ octet = (all k d within).least in
    let most : octet ≤ 57 = (all k d within).most in
    omega arith)

-- one more digit of a text
pub one_more : (digits : List ℕ) (i : ℕ) → i < length digits → All (λ digit. digit < 10) digits → digits_text (take i digits) ++ decimal (get_or digits i 0) ≡ digits_text (take (i + 1) digits)
one_more digits i within small =
    ap (λ text. digits_text (take i digits) ++ text) (decimal_digit (get_or digits i 0) (small i 0 within))
    ∙ sym (ap digits_text (take_more digits i 0 within) ∙ map-append (λ digit. 48 + digit) (take i digits) (get_or digits i 0 ∷ []))

-- the digits of a subscriber's text
pub digits_again : (digits : List ℕ) → IsImsi digits → IsImsiText (digits_text digits) × (map value_of_digit (digits_text digits) ≡ digits)
digits_again digits is = (record { least = subst (λ n. 6 ≤ n) (sym count) is.least; most = subst (λ n. n ≤ 15) (sym count) is.most; decimal = codes }, same digits) where
  count : length (digits_text digits) ≡ length digits
  count = length-map digits (λ digit. 48 + digit)

  codes : All IsDigitCode (digits_text digits)
  codes = All-map IsDigitCode (λ digit. 48 + digit) digits (λ k d within. let small : get_or digits k d < 10 = is.decimal k d within in record { least = omega arith; most = omega arith })

  same : (xs : List ℕ) → map value_of_digit (digits_text xs) ≡ xs
  same [] = refl
  same (x ∷ xs) = let one : (48 + x) - 48 ≡ x = omega arith in rw (one, same xs) refl
