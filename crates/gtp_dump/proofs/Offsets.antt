-- Offsets, and the digits of rows.
use Rattle.std.proofs.Common.{◌≡◌, ℕ, zero, suc, ◌+◌, ◌*◌, ◌^◌, ◌<◌, ◌≤◌, ◌==◌, Bool, true, false, List, [], ◌∷◌, length, take, cond, arith, rules, inl, inr, refl, sym, ap, subst, ◌∙◌}
use Rattle.std.specs.List.{prefix_len, take_while}
use Rattle.std.specs.Char.{digit_value}
use Rattle.std.specs.Str.Parse.{AllDigits, digits_value, digits_value_after}
use Rattle.std.proofs.lemmas.Bool.{cases_lt}
use Rattle.std.proofs.lemmas.Bool.Decides.{eqb_tells}
use Rattle.gtp_dump.specs.Row.{is_hex}
use Rattle.gtp_dump.specs.Text.{taken, digits_in, from_digit}
use Rattle.gtp_dump.proofs.Walk.{at_digit, goes_on}

hex_value : (c : ℕ) → is_hex c ≡ true → digit_value c < 16
hex_value c is = elim (cases_lt (digit_value c) 16) [
  | inl below ↦ below
  | inr above ↦ absurd (grind (arith, is, above))
]

front_by : (b : Bool) (x : ℕ) (xs : List ℕ) → (b ≡ true → digit_value x < 16) → AllDigits 16 (take (prefix_len is_hex xs) xs) → AllDigits 16 (take (cond b (1 + prefix_len is_hex xs) 0) (x ∷ xs))
front_by true x xs one all =
    let next : suc (prefix_len is_hex xs) ≡ 1 + prefix_len is_hex xs = omega arith in
    subst (λ (k : ℕ). AllDigits 16 (take k (x ∷ xs))) next (one refl, all)
front_by false x xs one all = tt

-- the hexadecimal digits at the front of a text
pub front_digits : (xs : List ℕ) → AllDigits 16 (take_while is_hex xs)
front_digits [] = tt
front_digits (x ∷ xs) = front_by (is_hex x) x xs (hex_value x) (front_digits xs)

-- a number only grows by further digits
pub grows : (n : ℕ) (cs : List ℕ) → n ≤ digits_value_after 16 n cs
grows n [] = omega arith
grows n (c ∷ cs) = omega (arith, grows (n * 16 + digit_value c) cs)

-- the bound of a number after so many digits
abbrev most_after : ℕ → ℕ → ℕ
most_after most zero = most
most_after most (suc k) = most_after (most * 16) k

at_least : (most k : ℕ) → most ≤ most_after most k
at_least most zero = omega arith
at_least most (suc k) = omega (arith, at_least (most * 16) k)

below_after : (n most k : ℕ) (cs : List ℕ) → AllDigits 16 cs → length cs ≤ k → n < most → digits_value_after 16 n cs < most_after most k
below_after n most k [] all few small = omega (arith, small, at_least most k)
below_after n most zero (c ∷ cs) all few small = absurd (omega (arith, few))
below_after n most (suc k) (c ∷ cs) all few small = below_after (n * 16 + digit_value c) (most * 16) k cs all.1 (omega (arith, few)) (omega (arith, small, all.0))

-- the number of at most eight digits
pub below : (cs : List ℕ) → AllDigits 16 cs → length cs ≤ 8 → digits_value 16 cs < 2 ^ 32
below cs all few = below_after 0 1 8 cs all few (omega arith)

-- a text has digits if there is a first of them
empty_on : (text : List ℕ) → (length text == 0) ≡ (length (at_digit taken text) == 0)
empty_on [] = refl
empty_on (a ∷ after) = some (length (a ∷ after)) (search rules) ∙ sym (some (length (at_digit taken (a ∷ after))) (search rules))
  where
    some : (n : ℕ) → 0 < n → (n == 0) ≡ false
    some n more = elim (eqb_tells n 0) [ inl same ↦ absurd (omega (arith, more, same.1)) | inr other ↦ other.0 ]

pub same_empty : (text : List ℕ) → (length (from_digit text) == 0) ≡ (length (digits_in text) == 0)
same_empty text = empty_on (from_digit text) ∙ sym (ap (λ (l : List ℕ). length l == 0) (goes_on taken text))
