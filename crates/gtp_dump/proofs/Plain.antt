-- Digits with nothing but blanks before and after them are the digits of the text.
use Rattle.std.proofs.Common.{◌≡◌, ◌≢◌, ℕ, ◌+◌, ◌<◌, ◌≤◌, ◌==◌, Bool, true, false, List, [], ◌∷◌, ◌++◌, length, take, drop, slice_index, Ok, refl}
use Rattle.std.proofs.Common.{sym, ap, subst, ◌∙◌, arith, rules, inl, inr, append-nil, get_or-take, length-take}
use Rattle.std.specs.List.{AllPass}
use Rattle.std.specs.Char.{is_ascii_whitespace}
use Rattle.std.specs.Str.{IsTrimAscii}
use Rattle.std.proofs.lemmas.Bool.Decides.{eqb_tells}
use Rattle.std.proofs.lemmas.List.{take-append-drop, get_or-drop, length-drop}
use Rattle.std.proofs.lemmas.List.Elements.{All-head, All-tail, All-from_get_or}
use Rattle.hex.specs.Hex.{decode_of, is_hex_digit}
use Rattle.hex.proofs.HexLemmas.{decode_of-ok}
use Rattle.gtp_dump.specs.Text.{is_between, begins_prefix, taken, digits_in, HasOctets}
use Rattle.gtp_dump.proofs.Walk.{none, otherwise}

abbrev IsBlankAt : ℕ → Type 0
IsBlankAt x = is_ascii_whitespace x ≡ true

abbrev IsHexAt : ℕ → Type 0
IsHexAt x = is_hex_digit x ≡ true

-- what passes a test is no number that fails it
is_other : (p : ℕ → Bool) (n : ℕ) → p n ≡ false → (a : ℕ) → p a ≡ true → (a == n) ≡ false
is_other p n fails a passes = elim (eqb_tells a n) [
  | inl same ↦ cc (sym passes ∙ ap p same.1 ∙ fails)
  | inr other ↦ other.0
]

-- a character that is no x begins no prefix with the one before it
no_prefix : (p : ℕ → Bool) → p 120 ≡ false → p 88 ≡ false → (a b : ℕ) (rest : List ℕ) → p b ≡ true → begins_prefix a (b ∷ rest) ≡ false
no_prefix p small capital a b rest passes = rw (is_other p 120 small b passes, is_other p 88 capital b passes) (search rules)

-- a blank begins no prefix
blank_begins_none : (a : ℕ) (rest : List ℕ) → IsBlankAt a → begins_prefix a rest ≡ false
blank_begins_none a [] blank = refl
blank_begins_none a (b ∷ rest) blank = rw (is_other is_ascii_whitespace 48 refl a blank) refl

-- a blank is passed over
passes_blank : (a : ℕ) (rest : List ℕ) → IsBlankAt a → digits_in (a ∷ rest) ≡ digits_in rest
passes_blank a rest blank =
    let comment = is_other is_ascii_whitespace 35 refl a blank in
    otherwise taken a rest (blank_begins_none a rest blank) ∙ rw (comment, blank) refl

passes_blanks : (blanks rest : List ℕ) → AllPass is_ascii_whitespace blanks → digits_in (blanks ++ rest) ≡ digits_in rest
passes_blanks [] rest all = refl
passes_blanks (a ∷ blanks) rest all = passes_blank a (blanks ++ rest) (All-head IsBlankAt a blanks all) ∙ passes_blanks blanks rest (All-tail IsBlankAt a blanks all)

-- a digit is none of the characters between octets
hex_not_blank : (a : ℕ) → IsHexAt a → is_ascii_whitespace a ≡ false
hex_not_blank a hex = grind (arith, hex)

hex_not_between : (a : ℕ) → IsHexAt a → is_between a ≡ false
hex_not_between a hex = rw (hex_not_blank a hex, is_other is_hex_digit 58 refl a hex, is_other is_hex_digit 44 refl a hex) refl

-- a digit stands for itself
takes_hex : (a : ℕ) (rest : List ℕ) → IsHexAt a → begins_prefix a rest ≡ false → digits_in (a ∷ rest) ≡ a ∷ digits_in rest
takes_hex a rest hex begins =
    let comment = is_other is_hex_digit 35 refl a hex in
    otherwise taken a rest begins ∙ rw (comment, hex_not_between a hex) refl

-- digits, and blanks after them
hex_before_blanks : (digits blanks : List ℕ) → AllPass is_hex_digit digits → AllPass is_ascii_whitespace blanks → digits_in (digits ++ blanks) ≡ digits
hex_before_blanks [] blanks hex blank = ap digits_in (sym (append-nil blanks)) ∙ passes_blanks blanks [] blank ∙ none taken
hex_before_blanks (a ∷ []) [] hex blank = takes_hex a [] (All-head IsHexAt a [] hex) refl ∙ ap (λ l. a ∷ l) (none taken)
hex_before_blanks (a ∷ []) (b ∷ blanks) hex blank =
    takes_hex a (b ∷ blanks) (All-head IsHexAt a [] hex) (no_prefix is_ascii_whitespace refl refl a b blanks (All-head IsBlankAt b blanks blank))
    ∙ ap (λ l. a ∷ l) (hex_before_blanks [] (b ∷ blanks) (All-tail IsHexAt a [] hex) blank)
hex_before_blanks (a ∷ b ∷ digits) blanks hex blank =
    let after = All-tail IsHexAt a (b ∷ digits) hex in
    takes_hex a (b ∷ (digits ++ blanks)) (All-head IsHexAt a (b ∷ digits) hex)
    (no_prefix is_hex_digit refl refl a b (digits ++ blanks) (All-head IsHexAt b digits after))
    ∙ ap (λ l. a ∷ l) (hex_before_blanks (b ∷ digits) blanks after blank)

-- what is trimmed off the front
front_is_blank : (text : List ℕ) (m : ℕ) → ((i : ℕ) → i < m → IsBlankAt (slice_index text i)) → AllPass is_ascii_whitespace (take m text)
front_is_blank text m blank =
    All-from_get_or IsBlankAt (take m text) 0
    (λ i low. let below : i < m = omega (arith, low, length-take m text) in subst IsBlankAt (sym (get_or-take m text i 0 below)) (blank i below))

-- what is trimmed off the back
back_is_blank : (text : List ℕ) (n : ℕ) → ((i : ℕ) → n ≤ i → i < length text → IsBlankAt (slice_index text i)) → AllPass is_ascii_whitespace (drop n text)
back_is_blank text n blank =
    All-from_get_or IsBlankAt (drop n text) 0 (λ i low. let within : n + i < length text = omega (arith, low, length-drop n text) in
    subst IsBlankAt (sym (get_or-drop n text i 0)) (blank (n + i) (omega arith) within))

-- the digits of a text that is digits when its blanks at both ends are left out
pub trimmed : (text digits octets : List ℕ) → IsTrimAscii text digits → length digits ≢ 0 → decode_of digits ≡ Ok octets → HasOctets text octets
trimmed text digits octets trims some decoded =
    let m = trims.0 in
    let after = drop m text in
    let behind = drop (length digits) after in
    let hex = (decode_of-ok digits octets decoded).1 in
    let ends : digits ++ behind ≡ after = ap (λ l. l ++ behind) trims.1 ∙ take-append-drop (length digits) after in
    let is : digits_in text ≡ digits =
    ap digits_in (sym (take-append-drop m text))
    ∙ passes_blanks (take m text) after (front_is_blank text m trims.2)
    ∙ ap digits_in (sym ends)
    ∙ hex_before_blanks digits behind hex (back_is_blank after (length digits) trims.4) in
    record { some = λ none. some (ap length (sym is ∙ none)); spelled = ap decode_of is ∙ decoded }
