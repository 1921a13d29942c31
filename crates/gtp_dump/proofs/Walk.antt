-- A walk over a text, a character at a time.
use Rattle.std.proofs.Common.{◌≡◌, ℕ, ◌==◌, Bool, true, false, List, [], ◌∷◌, drop, if◌then◌else◌, refl, sym, ap, ◌∙◌}
use Rattle.gtp_dump.specs.Text.{is_between, is_prefix, begins_prefix, step, walked, first_on, from_digit}

pub none : (found : ℕ → List ℕ → List ℕ → List ℕ) → walked found [] ≡ []
unfolding walked
none found = refl

-- a prefix is passed over
after_prefix : (found : ℕ → List ℕ → List ℕ → List ℕ) (a : ℕ) (rest : List ℕ) → begins_prefix a rest ≡ true → walked found (a ∷ rest) ≡ walked found (drop 1 rest)
unfolding walked
after_prefix found a [] is = let wrong : true ≡ false = sym is in cc
after_prefix found a (b ∷ rest) is = ap (λ (t : Bool). if t then walked found rest else step found a (b ∷ rest) (walked found (b ∷ rest))) is

-- any other character is one of itself
pub otherwise : (found : ℕ → List ℕ → List ℕ → List ℕ) (a : ℕ) (rest : List ℕ) → begins_prefix a rest ≡ false → walked found (a ∷ rest) ≡ step found a rest (walked found rest)
unfolding walked
otherwise found a [] isn't = refl
otherwise found a (b ∷ rest) isn't = ap (λ (t : Bool). if t then walked found rest else step found a (b ∷ rest) (walked found (b ∷ rest))) isn't

-- ---- up to the first digit

pub passes_prefix : (rest all : List ℕ) (a : ℕ) (after : List ℕ) → from_digit rest ≡ all → rest ≡ a ∷ after → begins_prefix a after ≡ true → from_digit (drop 1 after) ≡ all
passes_prefix rest all a after so is begins = sym (ap from_digit is ∙ after_prefix first_on a after begins) ∙ so

turns : (rest all : List ℕ) (a : ℕ) (after : List ℕ) → from_digit rest ≡ all → rest ≡ a ∷ after → begins_prefix a after ≡ false → step first_on a after (from_digit after) ≡ all
turns rest all a after so is begins = sym (ap from_digit is ∙ otherwise first_on a after begins) ∙ so

pub ends_at_comment : (rest all : List ℕ) (a : ℕ) (after : List ℕ) → from_digit rest ≡ all → rest ≡ a ∷ after → begins_prefix a after ≡ false → (a == 35) ≡ true → [] ≡ all
ends_at_comment rest all a after so is begins comment =
    let with : step first_on a after (from_digit after) ≡ [] = rw comment refl in
    sym with ∙ turns rest all a after so is begins

pub stops : (rest all : List ℕ) (a : ℕ) (after : List ℕ) → from_digit rest ≡ all → rest ≡ a ∷ after → begins_prefix a after ≡ false → (a == 35) ≡ false → is_between a ≡ false → rest ≡ all
stops rest all a after so is begins comment between =
    let with : step first_on a after (from_digit after) ≡ a ∷ after = rw (comment, between) refl in
    is ∙ (sym with ∙ turns rest all a after so is begins)

pub passes : (rest all : List ℕ) (a : ℕ) (after : List ℕ) → from_digit rest ≡ all → rest ≡ a ∷ after → begins_prefix a after ≡ false → (a == 35) ≡ false → is_between a ≡ true → from_digit after ≡ all
passes rest all a after so is begins comment between =
    let with : step first_on a after (from_digit after) ≡ from_digit after = rw (comment, between) refl in
    sym with ∙ turns rest all a after so is begins

pub ends : (rest all : List ℕ) → from_digit rest ≡ all → rest ≡ [] → rest ≡ all
ends rest all so is = is ∙ (sym (ap from_digit is ∙ none first_on) ∙ so)

-- ---- from digit to digit

-- what a walk gives of a text that begins with a digit
abbrev pub at_digit : (ℕ → List ℕ → List ℕ → List ℕ) → List ℕ → List ℕ
at_digit found [] = []
at_digit found (a ∷ after) = found a after (walked found after)

by_character : (comment between : Bool) (found : ℕ → List ℕ → List ℕ → List ℕ) (a : ℕ) (after : List ℕ) → walked found after ≡ at_digit found (from_digit after)
    → (if comment then [] else (if between then walked found after else found a after (walked found after)))
    ≡ at_digit found (if comment then [] else (if between then from_digit after else (a ∷ after)))
by_character true between found a after so = refl
by_character false true found a after so = so
by_character false false found a after so = refl

by_prefix : (prefix : Bool) (found : ℕ → List ℕ → List ℕ → List ℕ) (x y u v : List ℕ) → x ≡ at_digit found u → y ≡ at_digit found v
    → (if prefix then x else y) ≡ at_digit found (if prefix then u else v)
by_prefix true found x y u v one other = one
by_prefix false found x y u v one other = other

-- a walk gives what it gives from the first digit on
pub goes_on : (found : ℕ → List ℕ → List ℕ → List ℕ) (text : List ℕ) → walked found text ≡ at_digit found (from_digit text)
unfolding walked
goes_on found [] = refl
goes_on found (a ∷ []) = by_character (a == 35) (is_between a) found a [] refl
goes_on found (a ∷ b ∷ rest) = by_prefix (is_prefix a b) found _ _ _ _ (goes_on found rest) (by_character (a == 35) (is_between a) found a (b ∷ rest) (goes_on found (b ∷ rest)))

pub onto : (found : ℕ → List ℕ → List ℕ → List ℕ) (text rest : List ℕ) → rest ≡ from_digit text → at_digit found rest ≡ walked found text
onto found text rest is = ap (at_digit found) is ∙ sym (goes_on found text)
