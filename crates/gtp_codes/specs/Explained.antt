-- Which codes a word asks for, and their lines.
use Rattle.std.specs.Prelude.{ℕ, List, [], ◌∷◌, ◌++◌, codes, Bool, true, ◌||◌, if◌then◌else◌, bytes_eq, Option, Some, None}
use Rattle.std.specs.List.{flat_map}
use Rattle.gtp_codes.specs.declared.explaining.Meaning.{Meaning}

-- its code, or what follows it, is the word
abbrev pub is_called : List ℕ → Meaning → Bool
is_called word m = bytes_eq m.code.now word || bytes_eq m.detail.now word

-- without a word each code is asked for
abbrev pub is_asked : Option (List ℕ) → Meaning → Bool
is_asked (Some word) m = is_called word m
is_asked None m = true

-- a blank and what follows a code, or nothing
abbrev pub detail_text : List ℕ → List ℕ
detail_text [] = []
detail_text (c ∷ cs) = codes " " ++ (c ∷ cs)

-- a code, and what it means
abbrev pub line_of : Meaning → List ℕ
line_of m = m.code.now ++ (detail_text m.detail.now ++ (codes ": " ++ (m.text.now ++ codes "\n")))

-- this where it is asked for, and else nothing
abbrev pub line_if : Option (List ℕ) → Meaning → List ℕ
line_if word m = if is_asked word m then line_of m else []

-- the lines of the codes that a word asks for, in their order
abbrev pub lines_of : Option (List ℕ) → List Meaning → List ℕ
lines_of word meanings = flat_map (line_if word) meanings

-- and of the codes of several parts
abbrev pub explanation : Option (List ℕ) → List (List Meaning) → List ℕ
explanation word parts = flat_map (lines_of word) parts
