-- The access points of a text.
use Rattle.std.specs.Prelude.{◌≡◌, ℕ, ◌≤◌, ◌==◌, length, List, [], ◌∷◌, ◌++◌, Option, Some, None, map}
use Rattle.std.specs.Borrow.{Bor}
use Rattle.std.specs.List.{AllByRecursion, position_or_len, slice_split}
use Rattle.gtp_values.specs.Apn.{apn_text, IsApnText}

-- the words between the commas (44) of a text, one more than it has commas
abbrev pub words_of : List ℕ → List (List ℕ)
words_of text = slice_split (λ octet. octet == 44) text

-- the words of a text, and none of an empty one
abbrev pub names_in : List ℕ → List (List ℕ)
names_in [] = []
names_in (octet ∷ octets) = words_of (octet ∷ octets)

-- the words of the text are those of these names
abbrev pub AreNames : List ℕ → List (List ℕ) → Type 0
AreNames text names = map apn_text names ≡ names_in text

-- each word of the text is that of a name
abbrev pub AreGoodNames : List ℕ → Type 0
AreGoodNames text = AllByRecursion IsApnText (names_in text)

-- and they are at most 16
abbrev pub AreFewNames : List ℕ → Type 0
AreFewNames text = AreGoodNames text × (length (names_in text) ≤ 16)

-- how many octets stand before the first comma
abbrev pub word_length : List ℕ → ℕ
word_length octets = position_or_len (λ octet. octet == 44) octets

-- the first word, and the text after its comma, or all that there is
abbrev pub IsCut : List ℕ → List ℕ → Option (Bor (List ℕ)) → Type 0
IsCut octets word None = words_of octets ≡ word ∷ []
IsCut octets word (Some after) = words_of octets ≡ word ∷ words_of after.now

-- a name more, which the text writes
pub record IsPut (old : List (List ℕ)) (text : List ℕ) (new : List (List ℕ)) : Type 0 where
  pub name : List ℕ
  pub reads : apn_text name ≡ text
  pub all : new ≡ old ++ name ∷ []
