-- For private contracts and proofs: where what a message of the user plane carries begins.
use Rattle.std.specs.Prelude.{◌≡◌, ℕ, ◌+◌, ◌*◌, ◌%◌, ◌==◌, List, [], ◌∷◌, Some, if◌then◌else◌}
use Rattle.gtp_user.specs.Element.{Element, AreElements, first_types}

-- the octets are elements, and these are the types of the first list of types
abbrev pub HasTypes : List ℕ → List ℕ → Type 0
HasTypes types octets = (es : List Element) × AreElements octets es × (first_types es ≡ Some types)

-- how many octets the element at the front takes that is no list of types (TS 29.281 8.1)
abbrev pub element_size : List ℕ → ℕ
element_size (kind ∷ high ∷ low ∷ rest) = if kind == 14 then 2 else (if kind == 16 then 5 else 3 + (256 * high + low))
element_size octets = 2

-- how many octets the header takes (TS 29.281 5.1)
abbrev pub header_size : List ℕ → ℕ
header_size [] = 12
header_size (first ∷ rest) = if first % 8 == 0 then 8 else 12
