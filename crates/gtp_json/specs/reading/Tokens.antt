-- The tokens that the code appends.
use Rattle.std.specs.Prelude.{ℕ, List, [], ◌∷◌}
use Rattle.std.specs.List.{flat_map}
use Rattle.json.specs.Token.{Token}
use Rattle.json.specs.Json.{Json}
use Rattle.json.specs.Tree.{json_tokens}

-- the tokens of members
abbrev pub member_tokens : List ℕ × Json → List Token
member_tokens m = Token.key m.0 ∷ json_tokens m.1

unfoldable pub written : List (List ℕ × Json) → List Token
written ms = flat_map member_tokens ms

-- a key and the brackets, as tokens
unfoldable pub keyed : List ℕ → List Token
keyed name = Token.key name ∷ []

unfoldable pub opened : List Token
opened = Token.begin_object ∷ []

unfoldable pub closed : List Token
closed = Token.end_object ∷ []

unfoldable pub array_opened : List Token
array_opened = Token.begin_array ∷ []

unfoldable pub array_closed : List Token
array_closed = Token.end_array ∷ []
