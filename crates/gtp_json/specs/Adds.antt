-- Members added to an object.
use Rattle.std.specs.Prelude.{◌≡◌, ℕ, List, ◌++◌}
use Rattle.json.specs.Token.{Token}
use Rattle.json.specs.Json.{Json}
use Rattle.gtp_json.specs.reading.Tokens.{written}

-- the tokens are those that were there before, and then members of which P holds
abbrev pub Adds : (List (List ℕ × Json) → Type 0) → List Token → List Token → Type 0
Adds P before tokens = (ms : List (List ℕ × Json)) × P ms × (tokens ≡ before ++ written ms)
