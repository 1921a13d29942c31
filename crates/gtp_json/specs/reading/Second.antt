-- The place of a second message, or none.
use Rattle.std.specs.Prelude.{ℕ, List, Option, Some, None}
use Rattle.gtp_json.specs.Places.{IsSecondAt}

-- a second message, announced by a first one that is right, begins there; or none does
abbrev pub IsSecondPlace : List ℕ → Option ℕ → Type 0
IsSecondPlace octets None = (at : ℕ) → IsSecondAt octets at → ⊥
IsSecondPlace octets (Some at) = IsSecondAt octets at
