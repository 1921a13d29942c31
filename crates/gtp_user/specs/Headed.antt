-- What the octets before a chain or a payload say.
use Rattle.std.specs.Prelude.{ℕ, Bool, List, Option, Some, None, if◌then◌else◌}

-- what the octets before the chain say, and the octets from the chain on
pub record Headed : Type 0 where
  pub kind : ℕ
  pub teid : ℕ
  pub seq : Option ℕ
  pub npdu : Option ℕ
  pub first : ℕ  -- the type of the first extension header, 0 where there is none
  pub rest : List ℕ

-- a value where a flag says that there is one
abbrev pub where_set : Bool → ℕ → Option ℕ
where_set set n = if set then Some n else None
