-- What the octets before a message's elements say.
use Rattle.std.specs.Prelude.{ℕ, List, Option}

-- what stands before the elements, the octets after it, and their place
pub record Headed : Type 0 where
  pub kind : ℕ
  pub teid : Option ℕ
  pub seq : ℕ
  pub priority : Option ℕ
  pub rest : List ℕ
  pub at : ℕ
