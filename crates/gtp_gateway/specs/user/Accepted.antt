-- A packet that was accepted.
use Rattle.std.specs.Prelude.{ℕ, List}

-- the own TEID of its bearer, and its octets
pub record Accepted : Type 0 where
  pub bearer : ℕ
  pub payload : List ℕ
