-- Identities of bearers (TS 29.274 8.8).
use Rattle.std.specs.Prelude.{ℕ, ◌≤◌}

-- the identity of a bearer that stands: 5 to 15
pub record IsEbi (number : ℕ) : Type 0 where
  pub least : 5 ≤ number
  pub most : number ≤ 15
