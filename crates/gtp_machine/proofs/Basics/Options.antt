-- A number that may be absent, and one that is a bound.
use Rattle.std.proofs.Common.{◌≡◌, ◌<◌, ℕ, arith}

pub not_below : {n k : ℕ} → n ≡ k → n < k → ⊥
not_below e h = omega arith
