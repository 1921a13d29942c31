-- Numbers in a row.
use Rattle.std.proofs.Common.{◌≡◌, ◌<◌, ◌+◌, ◌-◌, ℕ, suc, ◌∷◌, ap, arith}
use Rattle.std.specs.List.{range_with_len}

pub range_next : (a b : ℕ) → a < b → range_with_len a (b - a) ≡ a ∷ range_with_len (a + 1) (b - (a + 1))
range_next a b less = ap (range_with_len a) (let e : b - a ≡ suc (b - (a + 1)) = omega arith in e)
