-- A TEID that is drawn was not drawn before.
use Rattle.std.proofs.Common.{inl, inr, ℕ, zero, suc, ◌<◌, arith}
use Rattle.gtp_tables.specs.Drawn.{teid_at, drawn_up_to}
use Rattle.gtp_values.specs.FiniteMap.{Among}

-- a TEID of a greater number is not among them
pub undrawn : (counter count n : ℕ) → count < n → Among (teid_at counter n) (drawn_up_to counter count) → ⊥
undrawn counter zero n above there = there
undrawn counter (suc count) n above there = elim there [
  | inl same ↦ omega (arith, same)
  | inr rest ↦ undrawn counter count n (omega arith) rest
]
