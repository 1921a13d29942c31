use Rattle.std.proofs.Common.{Bool, ℕ}
use Rattle.std.specs.Prelude.{not}
use Rattle.std.specs.Fn.{FnReturnsAt}
use Rattle.std.specs.FinMap.{entries}
use Rattle.gtp_tables.specs.Deciding.{Answers}
use Rattle.gtp_tables.proofs.Counted.{IsLeft}
use Rattle.gtp_tables.proofs.pool_places.PoolPlaces.forget_keys_where.Given as goal

abbrev pub invariant-loop-teid : goal.invariant-loop-teid
invariant-loop-teid g l = (goes : ℕ → Bool) → Answers (FnReturnsAt g.F.Fn l.test) goes → IsLeft (λ e. e.1) (λ e. not (goes e.0)) (entries l.table.table) l.teid-iterator l.self
