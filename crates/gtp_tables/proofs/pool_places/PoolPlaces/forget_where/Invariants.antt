use Rattle.std.proofs.Common.{Bool}
use Rattle.std.specs.Prelude.{not}
use Rattle.std.specs.Fn.{FnReturnsAt}
use Rattle.std.specs.FinMap.{entries}
use Rattle.gtp_tables.specs.declared.context.Session.{Session}
use Rattle.gtp_tables.specs.Deciding.{Answers}
use Rattle.gtp_tables.proofs.Counted.{IsLeft}
use Rattle.gtp_tables.proofs.pool_places.PoolPlaces.forget_where.Given as goal

abbrev pub invariant-loop-session : goal.invariant-loop-session
invariant-loop-session g l = (goes : Session → Bool) → Answers (FnReturnsAt g.F.Fn l.test) goes → IsLeft (λ e. e.1) (λ e. not (goes e.1)) (entries l.table.table) l.session-iterator l.self
