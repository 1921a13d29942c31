use Rattle.std.proofs.Common.{sym, subst}
use Rattle.std.specs.FinMap.{values}
use Rattle.gtp_tables.specs.declared.context.Session.{Session}
use Rattle.gtp_tables.specs.Rows.{Rows}
use Rattle.gtp_tables.specs.PoolPlaces.{AreCountedIn}
use Rattle.gtp_tables.proofs.sessions.Sessions.remove.Goals as goal

pub invariant_of-self : goal.invariant_of-self
invariant_of-self c = subst (λ (r : Rows Session). AreCountedIn (values r.table) c.forget.new.places) (sym c.remove.ensures) c.forget.ensures
