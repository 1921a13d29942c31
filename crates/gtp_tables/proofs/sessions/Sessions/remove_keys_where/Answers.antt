use Rattle.std.proofs.Common.{sym, subst}
use Rattle.std.specs.FinMap.{values}
use Rattle.gtp_tables.specs.declared.context.Session.{Session}
use Rattle.gtp_tables.specs.Rows.{Rows}
use Rattle.gtp_tables.specs.PoolPlaces.{AreCountedIn}
use Rattle.gtp_tables.proofs.sessions.Sessions.remove_keys_where.Goals as goal

pub invariant_of-self : goal.invariant_of-self
invariant_of-self g c =
    let goes = c.requires.decides.0 in
    let right = c.requires.decides.1 in
    subst (λ (r : Rows Session). AreCountedIn (values r.table) c.forget_keys_where.new.places) (sym (c.remove_keys_where.ensures goes right)) (c.forget_keys_where.ensures goes right)
