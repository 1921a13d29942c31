use Rattle.std.proofs.Common.{◌∙◌, List, ap, sym, subst}
use Rattle.std.specs.FinMap.{values}
use Rattle.gtp_tables.specs.declared.context.Session.{Session}
use Rattle.gtp_tables.specs.Rows.{Rows}
use Rattle.gtp_tables.specs.PoolPlaces.{AreCounted}
use Rattle.gtp_tables.proofs.Alike.{no_values}
use Rattle.gtp_tables.proofs.sessions.Sessions.with_pools.Goals as goal

pub invariant_of-result : goal.invariant_of-result
invariant_of-result c = subst (λ (ss : List Session). AreCounted ss c.in_ok-new.field-0) (sym (ap (λ (r : Rows Session). values r.table) c.new.ensures ∙ no_values)) c.in_ok-new.ensures
