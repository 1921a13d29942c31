use Rattle.std.proofs.Common.{◌∙◌, Some, None, sym, subst}
use Rattle.std.specs.FinMap.{remove, values}
use Rattle.gtp_tables.specs.PoolPlaces.{AreCountedIn}
use Rattle.gtp_tables.proofs.Counted.{taken_out}
use Rattle.gtp_tables.proofs.sessions.forget.Goals as goal

pub forget-requires : goal.forget-requires
forget-requires c =
    let m = c.args.table.now.table in (
      values (remove m c.args.teid),
      taken_out m c.args.teid (Some c.in-Some-get.session) c.in-Some.places (sym c.in-Some-get.is ∙ c.get.ensures)
          (subst (AreCountedIn (values m)) c.in-Some.is c.requires),
    )

pub returns-in-Some-get : goal.returns-in-Some-get
returns-in-Some-get c =
    let m = c.args.table.now.table in
    c.forget.ensures (values (remove m c.args.teid))
    (taken_out m c.args.teid (Some c.in-Some-get.session) c.in-Some.places (sym c.in-Some-get.is ∙ c.get.ensures)
    (subst (AreCountedIn (values m)) c.in-Some.is c.requires))

pub returns-in_default-get : goal.returns-in_default-get
returns-in_default-get c =
    let m = c.args.table.now.table in
    taken_out m c.args.teid None c.in-Some.places (sym c.in_default-get.is ∙ c.get.ensures) (subst (AreCountedIn (values m)) c.in-Some.is c.requires)
