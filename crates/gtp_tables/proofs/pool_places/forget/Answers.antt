use Rattle.std.proofs.Common.{sym, subst}
use Rattle.gtp_tables.specs.PoolPlaces.{IsCounted}
use Rattle.gtp_tables.proofs.Counted.{forgotten}
use Rattle.gtp_tables.proofs.pool_places.forget.Goals as goal

pub returns-in-Some : goal.returns-in-Some
returns-in-Some c = λ others is.
    subst (IsCounted c.args.pools.now c.args.version others) (sym c.give_back.ensures)
    (forgotten c.args.pools.now c.args.version c.args.session.now others c.args.counts.now c.in-Some.place c.in-Some.ensures.within c.in-Some.ensures.some is)
