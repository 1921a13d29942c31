use Rattle.std.proofs.Common.{◌∷◌, sym, subst}
use Rattle.gtp_tables.specs.PoolPlaces.{IsCounted}
use Rattle.gtp_tables.proofs.Counted.{few, noted}
use Rattle.gtp_tables.proofs.pool_places.note.Goals as goal

pub take-requires-clause-few : goal.take-requires-clause-few
take-requires-clause-few c = few c.args.pools.now c.args.version c.args.session.now c.requires.0 c.args.counts.now c.in-Some.place c.requires.1 c.in-Some.ensures.within c.requires.2

pub returns-in-Some : goal.returns-in-Some
returns-in-Some c = λ others is.
    subst (IsCounted c.args.pools.now c.args.version (c.args.session.now ∷ others)) (sym c.take.ensures)
    (noted c.args.pools.now c.args.version c.args.session.now others c.args.counts.now c.in-Some.place c.in-Some.ensures.within c.in-Some.ensures.some is)
