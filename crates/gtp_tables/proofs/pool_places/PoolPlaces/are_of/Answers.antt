use Rattle.std.proofs.Common.{◌∙◌, sym}
use Rattle.gtp_tables.proofs.Places.{same_pools}
use Rattle.gtp_tables.proofs.pool_places.PoolPlaces.are_of.Goals as goal

pub returns : goal.returns
returns c = λ is. same_pools c.args.self.now.pools c.args.pools.now (sym c.eq.ensures ∙ is)
