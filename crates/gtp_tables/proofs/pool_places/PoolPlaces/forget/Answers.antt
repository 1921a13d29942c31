use Rattle.gtp_tables.proofs.pool_places.PoolPlaces.forget.Goals as goal

pub returns : goal.returns
returns c = λ others is. record { v4 = c.forget.ensures others is.v4; v6 = c.forget-2.ensures others is.v6 }
