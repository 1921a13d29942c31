use Rattle.gtp_tables.proofs.pool_places.PoolPlaces.note.Goals as goal

pub returns : goal.returns
returns c = λ others is. record { v4 = c.note.ensures others is.v4; v6 = c.note-2.ensures others is.v6 }
