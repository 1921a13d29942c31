use Rattle.gtp_tables.specs.Free.{V4, V6}
use Rattle.gtp_tables.specs.Lowest.{IsLowestPlace, place_in}
use Rattle.gtp_tables.proofs.Lowest.{in_front, of_both}
use Rattle.gtp_tables.proofs.pool.Pools.lowest_of_both.Goals as goal

pub lowest_after-requires : goal.lowest_after-requires
lowest_after-requires c =
    in_front c.args.restarted V4 c.args.self.now c.front.result c.args.sessions.now (c.front.ensures.count V4) (c.front.ensures.places V4)
    c.places_in_windows-found.result.v4 (c.places_in_windows-found.ensures V4)

pub lowest_after-requires-2 : goal.lowest_after-requires-2
lowest_after-requires-2 c =
    in_front c.args.restarted V6 c.args.self.now c.front.result c.args.sessions.now (c.front.ensures.count V6) (c.front.ensures.places V6)
    c.places_in_windows-found.result.v6 (c.places_in_windows-found.ensures V6)

pub returns : goal.returns
returns c =
    of_both (λ version. IsLowestPlace c.args.restarted version c.args.self.now c.args.sessions.now
    (place_in (record { v4 = c.lowest_after.result; v6 = c.lowest_after-2.result }) version)) c.lowest_after.ensures c.lowest_after-2.ensures
