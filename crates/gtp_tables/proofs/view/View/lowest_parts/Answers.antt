use Rattle.std.proofs.Common.{refl}
use Rattle.std.specs.FinMap.{values}
use Rattle.gtp_tables.specs.Contexts.{Contexts}
use Rattle.gtp_tables.specs.Free.{V4, V6}
use Rattle.gtp_tables.proofs.Lowest.{found_within, lowest_part}
use Rattle.gtp_tables.proofs.view.View.lowest_parts.Goals as goal

pub at_found-requires : goal.at_found-requires
at_found-requires c =
    let places = c.lowest_places-places in
    found_within c.self.inside.restarted V4 c.args.pools.now c.args.asked (values c.self.inside.sessions.now.table) places.result.v4 (places.ensures.lowest V4) (places.ensures.unasked V4)

pub at_found-requires-2 : goal.at_found-requires-2
at_found-requires-2 c =
    let places = c.lowest_places-places in
    found_within c.self.inside.restarted V6 c.args.pools.now c.args.asked (values c.self.inside.sessions.now.table) places.result.v6 (places.ensures.lowest V6) (places.ensures.unasked V6)

pub returns-clause-v4 : goal.returns-clause-v4
returns-clause-v4 c =
    let all : Contexts = record { sessions = c.self.inside.sessions.now.table; bearers = c.self.inside.bearers.now } in
    let places = c.lowest_places-places in
    lowest_part c.self.inside.restarted V4 all c.args.self.now c.self.view_is c.args.pools.now c.args.asked (values all.sessions) (λ _. refl)
    places.result.v4 (places.ensures.lowest V4) (places.ensures.unasked V4) c.at_found.result c.at_found.ensures

pub returns-clause-v6 : goal.returns-clause-v6
returns-clause-v6 c =
    let all : Contexts = record { sessions = c.self.inside.sessions.now.table; bearers = c.self.inside.bearers.now } in
    let places = c.lowest_places-places in
    lowest_part c.self.inside.restarted V6 all c.args.self.now c.self.view_is c.args.pools.now c.args.asked (values all.sessions) (λ _. refl)
    places.result.v6 (places.ensures.lowest V6) (places.ensures.unasked V6) c.at_found-2.result c.at_found-2.ensures
