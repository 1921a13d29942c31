use Rattle.std.proofs.Common.{◌≡◌, ◌∙◌, ◌<◌, length, Some, sym, ap, arith}
use Rattle.std.proofs.lemmas.Bool.Decides.{nat_tests}
use Rattle.gtp_ie.specs.View.{element_of}
use Rattle.gtp_ie.specs.Element.{front_of, elements_of}
use Rattle.gtp_ie.specs.reading.View.{stop_of}
use Rattle.gtp_ie.proofs.Walk.{walk_on, walk_stops, walk_ends, stop_on, walked, front_long, is_stopped}
use Rattle.gtp_ie.proofs.elements.walk_from.Goals as goal

pub returns-in_default : goal.returns-in_default
returns-in_default c =
    let some_left : 0 < length c.loop-rest.rest.now = grind (arith, nat_tests) in
    let stops = walk_stops c.loop-rest.at c.loop-rest.rest.now some_left (sym c.in_default.ensures) in
    is_stopped (elements_of c.args.base c.args.octets.now) c.loop-rest.at (sym c.loop-rest.invariant.stop ∙ ap stop_of stops)

pub loop-rest-preserved : goal.loop-rest-preserved
loop-rest-preserved c =
    let view = element_of c.in-Some.view in
    let found : front_of c.loop-rest.at c.loop-rest.rest.now ≡ Some (view, c.in-Some.after.now) = sym c.in-Some.ensures in
    let on = walk_on c.loop-rest.at c.loop-rest.rest.now view c.in-Some.after.now found in
    let long = front_long c.loop-rest.at c.loop-rest.rest.now view c.in-Some.after.now found in
    record { stop = sym (ap stop_of on ∙ stop_on view _) ∙ c.loop-rest.invariant.stop; place = omega (arith, long.long, c.loop-rest.invariant.place) }

pub invariant_of-result : goal.invariant_of-result
invariant_of-result c =
    let ended : length c.loop-rest.rest.now ≡ 0 = grind (arith, nat_tests) in
    record { whole = sym c.loop-rest.invariant.stop ∙ ap stop_of (walk_ends c.loop-rest.at c.loop-rest.rest.now ended); place = c.requires }

pub returns : goal.returns
returns c =
    let ended : length c.loop-rest.rest.now ≡ 0 = grind (arith, nat_tests) in
    walked (elements_of c.args.base c.args.octets.now) (sym c.loop-rest.invariant.stop ∙ ap stop_of (walk_ends c.loop-rest.at c.loop-rest.rest.now ended))
