use Rattle.std.proofs.Common.{◌≡◌, ◌<◌, ◌+◌, ◌∙◌, length, get_or, Some, sym, ap, subst, arith}
use Rattle.std.proofs.lemmas.Bool.Decides.{nat_tests}
use Rattle.gtp_ie.specs.View.{element_of}
use Rattle.gtp_ie.specs.Element.{front_of}
use Rattle.gtp_ie.specs.reading.View.{stop_of}
use Rattle.gtp_ie.proofs.Walk.{walk_stops, walk_ends}
use Rattle.gtp_ie.proofs.Indexing.{Indexes, index_known, index_noted, index_last}
use Rattle.gtp_ie.proofs.elements.index.fill.Goals as goal
use Rattle.gtp_ie.proofs.elements.index.fill.Goals.{then-lefts-slot-eq0, else-lefts-slot-eq0}

pub returns-in_default-clause-stop : goal.returns-in_default-clause-stop
returns-in_default-clause-stop c =
    let some_left : 0 < length c.loop-rest.rest.now = grind (arith, nat_tests) in
    let stops = walk_stops c.loop-rest.at c.loop-rest.rest.now some_left (sym c.in_default.ensures) in
    sym (sym c.loop-rest.invariant.stop ∙ ap stop_of stops)

pub loop-rest-preserved : goal.loop-rest-preserved
loop-rest-preserved c =
    let e = element_of c.in-Some.view in
    let found : front_of c.loop-rest.at c.loop-rest.rest.now ≡ Some (e, c.in-Some.after.now) = sym c.in-Some.ensures in
    let same = c.slot_in_walk-slot.ensures.value in
    elim c.if-lefts-slot-eq0.branch as (λ _. Indexes c.args.base c.args.octets.now c.if-lefts-slot-eq0.lefts c.in-Some.after.now (c.loop-rest.at + (4 + length e.body))) [
      | then-lefts-slot-eq0 w ↦
          rw (w.lefts-is, same)
          (index_noted c.args.base c.args.octets.now c.loop-rest.lefts c.loop-rest.rest.now c.loop-rest.at e c.in-Some.after.now found
          (subst (λ s. s < 22) same c.slot_in_walk-slot.ensures.range) (sym (ap (λ s. get_or c.loop-rest.lefts s 0) same) ∙ w.if-lefts-slot-eq0.true)
          c.loop-rest.invariant)
      | else-lefts-slot-eq0 w ↦
          let some : 0 < get_or c.loop-rest.lefts c.slot_in_walk-slot.result 0 = omega (arith, w.if-lefts-slot-eq0.false) in
          rw w.lefts-is (index_known c.args.base c.args.octets.now c.loop-rest.lefts c.loop-rest.rest.now c.loop-rest.at e c.in-Some.after.now found
          (subst (λ s. 0 < get_or c.loop-rest.lefts s 0) same some) c.loop-rest.invariant)
    ]

pub returns-clause-stop : goal.returns-clause-stop
returns-clause-stop c =
    let ended : length c.loop-rest.rest.now ≡ 0 = grind (arith, nat_tests) in
    sym (sym c.loop-rest.invariant.stop ∙ ap stop_of (walk_ends c.loop-rest.at c.loop-rest.rest.now ended))

pub returns-clause-index : goal.returns-clause-index
returns-clause-index c =
    let ended : length c.loop-rest.rest.now ≡ 0 = grind (arith, nat_tests) in
    λ none. index_last c.args.base c.args.octets.now c.loop-rest.lefts c.loop-rest.rest.now c.loop-rest.at c.requires.place ended c.loop-rest.invariant
