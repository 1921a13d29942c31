use Rattle.std.proofs.Common.{◌≡◌, ◌∙◌, ◌<◌, length, Some, sym, ap, arith}
use Rattle.std.proofs.lemmas.Bool.Decides.{nat_tests}
use Rattle.gtp_user.specs.reading.Elements.{element_at, elements_at}
use Rattle.gtp_user.specs.reading.Gathered.{element_of, found_of}
use Rattle.gtp_user.proofs.Begun.{element_shorter}
use Rattle.gtp_user.proofs.Gathers.{found_before, found_first, found_on, found_stop, found_end}
use Rattle.gtp_user.proofs.element.read_elements.Goals as goal

pub loop-rest-init : goal.loop-rest-init
loop-rest-init c = record { within = omega arith; found = found_first c.args.end c.args.octets.now }

pub returns-in_default : goal.returns-in_default
returns-in_default c =
    let some_left : 0 < length c.loop-rest.rest.now = grind (arith, nat_tests) in
    sym c.loop-rest.invariant.found ∙ found_stop (found_of c.loop-rest.found) c.args.end c.loop-rest.rest.now some_left (sym c.in_default.ensures)

pub loop-rest-smaller : goal.loop-rest-smaller
loop-rest-smaller c = element_shorter c.loop-rest.rest.now (element_of c.in-Some.element) c.in-Some.tail.now (sym c.in-Some.ensures)

pub loop-rest-preserved : goal.loop-rest-preserved
loop-rest-preserved c =
    let here : element_at c.loop-rest.rest.now ≡ Some (element_of c.in-Some.element, c.in-Some.tail.now) = sym c.in-Some.ensures in
    let shorter : length c.in-Some.tail.now < length c.loop-rest.rest.now = element_shorter c.loop-rest.rest.now (element_of c.in-Some.element) c.in-Some.tail.now here in
    record {
      within = omega (arith, c.loop-rest.invariant.within);
      found =
          ap (λ f. found_before f (elements_at c.args.end c.in-Some.tail.now)) c.and-found.ensures
          ∙ (found_on (found_of c.loop-rest.found) c.args.end c.loop-rest.rest.now (element_of c.in-Some.element) c.in-Some.tail.now here
          ∙ c.loop-rest.invariant.found);
    }

pub returns : goal.returns
returns c =
    let ended : length c.loop-rest.rest.now ≡ 0 = grind (arith, nat_tests) in
    sym c.loop-rest.invariant.found ∙ found_end (found_of c.loop-rest.found) c.args.end c.loop-rest.rest.now ended
