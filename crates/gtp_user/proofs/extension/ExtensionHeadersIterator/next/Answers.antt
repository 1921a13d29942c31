use Rattle.std.proofs.Common.{◌≡◌, ◌∙◌, ◌<◌, sym, ap, length, arith}
use Rattle.std.proofs.lemmas.Bool.Decides.{nat_tests}
use Rattle.gtp_user.specs.reading.Chained.{front_of}
use Rattle.gtp_user.proofs.Chains.{whole_end, whole_next, whole_begins}
use Rattle.gtp_user.proofs.extension.ExtensionHeadersIterator.next.Goals as goal

pub returns-then-kind-eq0-clause-steps : goal.returns-then-kind-eq0-clause-steps
returns-then-kind-eq0-clause-steps c =
    let zero_is : c.self.inside.next ≡ 0 = grind (arith, nat_tests) in
    let empty = sym c.self.view_is ∙ whole_end c.self.inside.next c.self.inside.octets.now c.self.invariant zero_is in
    (empty, empty)

pub returns-in_default-clause-steps : goal.returns-in_default-clause-steps
returns-in_default-clause-steps c =
    let some : 0 < c.self.inside.next = grind (arith, nat_tests) in
    absurd (whole_begins c.self.inside.next c.self.inside.octets.now c.in_default.field-0 c.self.invariant some c.in_default.ensures)

pub invariant_of-self : goal.invariant_of-self
invariant_of-self c =
    let some : 0 < c.self.inside.next = grind (arith, nat_tests) in
    (whole_next c.self.inside.next c.self.inside.octets.now (front_of c.in-Ok.front) c.self.invariant some c.in-Ok.ensures).others

pub returns-clause-steps : goal.returns-clause-steps
returns-clause-steps c =
    let some : 0 < c.self.inside.next = grind (arith, nat_tests) in
    sym c.self.view_is ∙ (whole_next c.self.inside.next c.self.inside.octets.now (front_of c.in-Ok.front) c.self.invariant some c.in-Ok.ensures).headers

pub returns-clause-goes : goal.returns-clause-goes
returns-clause-goes c =
    let some : 0 < c.self.inside.next = grind (arith, nat_tests) in
    let e = sym c.self.view_is ∙ (whole_next c.self.inside.next c.self.inside.octets.now (front_of c.in-Ok.front) c.self.invariant some c.in-Ok.ensures).headers in
    record { on = λ _. (tt, tt, omega (arith, ap length e)); keeps = tt; rests = λ _. tt }
