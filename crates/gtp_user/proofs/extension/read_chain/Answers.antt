use Rattle.std.proofs.Common.{◌≡◌, ◌<◌, subst, arith}
use Rattle.std.proofs.lemmas.Result.{err_from_is_err_and}
use Rattle.std.proofs.lemmas.Bool.Decides.{nat_tests}
use Rattle.gtp_user.specs.reading.Chained.{front_of}
use Rattle.gtp_user.proofs.Chains.{SoFar, so_far_stops, so_far_goes_on, so_far_ends}
use Rattle.gtp_user.proofs.extension.read_chain.Goals as goal

pub returns-in_err-front-clause-chain : goal.returns-in_err-front-clause-chain
returns-in_err-front-clause-chain c =
    let p = err_from_is_err_and c.from_residual.result c.from_residual.ensures.1 in
    let some : 0 < c.loop-kind.kind = grind (arith, nat_tests) in
    rw (p.1, p.2) (so_far_stops c.args.end c.args.first c.loop-kind.kind c.args.octets.now c.loop-kind.rest.now c.in_err-front.field-0.0 c.loop-kind.invariant.so_far some c.in_err-front.ensures)

pub loop-kind-preserved : goal.loop-kind-preserved
loop-kind-preserved c =
    let some : 0 < c.loop-kind.kind = grind (arith, nat_tests) in
    let on = so_far_goes_on c.args.end c.args.first c.loop-kind.kind c.args.octets.now c.loop-kind.rest.now (front_of c.in_ok-front.front) c.loop-kind.invariant.so_far some c.in_ok-front.ensures in
    record { within = omega (arith, on.shorter, c.loop-kind.invariant.within); so_far = on.so_far }

pub loop-kind-smaller : goal.loop-kind-smaller
loop-kind-smaller c =
    let some : 0 < c.loop-kind.kind = grind (arith, nat_tests) in
    (so_far_goes_on c.args.end c.args.first c.loop-kind.kind c.args.octets.now c.loop-kind.rest.now (front_of c.in_ok-front.front) c.loop-kind.invariant.so_far some c.in_ok-front.ensures).shorter

pub invariant_of-chain : goal.invariant_of-chain
invariant_of-chain c =
    let ended : c.loop-kind.kind ≡ 0 = grind (arith, nat_tests) in
    (so_far_ends c.args.end c.args.first c.args.octets.now c.loop-kind.rest.now (subst (λ k. SoFar c.args.first c.args.octets.now k c.loop-kind.rest.now) ended c.loop-kind.invariant.so_far)).whole

pub returns-clause-chain : goal.returns-clause-chain
returns-clause-chain c =
    let ended : c.loop-kind.kind ≡ 0 = grind (arith, nat_tests) in
    (so_far_ends c.args.end c.args.first c.args.octets.now c.loop-kind.rest.now (subst (λ k. SoFar c.args.first c.args.octets.now k c.loop-kind.rest.now) ended c.loop-kind.invariant.so_far)).chain
