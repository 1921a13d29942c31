use Rattle.std.proofs.Common.{◌≡◌, ◌<◌, subst, arith}
use Rattle.std.proofs.lemmas.Result.{err_from_is_err_and}
use Rattle.std.proofs.lemmas.Bool.Decides.{nat_tests}
use Rattle.gtp_user.specs.reading.Chained.{front_of}
use Rattle.gtp_user.proofs.Chains.{SoFarBy, goes_on}
use Rattle.gtp_user.proofs.Judged.{tail_stops, tail_ends}
use Rattle.gtp_user.proofs.judging.judge_chain.Goals as goal

pub returns-in_err-front-clause-rest : goal.returns-in_err-front-clause-rest
returns-in_err-front-clause-rest c =
    let p = err_from_is_err_and c.from_residual.result c.from_residual.ensures.1 in
    let some : 0 < c.loop-kind.kind = grind (arith, nat_tests) in
    rw (p.1, p.2) (tail_stops c.args.understood.now c.args.end c.args.first c.loop-kind.kind c.args.octets.now c.loop-kind.rest.now c.in_err-front.field-0.0
    c.loop-kind.invariant.so_far some c.in_err-front.ensures)

pub loop-kind-preserved : goal.loop-kind-preserved
loop-kind-preserved c =
    let some : 0 < c.loop-kind.kind = grind (arith, nat_tests) in
    let on = goes_on c.args.understood.now c.args.end c.args.first c.loop-kind.kind c.args.octets.now c.loop-kind.rest.now c.loop-kind.invariant.so_far
    (front_of c.in_ok-front.front) some c.in_ok-front.ensures in
    record { within = omega (arith, on.shorter, c.loop-kind.invariant.within); so_far = on.so_far }

pub loop-kind-smaller : goal.loop-kind-smaller
loop-kind-smaller c =
    let some : 0 < c.loop-kind.kind = grind (arith, nat_tests) in
    (goes_on c.args.understood.now c.args.end c.args.first c.loop-kind.kind c.args.octets.now c.loop-kind.rest.now c.loop-kind.invariant.so_far
    (front_of c.in_ok-front.front) some c.in_ok-front.ensures).shorter

pub returns-clause-rest : goal.returns-clause-rest
returns-clause-rest c =
    let ended : c.loop-kind.kind ≡ 0 = grind (arith, nat_tests) in
    tail_ends c.args.understood.now c.args.end c.args.first c.args.octets.now c.loop-kind.rest.now
    (subst (λ k. SoFarBy c.args.understood.now c.args.first c.args.octets.now k c.loop-kind.rest.now) ended c.loop-kind.invariant.so_far)
