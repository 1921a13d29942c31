use Rattle.std.proofs.Common.{arith, ◌∙◌}
use Rattle.gtp_capture.proofs.Meanings.{simple_alone, four_found, four_alone, pair_found, pair_alone}
use Rattle.gtp_capture.proofs.block_kind.frame_in_block.Goals as goal

pub returns-then-kind-eq3-clause-none : goal.returns-then-kind-eq3-clause-none
returns-then-kind-eq3-clause-none c = simple_alone c.args.order c.args.interfaces.now c.args.kind c.args.size c.args.front.now c.simple_of.result c.if-kind-eq3.true c.simple_of.ensures.none

pub returns-then-kind-eq6-clause-found : goal.returns-then-kind-eq6-clause-found
returns-then-kind-eq6-clause-found c =
    four_found c.args.order c.args.interfaces.now c.args.kind c.four.result c.args.size c.args.front.now c.timed_of.result c.if-kind-eq6.true
    c.four.ensures (omega (arith, c.requires, c.if-size-lt20.false)) c.timed_of.ensures.found

pub returns-then-kind-eq6-clause-none : goal.returns-then-kind-eq6-clause-none
returns-then-kind-eq6-clause-none c =
    four_alone c.args.order c.args.interfaces.now c.args.kind c.four.result c.args.size c.args.front.now c.timed_of.result c.if-kind-eq6.true
    c.four.ensures (omega (arith, c.requires, c.if-size-lt20.false)) c.timed_of.ensures.none

pub returns-then-kind-eq2-clause-found : goal.returns-then-kind-eq2-clause-found
returns-then-kind-eq2-clause-found c =
    pair_found c.args.order c.args.interfaces.now c.args.kind c.from.result c.args.size c.args.front.now c.timed_of-then-kind-eq2.result
    c.if-kind-eq2.true (c.from.ensures ∙ c.pair.ensures) (omega (arith, c.requires, c.if-size-lt20.false)) c.timed_of-then-kind-eq2.ensures.found

pub returns-then-kind-eq2-clause-none : goal.returns-then-kind-eq2-clause-none
returns-then-kind-eq2-clause-none c =
    pair_alone c.args.order c.args.interfaces.now c.args.kind c.from.result c.args.size c.args.front.now c.timed_of-then-kind-eq2.result
    c.if-kind-eq2.true (c.from.ensures ∙ c.pair.ensures) (omega (arith, c.requires, c.if-size-lt20.false)) c.timed_of-then-kind-eq2.ensures.none
