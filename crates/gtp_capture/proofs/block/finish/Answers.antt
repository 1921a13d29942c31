use Rattle.std.proofs.Common.{take, length-take-le, arith, subst}
use Rattle.gtp_capture.specs.Outcome.{Known}
use Rattle.gtp_capture.specs.reading.Block.{Passes}
use Rattle.gtp_capture.proofs.Finishing.{finish_says, finish_short}
use Rattle.gtp_capture.proofs.block.finish.Goals as goal

pub returns-then-found-lt4-clause-ok : goal.returns-then-found-lt4-clause-ok
returns-then-found-lt4-clause-ok g c =
    let left = g.R.Read.remaining in
    let tail = c.in_ok-tail.tail in
    let n = c.in_ok-tail.found in
    let is = c.in_ok-tail.ensures in
    finish_short c.args.order c.args.left c.args.size (left c.args.reader.now.inner) (left c.pass.new.reader.inner)
    (left c.next_octets.new.reader.inner) (take n tail)
    (subst (λ v. Known (Passes c.args.left v) (left c.args.reader.now.inner) (left c.pass.new.reader.inner)) c.if-not-branch.false
    c.in_ok-pass.ensures.ok) is.octets (is.end c.if-found-lt4.true)
    (omega (arith, length-take-le n tail (omega (arith, is.size, is.bound)), c.if-found-lt4.true))

pub returns-clause-ok : goal.returns-clause-ok
returns-clause-ok g c =
    let left = g.R.Read.remaining in
    let is = c.in_ok-tail.ensures in
    finish_says c.args.order c.args.left c.args.size c.four.result (left c.args.reader.now.inner) (left c.pass.new.reader.inner)
    (left c.next_octets.new.reader.inner) c.in_ok-tail.tail
    (subst (λ v. Known (Passes c.args.left v) (left c.args.reader.now.inner) (left c.pass.new.reader.inner)) c.if-not-branch.false
    c.in_ok-pass.ensures.ok) (is.whole c.if-found-lt4.false) is.size c.four.ensures
