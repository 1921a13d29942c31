use Rattle.std.proofs.Common.{◌++◌, take, length-take-le, arith, subst}
use Rattle.gtp_capture.specs.Outcome.{Known, IsSectionBehind}
use Rattle.gtp_capture.proofs.Blocks.{section_short, section_stands, section_unknown}
use Rattle.gtp_capture.proofs.block.next_section.Goals as goal

pub returns-then-found-lt16-clause-ok : goal.returns-then-found-lt16-clause-ok
returns-then-found-lt16-clause-ok g c = λ room.
    let left = g.R.Read.remaining in
    let front = c.in_ok-front.front in
    let n = c.in_ok-front.found in
    let is = c.in_ok-front.ensures in
    section_short c.args.order c.args.interfaces.now (left c.args.reader.now.inner) (left c.next_octets.new.reader.inner) c.args.head.now
    (take n front) room c.requires.head c.requires.kind is.octets (is.end c.if-found-lt16.true)
    (omega (arith, length-take-le n front (omega (arith, is.size, is.bound)), c.if-found-lt16.true))

pub returns-in-None-clause-ok : goal.returns-in-None-clause-ok
returns-in-None-clause-ok g c = λ room.
    let left = g.R.Read.remaining in
    let front = c.in_ok-front.front in
    section_unknown c.args.order c.args.interfaces.now (left c.args.reader.now.inner) (left c.next_octets.new.reader.inner)
    (left c.finish_section.new.reader.inner) c.args.head.now front room c.requires.head c.requires.kind
    (c.in_ok-front.ensures.whole c.if-found-lt16.false)
    (subst (λ v. Known (IsSectionBehind (c.args.head.now ++ front) v) (left c.next_octets.new.reader.inner) (left c.finish_section.new.reader.inner)) c.in-None.is c.in_ok-order.ensures.ok)

pub returns-in-Some-clause-ok : goal.returns-in-Some-clause-ok
returns-in-Some-clause-ok g c = λ room.
    let left = g.R.Read.remaining in
    let front = c.in_ok-front.front in
    section_stands c.args.order c.args.interfaces.now (left c.args.reader.now.inner) (left c.next_octets.new.reader.inner)
    (left c.finish_section.new.reader.inner) c.args.head.now front room c.in-Some.order c.in-Some.size
    (c.in_ok-front.ensures.whole c.if-found-lt16.false)
    (subst (λ v. Known (IsSectionBehind (c.args.head.now ++ front) v) (left c.next_octets.new.reader.inner) (left c.finish_section.new.reader.inner)) c.in-Some.is c.in_ok-order.ensures.ok)
