use Rattle.std.proofs.Common.{rules, ◌<◌, take, length-take-le, arith}
use Rattle.gtp_capture.proofs.Blocks.{block_short, section_next}
use Rattle.gtp_capture.proofs.block.next_block.Goals as goal

pub returns-then-found-lt8-clause-ok : goal.returns-then-found-lt8-clause-ok
returns-then-found-lt8-clause-ok g c =
    let left = g.R.Read.remaining in
    let head = c.in_ok-head.head in
    let n = c.in_ok-head.found in
    let is = c.in_ok-head.ensures in
    let held = length-take-le n head (omega (arith, is.size, is.bound)) in
    let some : 0 < n = search rules in
    block_short c.args.order c.args.interfaces.now (left c.args.reader.now.inner) (left c.next_octets.new.reader.inner) (take n head)
    c.args.room.now.items is.octets (is.end c.if-found-lt8.true) (omega (arith, held, some)) (omega (arith, held, c.if-found-lt8.true))

pub returns-then-four-eq-SECTION-clause-ok : goal.returns-then-four-eq-SECTION-clause-ok
returns-then-four-eq-SECTION-clause-ok g c =
    let left = g.R.Read.remaining in
    section_next c.args.order c.args.interfaces.now (left c.args.reader.now.inner) (left c.next_octets.new.reader.inner) _ c.in_ok-head.head
    c.args.room.now.items c.next_section.result (c.in_ok-head.ensures.whole c.if-found-lt8.false) c.next_section.ensures.ok
