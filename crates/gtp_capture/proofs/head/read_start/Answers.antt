use Rattle.std.proofs.Common.{◌∙◌, take, length-take-le, arith}
use Rattle.gtp_capture.proofs.Starts.{start_short, start_records, start_other}
use Rattle.gtp_capture.proofs.head.read_start.Goals as goal

pub returns-then-found-lt24-clause-ok : goal.returns-then-found-lt24-clause-ok
returns-then-found-lt24-clause-ok g c =
    let left = g.R.Read.remaining in
    let head = c.in_ok-head.head in
    let n = c.in_ok-head.found in
    let is = c.in_ok-head.ensures in
    start_short (left c.args.reader.now.inner) (left c.next_octets.new.reader.inner) (take n head) is.octets (is.end c.if-found-lt24.true)
    (omega (arith, length-take-le n head (omega (arith, is.size, is.bound)), c.if-found-lt24.true))

pub returns-in-Some-clause-ok : goal.returns-in-Some-clause-ok
returns-in-Some-clause-ok g c =
    let left = g.R.Read.remaining in
    let is = c.in_ok-head.ensures in
    start_records (left c.args.reader.now.inner) (left c.next_octets.new.reader.inner) c.in_ok-head.head c.in-Some.kind (is.whole c.if-found-lt24.false) is.size c.in-Some.ensures.found

pub returns-then-four-ne-SECTION-clause-ok : goal.returns-then-four-ne-SECTION-clause-ok
returns-then-four-ne-SECTION-clause-ok g c =
    let left = g.R.Read.remaining in
    let is = c.in_ok-head.ensures in
    start_other (left c.args.reader.now.inner) (left c.next_octets.new.reader.inner) c.in_ok-head.head (is.whole c.if-found-lt24.false) is.size
    c.in-None.ensures.none (λ e. c.if-four-ne-SECTION.true (c.four.ensures ∙ e))
