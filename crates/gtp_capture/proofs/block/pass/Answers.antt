use Rattle.std.proofs.Common.{rules, ◌≡◌, ◌++◌, length, take, arith, length-append, length-take-le}
use Rattle.gtp_capture.proofs.Finishing.{pass_short, pass_more}
use Rattle.gtp_capture.proofs.block.pass.Goals as goal

pub returns-then-branch-part-clause-ok : goal.returns-then-branch-part-clause-ok
returns-then-branch-part-clause-ok g c =
    let left = g.R.Read.remaining in
    let passed = c.loop-left.invariant.passed in
    let n = c.in_ok-fill.field-0 in
    let room : length c.fill.new.room ≡ c.min-part.result = search rules in
    pass_short (left c.args.reader.now.inner) (left c.loop-left.reader.inner) (left c.fill.new.reader.inner) passed.0 (take n c.fill.new.room)
    c.loop-left.left c.args.size passed.1 passed.2 c.in_ok-fill.ensures.octets (c.in_ok-fill.ensures.end (omega (arith, c.if-branch-part.true, room)))
    (omega (arith, length-take-le n c.fill.new.room c.in_ok-fill.ensures.bound, c.if-branch-part.true, c.min-part.ensures))

pub loop-left-preserved : goal.loop-left-preserved
loop-left-preserved g c =
    let left = g.R.Read.remaining in
    let passed = c.loop-left.invariant.passed in
    let n = c.in_ok-fill.field-0 in
    let got = take n c.fill.new.room in
    let room : length c.fill.new.room ≡ c.min-part.result = search rules in
    record {
      passed = (
        passed.0 ++ got,
        omega (arith, length-append passed.0 got, length-take-le n c.fill.new.room c.in_ok-fill.ensures.bound, c.in_ok-fill.ensures.bound, c.if-branch-part.false, room, c.min-part.ensures, passed.1),
        pass_more (left c.args.reader.now.inner) (left c.loop-left.reader.inner) (left c.fill.new.reader.inner) passed.0 got passed.2 c.in_ok-fill.ensures.octets,
      );
      count = search rules;
    }
