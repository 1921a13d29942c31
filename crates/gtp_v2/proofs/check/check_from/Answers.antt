use Rattle.std.proofs.Common.{◌∙◌, sym}
use Rattle.std.proofs.lemmas.Result.{err_from_is_err_and}
use Rattle.gtp_v2.proofs.Checks.{lines_on, lines_stop, lines_end, no_line}
use Rattle.gtp_v2.proofs.check.check_from.Goals as goal

pub returns-in_err-now : goal.returns-in_err-now
returns-in_err-now c =
    let p = err_from_is_err_and c.from_residual.result c.from_residual.ensures.1 in
    rw (p.1, p.2) (sym c.loop-line.invariant
    ∙ lines_stop c.loop-line.so_far c.args.lines.now c.loop-line.line-index no_line c.args.elements.now c.in_err-now.field-0.0 c.loop-line-test.true
    c.in_err-now.ensures)

pub loop-line-preserved : goal.loop-line-preserved
loop-line-preserved c =
    sym (lines_on c.loop-line.so_far c.in_ok-now.now c.args.lines.now c.loop-line.line-index no_line c.args.elements.now c.loop-line-test.true c.in_ok-now.ensures) ∙ c.loop-line.invariant

pub returns : goal.returns
returns c = sym c.loop-line.invariant ∙ lines_end c.loop-line.so_far c.args.lines.now c.loop-line.line-index c.args.elements.now c.loop-line-test.false
