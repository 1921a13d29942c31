use Rattle.std.proofs.Common.{◌∙◌, sym, rules}
use Rattle.std.proofs.lemmas.Result.{err_from_is_err_and}
use Rattle.gtp_v2.specs.Table.{Mandatory}
use Rattle.gtp_v2.proofs.Checks.{rows_on, rows_stop, rows_end}
use Rattle.gtp_v2.proofs.check.check_rows.Goals as goal

pub returns-in_err-now : goal.returns-in_err-now
returns-in_err-now c =
    let p = err_from_is_err_and c.from_residual.result c.from_residual.ensures.1 in
    rw (p.1, p.2) (sym c.loop-row.invariant
    ∙ rows_stop c.loop-row.so_far c.args.rows.now c.loop-row.row-index (Mandatory 0 0) c.args.elements.now c.in_err-now.field-0.0
    c.loop-row-test.true c.in_err-now.ensures)

pub loop-row-preserved : goal.loop-row-preserved
loop-row-preserved c =
    sym (rows_on c.loop-row.so_far _ c.in_ok-now.now c.args.rows.now c.loop-row.row-index (Mandatory 0 0) c.args.elements.now c.loop-row-test.true
    c.in_ok-now.ensures (search rules)) ∙ c.loop-row.invariant

pub returns : goal.returns
returns c = sym c.loop-row.invariant ∙ rows_end c.loop-row.so_far c.args.rows.now c.loop-row.row-index c.args.elements.now c.loop-row-test.false
