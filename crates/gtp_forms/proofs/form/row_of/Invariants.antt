use Rattle.std.proofs.Common.{◌≡◌, drop}
use Rattle.gtp_forms.specs.Rows.{row_of}
use Rattle.gtp_forms.proofs.form.row_of.Given as goal

-- the first among those that are left is the first of all
abbrev pub invariant-loop-row : goal.invariant-loop-row
invariant-loop-row l = row_of (drop l.row-index l.rows) l.kind ≡ row_of l.rows l.kind
