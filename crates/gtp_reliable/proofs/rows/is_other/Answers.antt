use Rattle.std.proofs.Common.{◌∙◌, ap, sym, not}
use Rattle.gtp_reliable.specs.Rows.{is_other}
use Rattle.gtp_reliable.proofs.rows.is_other.Goals as goal

pub returns-in-Some : goal.returns-in-Some
returns-in-Some g c =
    ap not (c.requires.1.1.1 c.in-Some.row.purpose c.meets.result c.meets.ensures) ∙ ap (is_other g.meets) (sym c.in-Some.is)
