use Rattle.std.proofs.Common.{◌∙◌, List, ◌++◌, map, take, ap, subst, sym}
use Rattle.gtp_replay.specs.Rows.{Row}
use Rattle.gtp_replay.specs.Diagram.{IsDiagram}
use Rattle.gtp_replay.specs.RowViews.{row_of}
use Rattle.gtp_replay.proofs.Pictures.{diagram_more, seen_more}
use Rattle.gtp_replay.proofs.drawing.drawn.Goals as goal

pub loop-row-preserved : goal.loop-row-preserved
loop-row-preserved c =
    let l = c.loop-row in
    subst (λ (rows : List Row). IsDiagram rows c.put-in-loop-row.new.out.items) (sym (seen_more row_of c.args.rows.now l.row-index c.row-item.result c.row-item.is c.loop-row-test.true))
    (diagram_more (map row_of (take l.row-index c.args.rows.now)) (row_of c.row-item.result) l.text.items c.in_ok-line.line.items
    c.put-in-loop-row.new.out.items l.invariant c.in_ok-line.ensures
    (c.in_ok-put-2.ensures.ok ∙ ap (λ line. l.text.items ++ line) c.deref.ensures.value))
