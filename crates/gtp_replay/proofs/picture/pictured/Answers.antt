use Rattle.std.proofs.Common.{◌≡◌, ◌∙◌, List, ◌++◌, map, take, length, length-take-le, ap, subst, sym, arith}
use Rattle.std.proofs.lemmas.List.{length-map}
use Rattle.gtp_replay.specs.Rows.{Row}
use Rattle.gtp_gateway.specs.Settings.{addresses_of}
use Rattle.gtp_replay.specs.Svg.{svg_head, height_of}
use Rattle.gtp_replay.specs.RowViews.{row_of}
use Rattle.gtp_replay.proofs.Pictures.{DrawnSoFar, group_more, seen_more}
use Rattle.gtp_replay.proofs.picture.pictured.Goals as goal

pub loop-index-preserved : goal.loop-index-preserved
loop-index-preserved c =
    let l = c.loop-index in
    let rows = c.args.rows.now in
    let head = svg_head (addresses_of c.args.serving) (addresses_of c.args.packet) (height_of (length rows)) in
    let some : length (map row_of (take l.index rows)) ≡ l.index = length-map (take l.index rows) row_of ∙ length-take-le l.index rows (omega (arith, c.loop-index-test.true)) in
    subst (λ (seen : List Row). DrawnSoFar head seen c.put.new.out.items) (sym (seen_more row_of rows l.index c.index-rows-index.result c.index-rows-index.is c.loop-index-test.true))
    (group_more head (map row_of (take l.index rows)) (row_of c.index-rows-index.result) l.index l.text.items c.in_ok-group.group.items c.put.new.out.items some l.invariant c.in_ok-group.ensures
    (c.in_ok-put.ensures.ok ∙ ap (λ group. l.text.items ++ group) c.deref.ensures.value))
