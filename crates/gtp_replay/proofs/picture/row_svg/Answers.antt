use Rattle.std.proofs.Common.{◌≡◌, ◌∙◌, ◌++◌, codes, ap, subst, sym}
use Rattle.gtp_world.specs.Record.{sent_by}
use Rattle.gtp_replay.specs.RowViews.{row_of}
use Rattle.gtp_replay.specs.Svg.{arrow_svg, short_path, IsRowSvg}
use Rattle.gtp_replay.proofs.picture.row_svg.Goals as goal

pub returns-in_ok-put_arrow_svg-in-Lost : goal.returns-in_ok-put_arrow_svg-in-Lost
returns-in_ok-put_arrow_svg-in-Lost c =
    let piece = c.put_arrow_svg-in-Lost.new.out.items in
    let number = c.in-Lost.number in
    let datagram = c.in-Lost.datagram.now in
    let label = c.in_ok-label-in-Lost.label.items in
    let arrow = arrow_svg (number, sent_by datagram) (codes " lost") in
    let is : piece ≡ arrow (short_path datagram.node) label =
    c.in_ok-put_arrow_svg-in-Lost.ensures.ok number
    ∙ (ap (λ xs. xs ++ arrow c.short_path-path.result.now c.deref-in-Lost.result.now) c.new-piece-in-Lost.ensures.items
    ∙ (ap (λ path. arrow path c.deref-in-Lost.result.now) c.short_path-path.ensures ∙ ap (arrow (short_path datagram.node)) c.deref-in-Lost.ensures.value)) in
    subst (λ r. IsRowSvg (row_of r) piece) (sym c.in-Lost.is) (label, c.in_ok-label-in-Lost.ensures, is)
