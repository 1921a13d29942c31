use Rattle.std.proofs.Common.{◌++◌, ◌∙◌, ap}
use Rattle.gtp_lines.specs.Control.{datagram_lines}
use Rattle.gtp_lines.proofs.Seen.{lines_lie}
use Rattle.gtp_lines.proofs.lines.control_lines.Goals as goal

-- the text began empty
pub returns-in_ok-put_datagram-in-Ok : goal.returns-in_ok-put_datagram-in-Ok
returns-in_ok-put_datagram-in-Ok c =
    let seen = c.in-Ok.seen in
    lines_lie c.args.octets.now seen.message seen.second seen.back _ c.in-Ok.ensures.lie
    (c.in_ok-put_datagram-in-Ok.ensures.ok ∙ ap (λ text. text ++ datagram_lines seen.message seen.second) c.in_ok-text.ensures.items)
