use Rattle.std.proofs.Common.{◌≡◌, ◌∷◌, [], ◌∙◌, ◌*◌, length, ap, arith, get_or, rules}
use Rattle.hex.specs.Hex.{encode_lower}
use Rattle.gtp_lines.proofs.Pieces.{encode-none, encode_more, on_ok}
use Rattle.gtp_lines.proofs.text.put_hex.Goals as goal

pub loop-octet-init : goal.loop-octet-init
loop-octet-init c = encode-none c.args.out.now.items

pub loop-octet-preserved : goal.loop-octet-preserved
loop-octet-preserved c =
    let e = c.encode_to_slice.ensures in
    let one : c.as_slice.result.now ≡ get_or c.args.octets.now c.loop-octet.octet-index 0 ∷ [] = search rules in
    let fits : 2 ≡ 2 * length c.as_slice.result.now = rw one (omega arith) in
    let two = on_ok c.encode_to_slice.result _ (e.fits.1 fits) e.written ∙ ap encode_lower one in
    encode_more c.args.out.now.items c.loop-octet.out.items c.extend_from_slice.new.self.items c.args.octets.now c.encode_to_slice.new.output
    c.loop-octet.octet-index c.loop-octet-test.true c.loop-octet.invariant two c.in_ok-extend_from_slice.ensures.items
