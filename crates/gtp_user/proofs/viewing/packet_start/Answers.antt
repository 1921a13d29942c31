use Rattle.std.proofs.Common.{◌≡◌, ◌∙◌, List, ℕ, Ok, Some, length, drop, sym, ap, arith}
use Rattle.std.specs.Prelude.{slice_index}
use Rattle.std.proofs.lemmas.List.{take_rest}
use Rattle.gtp_user.specs.reading.Walk.{chain_at, rest_of}
use Rattle.gtp_user.specs.reading.Viewed.{tail_at}
use Rattle.gtp_user.proofs.Packets.{packet_plain, packet_chained, packet_unchained}
use Rattle.gtp_user.proofs.Viewed.{tail_last}
use Rattle.gtp_user.proofs.viewing.packet_start.Goals as goal

pub returns-then-field_flags-eq0-clause-tail : goal.returns-then-field_flags-eq0-clause-tail
returns-then-field_flags-eq0-clause-tail c = packet_plain c.args.octets.now (c.opens_packet.ensures c.if-not-opens_packet.false) (sym c.field_flags.ensures ∙ c.if-field_flags-eq0.true)

pub returns-then-not-has_bit-clause-tail : goal.returns-then-not-has_bit-clause-tail
returns-then-not-has_bit-clause-tail c =
    packet_unchained c.args.octets.now (c.opens_packet.ensures c.if-not-opens_packet.false)
    (omega (arith, c.field_flags.ensures, c.if-field_flags-eq0.false)) c.if-octets-lt12.false (sym c.has_bit.ensures ∙ c.if-not-has_bit.true)

pub returns-clause-tail : goal.returns-clause-tail
returns-clause-tail c =
    let octets = c.args.octets.now in
    let rest : rest_of (chain_at (length c.args.octets.now) (slice_index c.args.octets.now 11) (drop 12 c.args.octets.now)) ≡ Some c.in-Ok.tail.now =
    ap (λ (xs : List ℕ). rest_of (chain_at (length c.args.octets.now) (slice_index c.args.octets.now 11) xs)) (sym (take_rest octets 12))
    ∙ ap rest_of c.in-Ok.ensures.chain in
    let tail : tail_at c.args.octets.now ≡ Ok c.in-Ok.tail.now =
    packet_chained octets c.in-Ok.tail.now (c.opens_packet.ensures c.if-not-opens_packet.false)
    (omega (arith, c.field_flags.ensures, c.if-field_flags-eq0.false)) c.if-octets-lt12.false (sym c.has_bit.ensures ∙ c.if-not-has_bit.false) rest in
    tail ∙ ap (λ (xs : List ℕ). Ok xs) (sym (tail_last octets c.in-Ok.tail.now tail))
