use Rattle.std.proofs.Common.{rules, ◌≡◌, ◌+◌, ◌++◌, length, refl, sym, ap, ◌∙◌, subst, arith}
use Rattle.std.proofs.lemmas.Result.{on_ok_weaker}
use Rattle.gtp_capture.specs.Writing.{sent_of, udp_octets, header_v6, record_head, IsPacket}
use Rattle.gtp_capture.proofs.Heads.{three, packet_v6_size}
use Rattle.gtp_capture.proofs.writing.write_v6.Goals as goal

pub returns : goal.returns
returns c =
    let d = sent_of c.args.sent.now in
    let from = c.args.from in
    let to = c.args.to in
    let sum = c.checksum_v6.result in
    let packet = header_v6 d from to ++ udp_octets sum d in
    let size : length packet ≡ 48 + length d.octets = packet_v6_size sum d from to (search rules) (search rules) in
    on_ok_weaker c.write_udp.result
    (λ last. (
      packet,
      subst (λ e. IsPacket e d packet) (sym c.requires.ends) (sum, c.checksum_v6.ensures, refl),
      three c.args.out.now.items c.put.new.out.items c.write_header_v6.new.out.items c.write_udp.new.out.items c.head_of_record.result
          (header_v6 d from to) (udp_octets sum d) (record_head d (length packet) ++ packet) c.in_ok-put.ensures c.in_ok-write_header_v6.ensures last
          (ap (λ l. l ++ packet) (c.head_of_record.ensures ∙ ap (record_head d) (omega (arith, size, c.requires.size)))),
    ))
    c.write_udp.ensures
