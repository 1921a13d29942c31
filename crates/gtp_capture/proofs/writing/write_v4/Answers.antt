use Rattle.std.proofs.Common.{rules, ◌≡◌, ◌+◌, ◌++◌, length, refl, sym, ap, ◌∙◌, subst, arith}
use Rattle.std.proofs.lemmas.Result.{on_ok_weaker}
use Rattle.gtp_capture.specs.Writing.{sent_of, udp_octets, header_v4, record_head, IsPacket}
use Rattle.gtp_capture.proofs.Heads.{three, packet_v4_size}
use Rattle.gtp_capture.proofs.writing.write_v4.Goals as goal

pub returns : goal.returns
returns c =
    let d = sent_of c.args.sent.now in
    let from = c.args.from in
    let to = c.args.to in
    let header = c.in_ok-write_header_v4.ensures in
    let packet = header_v4 header.0 d from to ++ udp_octets 0 d in
    let size : length packet ≡ 28 + length d.octets = packet_v4_size header.0 d from to (search rules) (search rules) in
    on_ok_weaker c.write_udp.result
    (λ last. (
      packet,
      subst (λ e. IsPacket e d packet) (sym c.requires.ends) (header.0, header.1, refl),
      three c.args.out.now.items c.put.new.out.items c.write_header_v4.new.out.items c.write_udp.new.out.items c.head_of_record.result
          (header_v4 header.0 d from to) (udp_octets 0 d) (record_head d (length packet) ++ packet) c.in_ok-put.ensures header.2 last
          (ap (λ l. l ++ packet) (c.head_of_record.ensures ∙ ap (record_head d) (omega (arith, size, c.requires.size)))),
    ))
    c.write_udp.ensures
