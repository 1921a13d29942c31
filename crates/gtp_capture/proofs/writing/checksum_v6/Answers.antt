use Rattle.std.proofs.Common.{rules, ◌≡◌, ◌+◌, ◌++◌, length, refl, ap, ◌∙◌, arith, inl, inr}
use Rattle.gtp_capture.specs.Writing.{sent_of, udp_size, udp_octets, pseudo_header, ones_sum}
use Rattle.gtp_capture.specs.reading.Writing.{udp_head, pseudo_tail, ones_onto}
use Rattle.gtp_capture.proofs.Sums.{five_sums}
use Rattle.gtp_capture.proofs.writing.checksum_v6.Goals as goal

pub returns : goal.returns
returns c =
    let from : length c.args.from ≡ 16 = search rules in
    let to : length c.args.to ≡ 16 = search rules in
    let d = sent_of c.args.sent.now in
    let tail : c.behind_addresses-tail.result ≡ pseudo_tail (udp_size d) = c.behind_addresses-tail.ensures ∙ ap pseudo_tail (omega (arith, c.requires)) in
    let head : c.head_of_udp-head.result ≡ udp_head 0 d.from_port d.to_port (udp_size d) = c.head_of_udp-head.ensures ∙ ap (udp_head 0 d.from_port d.to_port) (omega (arith, c.requires)) in
    let v = c.sum_onto.result in
    let w = c.sum_onto-2.result in
    let x = c.sum_onto-datagram.result in
    let y = c.sum_onto-3.result in
    let z = c.sum_onto-4.result in
    let sums : ones_sum (pseudo_header d c.args.from c.args.to ++ udp_octets 0 d) ≡ z =
    five_sums 8 4 c.args.from c.args.to (pseudo_tail (udp_size d)) (udp_head 0 d.from_port d.to_port (udp_size d)) d.octets v w x y z from to refl refl c.sum_onto.ensures
    (c.sum_onto-2.ensures ∙ ap (λ l. ones_onto l v) head) (c.sum_onto-datagram.ensures ∙ ap (λ l. ones_onto l w) tail) c.sum_onto-3.ensures c.sum_onto-4.ensures in
    let sum = c.udp_complement.result in
    (c.udp_complement.ensures.other, elim c.udp_complement.ensures.value [ inl p ↦ inl (ap (λ n. sum + n) sums ∙ p) | inr p ↦ inr (p.0, omega (arith, sums, p.1)) ])
