-- What is written is read back.
use Rattle.std.proofs.Common.{◌≡◌, ℕ, suc, ◌+◌, ◌^◌, ◌≤◌, ◌<◌, List, [], ◌∷◌, ◌++◌, length, Some, false, refl, sym, ap, ◌∙◌, subst, arith, take, drop}
use Rattle.std.proofs.Common.{take_all, take_at, drop_at, append_assoc, length-append, inl, inr}
use Rattle.std.specs.List.{AllByRecursion}
use Rattle.std.proofs.lemmas.Nat.{from_be_bytes-to_be_bytes_2, from_be_bytes-to_be_bytes_4}
use Rattle.gtp_capture.specs.Octets.{four_at}
use Rattle.gtp_capture.specs.Frame.{Frame, IsRecord, IsHeaded}
use Rattle.gtp_capture.specs.Capture.{Piece, Records, Holds, ArePieces, after_all, frames_in}
use Rattle.gtp_capture.specs.declared.captured.Time.{Time}
use Rattle.gtp_capture.specs.declared.head.Unit.TheVariants.{Microseconds}
use Rattle.gtp_values.specs.declared.address.Ip.TheVariants as ip
use Rattle.gtp_capture.specs.Internet.{Parcel, IsV4, IsV6}
use Rattle.gtp_capture.specs.Udp.{Udp, IsUdp}
use Rattle.gtp_capture.specs.Seen.{datagrams, seen_as}
use Rattle.gtp_capture.specs.Carries.{Carries}
use Rattle.gtp_values.specs.declared.plane.Plane.{Plane}
use Rattle.gtp_capture.specs.Packet.{Packet, plane_at}
use Rattle.gtp_capture.specs.Writing.{Sent, kind_written, head_octets, udp_size, udp_octets, header_v4, header_v6, IsPacket, AreWhole, most_octets}
use Rattle.gtp_capture.specs.Writing.{ip_from, ip_to, record_head, AreWritten, HasRoom, seen_sent, seen_all, ReadsBack}
use Rattle.gtp_capture.specs.declared.writing.Ends.{Ends}
use Rattle.gtp_capture.specs.declared.writing.Ends.TheVariants.{V4, V6}
use Rattle.gtp_capture.specs.declared.octets.Order.TheVariants.{High}
use Rattle.gtp_capture.specs.declared.ports.Ports.{Ports}
use Rattle.gtp_capture.proofs.Figures.{packet_only}
use Rattle.gtp_capture.proofs.Heads.{packet_v4_size, packet_v6_size}

abbrev udp_sent : Sent → Udp
udp_sent d = record { from = d.from_port; to = d.to_port; had = length d.octets; held = d.octets }

udp_is : (sum : ℕ) (d : Sent) → d.from_port < 2 ^ 16 → d.to_port < 2 ^ 16 → length d.octets ≤ 65527 → IsUdp (udp_octets sum d) (udp_sent d)
udp_is sum d from to size = record {
  head = omega arith;
  from = sym (from_be_bytes-to_be_bytes_2 d.from_port from);
  to = sym (from_be_bytes-to_be_bytes_2 d.to_port to);
  size = sym (from_be_bytes-to_be_bytes_2 (8 + length d.octets) (omega (arith, size)));
  whole = λ _. sym (take_all (length d.octets) d.octets (omega arith));
  cut = λ few. absurd (omega (arith, few, from_be_bytes-to_be_bytes_2 (8 + length d.octets) (omega (arith, size))));
}

-- two addresses before a datagram
first_end : (n : ℕ) (from to rest : List ℕ) → length from ≡ n → take n ((from ++ to) ++ rest) ≡ from
first_end n from to rest e = ap (take n) (append_assoc from to rest) ∙ take_at from (to ++ rest) n e

second_end : (n : ℕ) (from to rest : List ℕ) → length from ≡ n → length to ≡ n → take n (drop n ((from ++ to) ++ rest)) ≡ to
second_end n from to rest e f = ap (λ l. take n (drop n l)) (append_assoc from to rest) ∙ ap (take n) (drop_at from (to ++ rest) n e) ∙ take_at to rest n f

behind_ends : (n m : ℕ) (from to rest : List ℕ) → m ≡ n + n → length from ≡ n → length to ≡ n → drop m ((from ++ to) ++ rest) ≡ rest
behind_ends n m from to rest is e f = drop_at (from ++ to) rest m (omega (arith, is, e, f, length-append from to))

abbrev parcel_v4 : ℕ → Sent → List ℕ → List ℕ → Parcel
parcel_v4 sum d from to = record { from = ip.V4 from; to = ip.V4 to; fragment = false; octets = udp_octets sum d }

v4_is : (sum : ℕ) (d : Sent) (from to : List ℕ) → length from ≡ 4 → length to ≡ 4 → length d.octets ≤ 65507 → IsV4 (header_v4 sum d from to ++ udp_octets 0 d) (parcel_v4 0 d from to) 5 (udp_size d)
v4_is sum d from to ef et size = record {
  first = refl;
  few = omega arith;
  some = omega arith;
  head = omega (arith, packet_v4_size sum d from to ef et);
  size = from_be_bytes-to_be_bytes_2 (20 + udp_size d) (omega (arith, size)) ∙ omega arith;
  offset = refl;
  more = refl;
  protocol = refl;
  from = ap (λ l. ip.V4 l) (sym (first_end 4 from to (udp_octets 0 d) ef));
  to = ap (λ l. ip.V4 l) (sym (second_end 4 from to (udp_octets 0 d) ef et));
  inside = sym (ap (take (udp_size d)) (behind_ends 4 8 from to (udp_octets 0 d) refl ef et) ∙ take_all (udp_size d) (udp_octets 0 d) (omega arith));
}

abbrev parcel_v6 : ℕ → Sent → List ℕ → List ℕ → Parcel
parcel_v6 sum d from to = record { from = ip.V6 from; to = ip.V6 to; fragment = false; octets = udp_octets sum d }

v6_is : (sum : ℕ) (d : Sent) (from to : List ℕ) → length from ≡ 16 → length to ≡ 16 → length d.octets ≤ 65527 → IsV6 (header_v6 d from to ++ udp_octets sum d) (parcel_v6 sum d from to) 0
v6_is sum d from to ef et size =
    let u = udp_octets sum d in
    let says = from_be_bytes-to_be_bytes_2 (udp_size d) (omega (arith, size)) in
    record {
      head = omega (arith, packet_v6_size sum d from to ef et);
      first = refl;
      from = ap (λ l. ip.V6 l) (sym (first_end 16 from to u ef));
      to = ap (λ l. ip.V6 l) (sym (second_end 16 from to u ef et));
      chain = (refl, refl, sym (ap (λ n. take n (drop 32 ((from ++ to) ++ u))) says ∙ ap (take (udp_size d)) (behind_ends 16 32 from to u refl ef et) ∙ take_all (udp_size d) u (omega arith)));
    }

abbrev packet_sent : Sent → Ends → Plane → Packet
packet_sent d ends plane =
    record {
      from = record { ip = ip_from ends; port = d.from_port };
      to = record { ip = ip_to ends; port = d.to_port };
      plane = plane;
      fragment = false;
      had = length d.octets;
      octets = d.octets;
    }

carries : (ports : Ports) (d : Sent) (ends : Ends) (packet : List ℕ) (plane : Plane) → plane_at ports d.from_port d.to_port ≡ Some plane → d.from_port < 2 ^ 16 → d.to_port < 2 ^ 16
    → AreWhole ends → length d.octets ≤ most_octets ends → IsPacket ends d packet → Carries ports 101 packet (packet_sent d ends plane)
carries ports d (V4 from to) packet plane is p q whole size (sum, checks, e) =
    subst (λ o. Carries ports 101 o (packet_sent d (V4 from to) plane)) (sym e) (
      parcel_v4 0 d from to,
      udp_sent d,
      inr (inr (inl (refl, inl (5, udp_size d, v4_is sum d from to whole.0 whole.1 size)))),
      udp_is 0 d p q (omega (arith, size)),
      is,
      refl,
      refl,
      refl,
      refl,
      refl,
    )
carries ports d (V6 from to) packet plane is p q whole size (sum, checks, e) =
    subst (λ o. Carries ports 101 o (packet_sent d (V6 from to) plane)) (sym e) (
      parcel_v6 sum d from to,
      udp_sent d,
      inr (inr (inl (refl, inr (0, v6_is sum d from to whole.0 whole.1 size)))),
      udp_is sum d p q size,
      is,
      refl,
      refl,
      refl,
      refl,
      refl,
    )

packet_size : (d : Sent) (ends : Ends) (packet : List ℕ) → AreWhole ends → length d.octets ≤ most_octets ends → IsPacket ends d packet → length packet ≤ 65575
packet_size d (V4 from to) packet whole size (sum, checks, e) = omega (arith, size, ap length e, packet_v4_size sum d from to whole.0 whole.1)
packet_size d (V6 from to) packet whole size (sum, checks, e) = omega (arith, size, ap length e, packet_v6_size sum d from to whole.0 whole.1)

abbrev time_sent : Sent → Time
time_sent d = record { seconds = d.seconds; fraction = d.microseconds; unit = Microseconds }

abbrev frame_sent : List ℕ → Sent → Frame
frame_sent packet d = record { time = time_sent d; link = 101; had = length packet; octets = packet }

record_is : (packet : List ℕ) (d : Sent) (rest : List ℕ) → length packet ≤ 65575 → d.seconds < 2 ^ 32 → d.microseconds < 2 ^ 32
    → IsRecord kind_written (record_head d (length packet) ++ (packet ++ rest)) (frame_sent packet d) rest
record_is packet d rest few seconds microseconds =
    let n = length packet in
    let size : n ≡ four_at High 8 (record_head d n) = sym (from_be_bytes-to_be_bytes_4 n (omega (arith, few))) in
    let timed : ℕ → ℕ → Time = λ s f. record { seconds = s; fraction = f; unit = Microseconds } in
    record {
      head = record_head d n;
      size = refl;
      whole = refl;
      time =
          ap (λ s. timed s d.microseconds) (sym (from_be_bytes-to_be_bytes_4 d.seconds seconds))
          ∙ ap (λ f. timed (four_at High 0 (record_head d n)) f) (sym (from_be_bytes-to_be_bytes_4 d.microseconds microseconds));
      link = refl;
      held = size;
      limit = omega (arith, few);
      had = size;
    }

pieces_of : (ports : Ports) (n : ℕ) (ds : List Sent) (body : List ℕ) (rooms : AllByRecursion (HasRoom ports) ds) → AreWritten ds body
    → (ps : List Piece) × ArePieces (Records kind_written) body ps [] × (datagrams ports n (frames_in ps) ≡ seen_all ports n ds rooms) × (after_all ps (Records kind_written) ≡ Records kind_written)
pieces_of ports n [] body rooms e = ([], e, refl, refl)
pieces_of ports n (d ∷ ds) body rooms (packet, rest, is, whole, more) =
    let f = frame_sent packet d in
    let room = rooms.0 in
    let few = packet_size d d.ends packet room.ends room.size is in
    let tail = pieces_of ports (suc n) ds rest rooms.1 more in
    let found = packet_only ports 101 packet (packet_sent d d.ends room.plane) (carries ports d d.ends packet room.plane room.is room.from_port room.to_port room.ends room.size is) in (
      Holds f ∷ tail.0,
      (rest, (f, refl, subst (λ o. IsRecord kind_written o f rest) (sym whole) (record_is packet d rest few room.seconds room.microseconds)), tail.1),
      ap (λ o. seen_as n (time_sent d) o ++ datagrams ports (suc n) (frames_in tail.0)) found ∙ ap (λ l. seen_sent ports n d room ∷ l) tail.2,
      tail.3,
    )

pub reads_back : ReadsBack
reads_back ports ds body rooms written =
    let found = pieces_of ports 1 ds body rooms written in
    let headed : IsHeaded (head_octets ++ body) kind_written body = record { head = head_octets; size = refl; whole = refl; kind = record { magic = refl; link = refl } } in
    (frames_in found.0, record { first = Records kind_written; body = body; pieces = found.0; start = headed; stand = found.1; held = refl; later = sym found.3 }, found.2)
