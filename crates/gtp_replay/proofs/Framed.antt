-- The frames of a run show its datagrams, where each has a packet.
use Rattle.std.proofs.Common.{◌≡◌, ℕ, ◌+◌, List, [], ◌∷◌, ◌++◌, Option, Some, take, drop, sym, ap, ap₂, subst, arith}
use Rattle.std.specs.Prelude.{All, option_map, option_to_list, ⊤}
use Rattle.std.specs.List.{flat_map, enumerate_from, AllByRecursion}
use Rattle.std.proofs.lemmas.List.{take-append-drop}
use Rattle.std.proofs.lemmas.List.Elements.{All-from_recursion, recursion_from_All, All-take, All-drop}
use Rattle.std.proofs.lemmas.Option.{same_Some}
use Rattle.gtp_values.specs.declared.address.Ip.{Ip}
use Rattle.gtp_values.specs.declared.address.Ip.TheVariants as ip
use Rattle.gtp_capture.specs.Writing.{Sent, HasRoom, ip_from, ip_to, seen_sent}
use Rattle.gtp_capture.specs.declared.writing.Ends.{Ends}
use Rattle.gtp_capture.specs.declared.writing.Ends.TheVariants.{V4, V6}
use Rattle.gtp_machine.specs.Spelling.{Datagram}
use Rattle.gtp_machine.specs.World.{By}
use Rattle.gtp_world.specs.Record.{EventRecord}
use Rattle.gtp_replay.specs.Captures.{ends_between, sent_between, captured_in, frame_in, frames_from, standard_ports, HasPacket, HavePackets}
use Rattle.gtp_replay.specs.Recaptured.{datagram_seen}

-- the addresses are those of the ends
from_is : (a b : Ip) (ends : Ends) → ends_between a b ≡ Some ends → ip_from ends ≡ a
from_is (ip.V4 a) (ip.V4 b) ends is = ap ip_from (sym (same_Some (V4 a b) ends is))
from_is (ip.V6 a) (ip.V6 b) ends is = ap ip_from (sym (same_Some (V6 a b) ends is))
from_is (ip.V4 a) (ip.V6 b) ends is = absurd cc
from_is (ip.V6 a) (ip.V4 b) ends is = absurd cc

to_is : (a b : Ip) (ends : Ends) → ends_between a b ≡ Some ends → ip_to ends ≡ b
to_is (ip.V4 a) (ip.V4 b) ends is = ap ip_to (sym (same_Some (V4 a b) ends is))
to_is (ip.V6 a) (ip.V6 b) ends is = ap ip_to (sym (same_Some (V6 a b) ends is))
to_is (ip.V4 a) (ip.V6 b) ends is = absurd cc
to_is (ip.V6 a) (ip.V4 b) ends is = absurd cc

abbrev HasPacketIn : ℕ × By Datagram → Type 0
HasPacketIn d = HasPacket d.1.what

abbrev rebuilt : Datagram → Ip → Ip → Datagram
rebuilt d from to = record { plane = d.plane; from = record { ip = from; port = d.from.port }; to = record { ip = to; port = d.to.port }; octets = d.octets }

-- a datagram is seen again in what is captured of it
abbrev pub Shows : ℕ × By Datagram → Sent → Type 0
Shows d s = (room : HasRoom standard_ports s) × ((n : ℕ) → datagram_seen (seen_sent standard_ports n s room) ≡ d.1.what)

abbrev pub AllShow : List (ℕ × By Datagram) → List Sent → Type 0
AllShow [] [] = ⊤
AllShow [] (s ∷ ss) = ⊥
AllShow (d ∷ ds) [] = ⊥
AllShow (d ∷ ds) (s ∷ ss) = Shows d s × AllShow ds ss

captured : (event : ℕ) (d : ℕ × By Datagram) (h : HasPacketIn d) → captured_in event d ≡ Some (sent_between event d h.ends)
captured event d h = ap (option_map (sent_between event d)) h.between

shows : (event : ℕ) (d : ℕ × By Datagram) (h : HasPacketIn d) → Shows d (sent_between event d h.ends)
shows event d h = (
  record {
    plane = d.1.what.plane;
    is = h.plane;
    ends = h.whole;
    seconds = omega arith;
    microseconds = omega arith;
    from_port = h.from_port;
    to_port = h.to_port;
    size = h.size;
  },
  λ n. ap₂ (rebuilt d.1.what) (from_is d.1.what.from.ip d.1.what.to.ip h.ends h.between) (to_is d.1.what.from.ip d.1.what.to.ip h.ends h.between),
)

-- of one event
filtered : (event : ℕ) (ds : List (ℕ × By Datagram)) → AllByRecursion HasPacketIn ds → AllShow ds (flat_map (frame_in event) ds)
filtered event [] h = tt
filtered event (d ∷ ds) h =
    subst (λ (o : Option Sent). AllShow (d ∷ ds) (option_to_list o ++ flat_map (frame_in event) ds)) (sym (captured event d h.0)) (shows event d h.0, filtered event ds h.1)

both : (ds es : List (ℕ × By Datagram)) (ss ts : List Sent) → AllShow ds ss → AllShow es ts → AllShow (ds ++ es) (ss ++ ts)
both [] es [] ts h k = k
both [] es (s ∷ ss) ts h k = absurd h
both (d ∷ ds) es [] ts h k = absurd h
both (d ∷ ds) es (s ∷ ss) ts h k = (h.0, both ds es ss ts h.1 k)

-- of all events from one on
framed : (notes : List EventRecord) (event : ℕ) (ds : List (ℕ × By Datagram)) → All HasPacketIn ds → AllShow ds (frames_from event ds notes)
framed [] event ds h = filtered event ds (recursion_from_All HasPacketIn ds h)
framed (told ∷ notes) event ds h =
    let front = take told.sent ds in
    let back = drop told.sent ds in
    subst (λ l. AllShow l (flat_map (frame_in event) front ++ frames_from (event + 1) back notes)) (take-append-drop told.sent ds)
    (both front back (flat_map (frame_in event) front) (frames_from (event + 1) back notes)
    (filtered event front (recursion_from_All HasPacketIn front (All-take HasPacketIn told.sent ds h)))
    (framed notes (event + 1) back (All-drop HasPacketIn told.sent ds h)))

all_numbered : (n : ℕ) (ds : List (By Datagram)) → AllByRecursion (λ (d : By Datagram). HasPacket d.what) ds → AllByRecursion HasPacketIn (enumerate_from n ds)
all_numbered n [] h = tt
all_numbered n (d ∷ ds) h = (h.0, all_numbered (n + 1) ds h.1)

-- all frames of a run
pub all_framed : (datagrams : List (By Datagram)) (notes : List EventRecord) → HavePackets datagrams → AllShow (enumerate_from 0 datagrams) (frames_from 0 (enumerate_from 0 datagrams) notes)
all_framed datagrams notes has =
    let ds = enumerate_from 0 datagrams in
    framed notes 0 ds (All-from_recursion HasPacketIn ds (all_numbered 0 datagrams (recursion_from_All (λ (d : By Datagram). HasPacket d.what) datagrams has)))
