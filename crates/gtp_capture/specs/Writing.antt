-- What is written: a capture in the network's order, with microseconds, of packets of IPv4 without options and of IPv6 without extension headers.
use Rattle.std.specs.Prelude.{◌≡◌, ◌≢◌, ℕ, suc, ◌+◌, ◌/◌, ◌%◌, ◌^◌, ◌<◌, ◌≤◌, ◌⊎◌, List, [], ◌∷◌, ◌++◌, length, Option, Some, false}
use Rattle.std.specs.List.{AllByRecursion}
use Rattle.std.specs.Int.{w16, w32, to_be_bytes, from_be_bytes}
use Rattle.gtp_capture.specs.Frame.{Frame}
use Rattle.gtp_capture.specs.Capture.{Records, IsCapture}
use Rattle.gtp_capture.specs.Seen.{Seen, datagrams}
use Rattle.gtp_capture.specs.Packet.{plane_at}
use Rattle.gtp_values.specs.declared.address.Ip.{Ip}
use Rattle.gtp_values.specs.declared.address.Ip.TheVariants as ip
use Rattle.gtp_values.specs.declared.plane.Plane.{Plane}
use Rattle.gtp_capture.specs.declared.head.Kind.{Kind}
use Rattle.gtp_capture.specs.declared.head.Unit.TheVariants.{Microseconds}
use Rattle.gtp_capture.specs.declared.octets.Order.TheVariants.{High}
use Rattle.gtp_capture.specs.declared.writing.Ends.{Ends}
use Rattle.gtp_capture.specs.declared.writing.Ends.TheVariants.{V4, V6}
use Rattle.gtp_capture.specs.declared.writing.WrittenDatagram.{WrittenDatagram}
use Rattle.gtp_capture.specs.declared.ports.Ports.{Ports}

-- a datagram from an address and a port to another
pub record Sent : Type 0 where
  pub seconds : ℕ
  pub microseconds : ℕ
  pub ends : Ends
  pub from_port : ℕ
  pub to_port : ℕ
  pub identification : ℕ
  pub octets : List ℕ

abbrev pub sent_of : WrittenDatagram → Sent
sent_of s = record { seconds = s.seconds; microseconds = s.microseconds; ends = s.ends; from_port = s.from_port; to_port = s.to_port; identification = s.identification; octets = s.octets.now }

-- the most octets of a datagram: the length of all of a packet of IPv4, and that of what one of IPv6 carries, is below 65,536
abbrev pub most_octets : Ends → ℕ
most_octets (V4 from to) = 65507
most_octets (V6 from to) = 65527

abbrev pub kind_written : Kind
kind_written = record { order = High; unit = Microseconds; link = 101 }

abbrev pub two : ℕ → List ℕ
two n = to_be_bytes w16 n

abbrev pub four : ℕ → List ℕ
four n = to_be_bytes w32 n

-- magic a1b2c3d4, version 2.4, no zone, no accuracy, at most 262,144 octets of a frame, link 101
abbrev pub head_octets : List ℕ
head_octets = 161 ∷ 178 ∷ 195 ∷ 212 ∷ 0 ∷ 2 ∷ 0 ∷ 4 ∷ 0 ∷ 0 ∷ 0 ∷ 0 ∷ 0 ∷ 0 ∷ 0 ∷ 0 ∷ 0 ∷ 4 ∷ 0 ∷ 0 ∷ 0 ∷ 0 ∷ 0 ∷ 101 ∷ []

-- the sum of two numbers of sixteen bits in one's complement: what is beyond them is added to them (RFC 1071)
abbrev pub ones_plus : ℕ → ℕ → ℕ
ones_plus a b = (a + b) % 65536 + (a + b) / 65536

-- of those in octets, two for each; an odd last octet is followed by a 0
abbrev pub ones_sum : List ℕ → ℕ
ones_sum (a ∷ b ∷ octets) = ones_plus (from_be_bytes w16 (a ∷ b ∷ [])) (ones_sum octets)
ones_sum (a ∷ []) = ones_plus (from_be_bytes w16 (a ∷ 0 ∷ [])) 0
ones_sum [] = 0

-- the checksum of octets is the complement of their sum
abbrev pub IsChecksum : List ℕ → ℕ → Type 0
IsChecksum octets sum = sum + ones_sum octets ≡ 65535

-- that of a UDP datagram too, but 65535 is written for 0, which says that there is none (RFC 768)
abbrev pub IsUdpChecksum : List ℕ → ℕ → Type 0
IsUdpChecksum octets sum = (sum ≢ 0) × (IsChecksum octets sum ⊎ ((sum ≡ 65535) × IsChecksum octets 0))

-- how many octets a UDP datagram has with its header
abbrev pub udp_size : Sent → ℕ
udp_size d = 8 + length d.octets

-- with this checksum (RFC 768)
abbrev pub udp_octets : ℕ → Sent → List ℕ
udp_octets sum d = (two d.from_port ++ two d.to_port ++ two (udp_size d) ++ two sum) ++ d.octets

-- a header of IPv4 with this checksum: version 4, five times four octets, the length of all, an identification, no fragment, 64 hops, protocol 17 (RFC 791, 3.1)
abbrev pub header_v4 : ℕ → Sent → List ℕ → List ℕ → List ℕ
header_v4 sum d from to = (69 ∷ 0 ∷ [] ++ two (20 + udp_size d) ++ two d.identification ++ (0 ∷ 0 ∷ 64 ∷ 17 ∷ []) ++ two sum) ++ (from ++ to)

-- a header of IPv6: version 6, no traffic class and no flow label, the length of what it carries, next header 17, 64 hops (RFC 8200, 3)
abbrev pub header_v6 : Sent → List ℕ → List ℕ → List ℕ
header_v6 d from to = (96 ∷ 0 ∷ 0 ∷ 0 ∷ [] ++ two (udp_size d) ++ (17 ∷ 64 ∷ [])) ++ (from ++ to)

-- what the checksum of a UDP datagram in IPv6 counts before the datagram: the addresses, its length, zeros, 17 (RFC 8200, 8.1)
abbrev pub pseudo_header : Sent → List ℕ → List ℕ → List ℕ
pseudo_header d from to = (from ++ to) ++ (four (udp_size d) ++ (0 ∷ 0 ∷ 0 ∷ 17 ∷ []))

-- A packet of IPv4 has the checksum of its header (RFC 791, 3.1), and its UDP datagram none. In one of IPv6 the UDP datagram has its own, since it must (RFC 8200, 8.1).
abbrev pub IsPacket : Ends → Sent → List ℕ → Type 0
IsPacket (V4 from to) d octets = (sum : ℕ) × IsChecksum (header_v4 0 d from to) sum × (octets ≡ header_v4 sum d from to ++ udp_octets 0 d)
IsPacket (V6 from to) d octets = (sum : ℕ) × IsUdpChecksum (pseudo_header d from to ++ udp_octets 0 d) sum × (octets ≡ header_v6 d from to ++ udp_octets sum d)

-- before a packet of this size
abbrev pub record_head : Sent → ℕ → List ℕ
record_head d size = four d.seconds ++ four d.microseconds ++ four size ++ four size

-- the records of these datagrams, one after the other
abbrev pub AreWritten : List Sent → List ℕ → Type 0
AreWritten [] octets = octets ≡ []
AreWritten (d ∷ ds) octets = (packet : List ℕ) × (rest : List ℕ) × IsPacket d.ends d packet × (octets ≡ record_head d (length packet) ++ (packet ++ rest)) × AreWritten ds rest

-- both addresses are whole
abbrev pub AreWhole : Ends → Type 0
AreWhole (V4 from to) = (length from ≡ 4) × (length to ≡ 4)
AreWhole (V6 from to) = (length from ≡ 16) × (length to ≡ 16)

-- the plane of a datagram by its ports, and numbers that have room
pub record HasRoom (ports : Ports) (d : Sent) : Type 0 where
  pub plane : Plane
  pub is : plane_at ports d.from_port d.to_port ≡ Some plane
  pub ends : AreWhole d.ends
  pub seconds : d.seconds < 2 ^ 32
  pub microseconds : d.microseconds < 2 ^ 32
  pub from_port : d.from_port < 2 ^ 16
  pub to_port : d.to_port < 2 ^ 16
  pub size : length d.octets ≤ most_octets d.ends

abbrev pub ip_from : Ends → Ip
ip_from (V4 from to) = ip.V4 from
ip_from (V6 from to) = ip.V6 from

abbrev pub ip_to : Ends → Ip
ip_to (V4 from to) = ip.V4 to
ip_to (V6 from to) = ip.V6 to

-- a datagram as it is seen when it is read
abbrev pub seen_sent : (ports : Ports) → ℕ → (d : Sent) → HasRoom ports d → Seen
seen_sent ports n d room = record {
  frame = n;
  time = record { seconds = d.seconds; fraction = d.microseconds; unit = Microseconds };
  packet = record {
    from = record { ip = ip_from d.ends; port = d.from_port };
    to = record { ip = ip_to d.ends; port = d.to_port };
    plane = room.plane;
    fragment = false;
    had = length d.octets;
    octets = d.octets;
  };
}

abbrev pub seen_all : (ports : Ports) → ℕ → (ds : List Sent) → AllByRecursion (HasRoom ports) ds → List Seen
seen_all ports n [] rooms = []
seen_all ports n (d ∷ ds) rooms = seen_sent ports n d rooms.0 ∷ seen_all ports (suc n) ds rooms.1

-- what is written is a capture of frames whose datagrams are those that were written
abbrev pub ReadsBack : Type 0
ReadsBack = (ports : Ports) (ds : List Sent) (body : List ℕ) (rooms : AllByRecursion (HasRoom ports) ds) → AreWritten ds body
    → (fs : List Frame) × IsCapture (head_octets ++ body) (Records kind_written) fs [] × (datagrams ports 1 fs ≡ seen_all ports 1 ds rooms)

-- octets grow by the record of a datagram
abbrev pub Writes : List ℕ → List ℕ → Sent → Type 0
Writes old new d = (packet : List ℕ) × IsPacket d.ends d packet × (new ≡ old ++ (record_head d (length packet) ++ packet))

-- and by a head and the records of these datagrams
abbrev pub WritesAll : List ℕ → List ℕ → List Sent → Type 0
WritesAll old new ds = (body : List ℕ) × (new ≡ old ++ (head_octets ++ body)) × AreWritten ds body
