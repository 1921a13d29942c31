-- A run as a packet capture.
use Rattle.std.specs.Prelude.{◌≡◌, ℕ, ◌+◌, ◌%◌, ◌^◌, ◌<◌, ◌≤◌, List, [], ◌∷◌, ◌++◌, Option, Some, None, option_map, option_to_list, length, take, drop, All}
use Rattle.std.specs.List.{flat_map, enumerate_from}
use Rattle.gtp_values.specs.declared.address.Ip.{Ip}
use Rattle.gtp_values.specs.declared.address.Ip.TheVariants as ip
use Rattle.gtp_capture.specs.Packet.{plane_at}
use Rattle.gtp_capture.specs.Writing.{Sent, most_octets, head_octets, AreWhole, AreWritten}
use Rattle.gtp_capture.specs.declared.ports.Ports.{Ports}
use Rattle.gtp_capture.specs.declared.writing.Ends.{Ends}
use Rattle.gtp_capture.specs.declared.writing.Ends.TheVariants.{V4, V6}
use Rattle.gtp_machine.specs.Spelling.{Datagram}
use Rattle.gtp_machine.specs.World.{By}
use Rattle.gtp_world.specs.Record.{WorldRecord, EventRecord, Log}

-- both addresses, where they are of one version
abbrev pub ends_between : Ip → Ip → Option Ends
ends_between (ip.V4 from) (ip.V4 to) = Some (V4 from to)
ends_between (ip.V6 from) (ip.V6 to) = Some (V6 from to)
ends_between from to = None

-- a datagram of a run under its number, as it is captured between these ends: as many seconds after 1970 as events came
-- before the one that sent it, modulo 2^32, and its number in microseconds, modulo 1,000,000, and as the identification of its packet, modulo 65,536 (RFC 791, 3.2)
abbrev pub sent_between : ℕ → ℕ × By Datagram → Ends → Sent
sent_between event d ends = record {
  seconds = event % 4294967296;
  microseconds = d.0 % 1000000;
  ends = ends;
  from_port = d.1.what.from.port;
  to_port = d.1.what.to.port;
  identification = d.0 % 65536;
  octets = d.1.what.octets;
}

-- a datagram that this event sent, as it is captured, where its addresses are of one version
abbrev pub captured_in : ℕ → ℕ × By Datagram → Option Sent
captured_in event d = option_map (sent_between event d) (ends_between d.1.what.from.ip d.1.what.to.ip)

abbrev pub frame_in : ℕ → ℕ × By Datagram → List Sent
frame_in event d = option_to_list (captured_in event d)

-- those that events sent, from this one on, one event after the other; none is left after the last
abbrev pub frames_from : ℕ → List (ℕ × By Datagram) → List EventRecord → List Sent
frames_from event sent [] = flat_map (frame_in event) sent
frames_from event sent (told ∷ notes) = flat_map (frame_in event) (take told.sent sent) ++ frames_from (event + 1) (drop told.sent sent) notes

-- all datagrams, which are numbered from 0, as are the events
abbrev pub frames_of : Log → List Sent
frames_of log = frames_from 0 (enumerate_from 0 log.datagrams) log.notes

-- no ports beside 2123 (control) and 2152 (user)
abbrev pub standard_ports : Ports
standard_ports = record { control = None; user = None }

-- a datagram that a packet carries: its addresses are of one version, its ports are those of its plane, where 2123 comes before 2152 (TS 29.274, 4.2; TS 29.281, 4.4.2), and a packet has room for it
pub record HasPacket (d : Datagram) : Type 0 where
  pub ends : Ends
  pub between : ends_between d.from.ip d.to.ip ≡ Some ends
  pub whole : AreWhole ends
  pub plane : plane_at standard_ports d.from.port d.to.port ≡ Some d.plane
  pub from_port : d.from.port < 2 ^ 16
  pub to_port : d.to.port < 2 ^ 16
  pub size : length d.octets ≤ most_octets ends

abbrev pub HavePackets : List (By Datagram) → Type 0
HavePackets datagrams = All (λ (d : By Datagram). HasPacket d.what) datagrams

-- Each datagram has a packet, and the capture is its head and the records of all of them.
pub record IsCaptureOf (world : WorldRecord) (text : List ℕ) : Type 0 where
  pub packets : HavePackets world.log.datagrams
  pub body : List ℕ
  pub head : text ≡ head_octets ++ body
  pub written : AreWritten (frames_of world.log) body

-- the number of the first datagram that no packet carries
pub record IsFirstWithoutPacket (datagrams : List (By Datagram)) (number : ℕ) : Type 0 where
  pub datagram : By Datagram
  pub behind : List (By Datagram)
  pub there : drop number datagrams ≡ datagram ∷ behind
  pub lacks : HasPacket datagram.what → ⊥
  pub before : HavePackets (take number datagrams)
