-- What is captured of a run is read back.
use Rattle.std.specs.Prelude.{◌≡◌, ℕ, List, [], map}
use Rattle.gtp_capture.specs.Capture.{Records, IsCapture}
use Rattle.gtp_capture.specs.Frame.{Frame}
use Rattle.gtp_capture.specs.Seen.{Seen, datagrams}
use Rattle.gtp_capture.specs.Writing.{kind_written}
use Rattle.gtp_machine.specs.Spelling.{Datagram}
use Rattle.gtp_machine.specs.World.{By}
use Rattle.gtp_world.specs.Record.{WorldRecord}
use Rattle.gtp_replay.specs.Captures.{standard_ports, IsCaptureOf}

-- a datagram of a capture, as the machine's: its plane, addresses, ports and octets
abbrev pub datagram_seen : Seen → Datagram
datagram_seen s = record { plane = s.packet.plane; from = s.packet.from; to = s.packet.to; octets = s.packet.octets }

-- What is captured of a run is a capture, and is read as the datagrams of the run, all of them and in order.
abbrev pub CaptureReadsBack : Type 0
CaptureReadsBack =
    (world : WorldRecord) (text : List ℕ)
    → IsCaptureOf world text
    → (frames : List Frame) × IsCapture text (Records kind_written) frames [] × (map datagram_seen (datagrams standard_ports 1 frames) ≡ map (λ (d : By Datagram). d.what) world.log.datagrams)
