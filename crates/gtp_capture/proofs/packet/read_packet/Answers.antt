use Rattle.std.proofs.Common.{◌≡◌, ℕ, List, Option, Some, None, sym, ◌∙◌}
use Rattle.std.specs.Prelude.{option_map, IfSome, IfNone}
use Rattle.gtp_capture.specs.Packet.{Packet}
use Rattle.gtp_capture.specs.Carries.{Carries}
use Rattle.gtp_capture.specs.reading.Packet.{packet_of, packet_in}
use Rattle.gtp_capture.specs.declared.packet.Packet.{Packet as Held}
use Rattle.gtp_capture.specs.declared.ports.Ports.{Ports}
use Rattle.gtp_capture.proofs.Figures.{packet_found, packet_only}
use Rattle.gtp_capture.proofs.packet.read_packet.Goals as goal

found : (ports : Ports) (link : ℕ) (frame : List ℕ) (r : Option Held) → option_map packet_of r ≡ packet_in ports link frame → IfSome r (λ packet. Carries ports link frame (packet_of packet))
found ports link frame None reads = tt
found ports link frame (Some packet) reads = packet_found ports link frame (packet_of packet) (sym reads)

none : (ports : Ports) (link : ℕ) (frame : List ℕ) (r : Option Held) → option_map packet_of r ≡ packet_in ports link frame → IfNone r ((d : Packet) → Carries ports link frame d → ⊥)
none ports link frame None reads = λ d carries. let wrong : None ≡ Some d = reads ∙ packet_only ports link frame d carries in cc
none ports link frame (Some packet) reads = tt

pub returns-clause-found : goal.returns-clause-found
returns-clause-found c = found c.args.ports c.args.link c.args.frame.now c.packet_in_frame.result c.packet_in_frame.ensures

pub returns-clause-none : goal.returns-clause-none
returns-clause-none c = none c.args.ports c.args.link c.args.frame.now c.packet_in_frame.result c.packet_in_frame.ensures
