-- What is read on the control plane is of the control plane.
use Rattle.std.proofs.Common.{◌≡◌, ℕ, Bool, true, false, List, Option, Some, None, Result, Ok, Err, refl}
use Rattle.std.specs.Prelude.{if◌then◌else◌}
use Rattle.gtp_v2.specs.Message.{MessageValue}
use Rattle.gtp_v2.specs.Pair.{DatagramValue}
use Rattle.gtp_v2.specs.reading.Message.{message_at}
use Rattle.gtp_v2.specs.reading.Pair.{datagram_at}
use Rattle.gtp_v2.specs.declared.fault.V2Fault.{V2Fault}
use Rattle.gtp_machine.specs.Message.{Message, Control, plane_of}
use Rattle.gtp_machine.specs.Input.{ControlReading, Control_message, Faulty, Control_fault}
use Rattle.gtp_machine.specs.Reading.{control_fault, control_reading_of, Alone, announces, messages_read, pair_reading_of}
use Rattle.gtp_machine.specs.Spelling.{datagram_plane}
use Rattle.gtp_machine.proofs.Octets.Faults.{IsFault, fault_is}
use Rattle.gtp_gateway.specs.messages.Spelled as kept
use Rattle.gtp_gateway.proofs.TakenTypes.{on_control}

abbrev IsControl : Message → Type 0
IsControl m = plane_of m ≡ Control

-- what the outcome of reading says is of the control plane, where it is a message
outcome : (r : Result MessageValue V2Fault) → IsControl (kept.message_read (control_reading_of r))
outcome (Ok m) = on_control m
outcome (Err fault) = faulty (control_fault fault) (fault_is fault)
  where
    faulty : (c : ControlReading) → IsFault c → IsControl (kept.message_read c)
    faulty (Control_message m) is = absurd is
    faulty (Faulty f) is = refl
    faulty (Control_fault fault) is = refl

-- so is what the outcome of reading a datagram says, where it may be of two messages
both : (first : MessageValue) (second : Option MessageValue) → datagram_plane (kept.those_read (messages_read first second)) ≡ Control
both first None = on_control first
both first (Some second) = on_control first

pair : (r : Result DatagramValue V2Fault) → datagram_plane (kept.those_read (pair_reading_of r)) ≡ Control
pair (Ok d) = both d.first d.second
pair (Err fault) = refl

datagram : (announced : Bool) (r : Result DatagramValue V2Fault) (one : Result MessageValue V2Fault)
    → datagram_plane (kept.those_read (if announced then pair_reading_of r else Alone (control_reading_of one))) ≡ Control
datagram true r one = pair r
datagram false r one = outcome one

pub control_kept : (octets : List ℕ) → datagram_plane (kept.messages_in octets) ≡ Control
unfolding kept.messages_in
control_kept octets = datagram (announces octets) (datagram_at octets) (message_at octets)
