-- What takes memory on the control plane: to send a datagram, and to open a context.
use Rattle.std.specs.Prelude.{◌≡◌, ◌≢◌, ◌⊎◌, []}
use Rattle.gtp_machine.specs.Input.{Came_to, ControlReading, Control_came, Effect}
use Rattle.gtp_machine.specs.Node.{Arrival, Node}
use Rattle.gtp_machine.specs.Reading.{datagram_reading, taken_as}
use Rattle.gtp_machine.specs.Step.{Step as MachineStep}
use Rattle.gtp_machine.specs.declared.outcome.Outcome.TheVariants.{Opened}
use Rattle.gtp_gateway.specs.GatewayState.{GatewayState}

-- a datagram is sent, or a context is opened
abbrev pub SendsOrOpens : Effect → Type 0
SendsOrOpens e = (e.out.sent ≢ []) ⊎ (e.outcome ≡ Came_to Opened)

-- whatever may come of it
abbrev pub AlwaysSendsOrOpens : (Node → Effect → Type 0) → Node → Type 0
AlwaysSendsOrOpens Takes old = (e : Effect) → Takes old e → SendsOrOpens e

-- whatever step of the machine there is on a datagram that reads so
abbrev pub StepSendsOrOpens : Arrival → ControlReading → GatewayState → Type 0
StepSendsOrOpens request reading old = AlwaysSendsOrOpens (λ node e. MachineStep old.role node (Control_came request reading) e) old.node

-- whatever step of the machine there is on these octets
abbrev pub ControlSendsOrOpens : Arrival → GatewayState → Type 0
ControlSendsOrOpens arrival old = StepSendsOrOpens arrival (taken_as (datagram_reading arrival.octets)) old

-- whatever step of the machine there is on a datagram from the peer that reads so
abbrev pub FaultSendsOrOpens : Arrival → ControlReading → GatewayState → Type 0
FaultSendsOrOpens arrival reading old = arrival.source.ip ≡ old.node.config.peer.control → StepSendsOrOpens arrival reading old
