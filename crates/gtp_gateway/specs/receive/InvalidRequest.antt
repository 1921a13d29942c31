-- Datagrams of the control plane that are at fault.
use Rattle.std.specs.Prelude.{◌≡◌, ℕ, None}
use Rattle.gtp_machine.specs.Message.{Control}
use Rattle.gtp_machine.specs.Node.{Arrival}
use Rattle.gtp_machine.specs.Answer.{IsNew}
use Rattle.gtp_machine.specs.Input as inputs
use Rattle.gtp_machine.specs.Input.{Mandatory_missing, Conditional_missing, Too_short, Out_of_range, ControlReading, Control_fault, Control_came, Effect, undecodable}
use Rattle.gtp_machine.specs.Step.{Step as MachineStep}
use Rattle.gtp_machine.specs.declared.outcome.Outcome.TheVariants.{Dropped}
use Rattle.gtp_gateway.specs.declared.receive.invalid_request.Defect.{Defect}
use Rattle.gtp_gateway.specs.declared.receive.invalid_request.Defect.TheVariants.{MandatoryMissing, ConditionalMissing, TooShort, OutOfRange}
use Rattle.gtp_gateway.specs.declared.receive.invalid_request.FaultyRequest.{FaultyRequest}
use Rattle.gtp_gateway.specs.declared.receive.invalid_request.Flaw.{Flaw}
use Rattle.gtp_gateway.specs.declared.receive.invalid_request.Flaw.TheVariants.{Plain, Faulty}
use Rattle.gtp_gateway.specs.declared.step.ControlStep.{ControlStep}
use Rattle.gtp_gateway.specs.GatewayState.{GatewayState}
use Rattle.gtp_gateway.specs.receive.Taken.{plain_report, Tells}

-- the machine's name of a defect
abbrev pub defect_of : Defect → inputs.Defect
defect_of MandatoryMissing = Mandatory_missing
defect_of ConditionalMissing = Conditional_missing
defect_of TooShort = Too_short
defect_of OutOfRange = Out_of_range

-- the machine's faulty request
abbrev pub fault_of : FaultyRequest → inputs.FaultyRequest
fault_of f = record {
  kind = f.kind;
  header = f.header;
  number = f.seq;
  defect = defect_of f.defect;
  element = f.element;
  instance = f.instance;
  sender = f.sender;
}

-- what the datagram reads as
abbrev pub reading_of : Flaw → ControlReading
reading_of (Plain number) = Control_fault number
reading_of (Faulty f) = inputs.Faulty (fault_of f)

-- the datagram is dropped, with the printed number of its fault
abbrev pub dropped_for : ℕ → ControlStep
dropped_for number = record { out = None; report = plain_report (Dropped (undecodable Control number)) }

-- a datagram from the peer that reads as this fault, and for which no answer is held, was taken; nothing changed
pub record IsFaultEffect (request : Arrival) (reading : ControlReading) (s : GatewayState) (step : ControlStep) : Type 0 where
  pub effect : Effect
  pub takes : MachineStep s.role s.node (Control_came request reading) effect
  pub tells : Tells s request step effect
  pub stays : s.node ≡ effect.node

abbrev pub IsFaultTaken : Arrival → ControlReading → GatewayState → ControlStep → Type 0
IsFaultTaken arrival reading s step = arrival.source.ip ≡ s.node.config.peer.control → IsNew s.node arrival → IsFaultEffect arrival reading s step
