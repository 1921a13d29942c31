-- Datagrams that were taken.
use Rattle.std.specs.Prelude.{◌≡◌, Bool, true, false, List, [], ◌∷◌, Option, Some, None, option_map}
use Rattle.gtp_reliable.specs.Held.{HeldPair, IsHeld}
use Rattle.gtp_values.specs.FiniteMap.{Among}
use Rattle.gtp_machine.specs.Node.{Arrival, Held, Node}
use Rattle.gtp_machine.specs.Answer.{IsNew}
use Rattle.gtp_machine.specs.Input.{Came_to, ControlReading, Control_came, nothing, Effect}
use Rattle.gtp_machine.specs.declared.outcome.Outcome.{Outcome}
use Rattle.gtp_machine.specs.Reading.{announces, datagram_reading, taken_as}
use Rattle.gtp_machine.specs.Spelling.{Datagram}
use Rattle.gtp_machine.specs.Step.{Step as MachineStep, TakesPair}
use Rattle.gtp_gateway.specs.declared.sent.Sent.{Sent}
use Rattle.gtp_gateway.specs.declared.step.Report.{Report}
use Rattle.gtp_gateway.specs.declared.step.ControlStep.{ControlStep}
use Rattle.gtp_gateway.specs.declared.receive.BeforeReading.{BeforeReading}
use Rattle.gtp_gateway.specs.declared.receive.BeforeReading.TheVariants.{Settled, New}
use Rattle.gtp_gateway.specs.messages.Sent.{datagram_by, AreSent}
use Rattle.gtp_gateway.specs.GatewayState.{GatewayState}

-- nothing but an outcome is told
abbrev pub plain_report : Outcome → Report
plain_report outcome = record { outcome = outcome; second = None; heard = None; restart = None; made = false }

-- what is sent
abbrev pub datagrams : Option Sent → List Datagram
datagrams None = []
datagrams (Some sent) = datagram_by sent ∷ []

-- the create request, where a context was made for it
abbrev pub made_for : Arrival → Bool → List Arrival
made_for request true = request ∷ []
made_for request false = []

-- the step tells what the effect has: what is sent, the outcome, and of no second message, the counter that was heard, whether it is later than the one that was
-- known, and whether a context was made; the effect has nothing else to tell
pub record Tells (old : GatewayState) (request : Arrival) (step : ControlStep) (e : Effect) : Type 0 where
  pub sent : AreSent old.node.config (datagrams step.out) e.out.sent
  pub outcome : Came_to step.report.outcome ≡ e.outcome
  pub alone : step.report.second ≡ None
  pub heard : option_map (λ c. c.0) step.report.heard ≡ e.out.heard
  pub restart : option_map (λ c. c.0) step.report.restart ≡ e.out.learned
  pub made : made_for request step.report.made ≡ e.out.made
  pub all : e.out ≡ record nothing { sent = e.out.sent; heard = e.out.heard; learned = e.out.learned; made = e.out.made }

-- octets of the control plane were taken that read so: that is a step of the machine
pub record IsTakenAs (reading : ControlReading) (arrival : Arrival) (old : GatewayState) (step : ControlStep) (new : GatewayState) : Type 0 where
  pub effect : Effect
  pub takes : MachineStep old.role old.node (Control_came arrival reading) effect
  pub tells : Tells old arrival step effect
  pub becomes : new.node ≡ effect.node
  pub role : new.role ≡ old.role

-- a datagram of the control plane was taken: that is a step of the machine, on what it is taken for
abbrev pub IsTaken : Arrival → GatewayState → ControlStep → GatewayState → Type 0
IsTaken arrival = IsTakenAs (taken_as (datagram_reading arrival.octets)) arrival

-- a datagram that comes from the peer, and for which no answer is held
pub record IsUnheld (arrival : Arrival) (old : GatewayState) (pairs : List HeldPair) : Type 0 where
  pub peer : arrival.source.ip ≡ old.node.config.peer.control
  pub new : IsNew old.node arrival
  pub none : IsHeld arrival.source arrival.octets pairs → ⊥

-- the same of octets that announce no second message
pub record IsFresh (arrival : Arrival) (old : GatewayState) (pairs : List HeldPair) : Type 0 where
  pub peer : arrival.source.ip ≡ old.node.config.peer.control
  pub new : IsNew old.node arrival
  pub none : IsHeld arrival.source arrival.octets pairs → ⊥
  pub alone : announces arrival.octets ≡ false

-- the datagram is no pair that the gateway takes
abbrev pub IsNoPair : Arrival → GatewayState → Type 0
IsNoPair arrival old = TakesPair old.role old.node.config arrival (datagram_reading arrival.octets) → ⊥

-- what is known of a datagram before it is read: it is no pair, was taken, and changed nothing; or it is from the peer, and no answer is held for it
abbrev pub IsEntered : Arrival → GatewayState → List HeldPair → BeforeReading → Type 0
IsEntered arrival old pairs (Settled step) = IsNoPair arrival old × IsTaken arrival old step old
IsEntered arrival old pairs New = IsUnheld arrival old pairs

-- an answer that is held for the request, as it is sent again
pub record IsSentAgain (arrival : Arrival) (node : Node) (sent : Sent) : Type 0 where
  pub held : Held
  pub stands : Among held node.held
  pub same : held.request ≡ arrival
  pub again : AreSent node.config (datagram_by sent ∷ []) (record { destination = arrival.source; messages = held.answer } ∷ [])

-- the report on two messages: on the first, with what the second came to, and whether a context was made for that
abbrev pub followed_by : ControlStep → ControlStep → ControlStep
followed_by first second = record { out = second.out; report = record first.report { second = Some second.report.outcome; made = second.report.made } }
