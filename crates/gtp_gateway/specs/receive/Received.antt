-- A datagram that was received, on either plane.
use Rattle.std.specs.Prelude.{◌≡◌, ◌≢◌, ◌⊎◌, ℕ, List, Some, None, option_map}
use Rattle.gtp_values.specs.declared.address.Endpoint.{Endpoint}
use Rattle.gtp_machine.specs.Ordered.{Unless}
use Rattle.gtp_machine.specs.Message.{CreateSessionResponse, CreateBearerRequest, Create_session_response, Create_bearer_request, Plane, Control, User}
use Rattle.gtp_machine.specs.Node.{Arrival, Node}
use Rattle.gtp_machine.specs.Input.{Came_to, Input, Control_message, Control_came, User_came, nothing, Effect}
use Rattle.gtp_machine.specs.Reading.{datagram_reading, taken_as, user_reading}
use Rattle.gtp_machine.specs.Step.{Step as MachineStep, TakesPair}
use Rattle.gtp_machine.specs.declared.outcome.Outcome.TheVariants.{Broken}
use Rattle.gtp_gateway.specs.declared.step.Step.{Step}
use Rattle.gtp_gateway.specs.declared.step.ControlStep.{ControlStep}
use Rattle.gtp_gateway.specs.receive.Queues.{QueuesAfterMessage}
use Rattle.gtp_gateway.specs.receive.Allocations.{SendsOrOpens, ControlSendsOrOpens}
use Rattle.gtp_gateway.specs.receive.TwoMessages.{first_arrival, second_arrival}
use Rattle.gtp_gateway.specs.Parts.{arrival_of}
use Rattle.gtp_gateway.specs.messages.Sent.{AreSent}
use Rattle.gtp_gateway.specs.GatewayState.{GatewayState, NodeMatchesQueues}
use Rattle.gtp_gateway.specs.receive.Taken.{datagrams, made_for, IsTaken}
use Rattle.gtp_gateway.specs.user.Receive.{AreEntries, IsAnswered, RequestsWaitOn}

-- what comes with a datagram of a plane: what it is taken for
abbrev pub coming : Plane → Endpoint → List ℕ → Input
coming Control source octets = Control_came (arrival_of source octets) (taken_as (datagram_reading octets))
coming User source octets = User_came source (user_reading octets)

-- the step tells what the effect has: what is sent, the outcome, and of no second message, the counter that was heard, whether it is later than the one that was
-- known, whether a context was made for the request, and the packet that was accepted; the effect has nothing else to tell
pub record TellsStep (old : Node) (request : Arrival) (step : Step) (e : Effect) : Type 0 where
  pub sent : AreSent old.config (datagrams step.out) e.out.sent
  pub outcome : Came_to step.report.outcome ≡ e.outcome
  pub alone : step.report.second ≡ None
  pub heard : option_map (λ c. c.0) step.report.heard ≡ e.out.heard
  pub restart : option_map (λ c. c.0) step.report.restart ≡ e.out.learned
  pub made : made_for request step.report.made ≡ e.out.made
  pub accepted : AreEntries old step.accepted e.out.accepted
  pub all : e.out ≡ record nothing { sent = e.out.sent; heard = e.out.heard; learned = e.out.learned; made = e.out.made; accepted = e.out.accepted }

-- a datagram was received as a whole: that is a step of the machine, on what it is taken for
pub record IsReceivedOnce (plane : Plane) (source : Endpoint) (octets : List ℕ) (old : GatewayState) (step : Step) (new : GatewayState) : Type 0 where
  pub effect : Effect
  pub takes : MachineStep old.role old.node (coming plane source octets) effect
  pub tells : TellsStep old.node (arrival_of source octets) step effect
  pub becomes : new.node ≡ effect.node
  pub role : new.role ≡ old.role

-- the first message of a pair as it comes, and the second
abbrev pub first_comes : Arrival → CreateSessionResponse → Input
first_comes arrival answer = Control_came (first_arrival arrival) (Control_message (Create_session_response answer))

abbrev pub second_comes : Arrival → CreateBearerRequest → Input
second_comes arrival asked = Control_came (second_arrival arrival) (Control_message (Create_bearer_request asked))

-- the step tells what two effects have: of the first the outcome, the counter that was heard, and whether it is later than the one that was known; of the second
-- what is sent, the outcome, and whether a context was made for its request; neither has anything else to tell, and no packet is accepted
pub record TellsBoth (old : Node) (request : Arrival) (step : Step) (first second : Effect) : Type 0 where
  pub sent : AreSent old.config (datagrams step.out) second.out.sent
  pub outcome : Came_to step.report.outcome ≡ first.outcome
  pub next : option_map Came_to step.report.second ≡ Some second.outcome
  pub heard : option_map (λ c. c.0) step.report.heard ≡ first.out.heard
  pub restart : option_map (λ c. c.0) step.report.restart ≡ first.out.learned
  pub made : made_for request step.report.made ≡ second.out.made
  pub accepted : step.accepted ≡ None
  pub all_first : first.out ≡ record nothing { heard = first.out.heard; learned = first.out.learned }
  pub all_second : second.out ≡ record nothing { sent = second.out.sent; made = second.out.made }

-- the two messages of a datagram were received, one after the other: that is two steps of the machine
pub record AreReceived (arrival : Arrival) (answer : CreateSessionResponse) (asked : CreateBearerRequest) (old : GatewayState) (step : Step) (new : GatewayState) : Type 0 where
  pub first : Effect
  pub takes : MachineStep old.role old.node (first_comes arrival answer) first
  pub second : Effect
  pub follows : MachineStep old.role first.node (second_comes arrival asked) second
  pub tells : TellsBoth old.node (second_arrival arrival) step first second
  pub becomes : new.node ≡ second.node
  pub role : new.role ≡ old.role

-- where the datagram is a pair that the gateway takes the one holds, and else the other
abbrev pub ByPair : Arrival → GatewayState → Type 0 → (CreateSessionResponse → CreateBearerRequest → Type 0) → Type 0
ByPair arrival old Whole Two = Unless (TakesPair old.role old.node.config arrival (datagram_reading arrival.octets)) Whole (λ pair. Two pair.answer pair.asked)

-- a datagram was received: a pair that the gateway takes message by message, and any other as a whole
abbrev pub IsReceived : Plane → Endpoint → List ℕ → GatewayState → Step → GatewayState → Type 0
IsReceived Control source octets old step new =
    ByPair (arrival_of source octets) old (IsReceivedOnce Control source octets old step new) (λ answer asked. AreReceived (arrival_of source octets) answer asked old step new)
IsReceived User source octets old step new = IsReceivedOnce User source octets old step new

-- whatever two steps there are on a pair, one of them sends or opens
abbrev pub EitherSendsOrOpens : Arrival → CreateSessionResponse → CreateBearerRequest → GatewayState → Type 0
EitherSendsOrOpens arrival answer asked old =
    (first second : Effect) → MachineStep old.role old.node (first_comes arrival answer) first
    → MachineStep old.role first.node (second_comes arrival asked) second → SendsOrOpens first ⊎ SendsOrOpens second

-- where no memory could be had for a datagram of the control plane, something was to be sent for it, or a context was to be opened
abbrev pub ControlMayRunOut : Arrival → GatewayState → Type 0
ControlMayRunOut arrival old = ByPair arrival old (ControlSendsOrOpens arrival old) (λ answer asked. EitherSendsOrOpens arrival answer asked old)

-- the same on either plane
abbrev pub MayRunOut : Plane → Endpoint → List ℕ → GatewayState → Type 0
MayRunOut Control source octets old = ControlMayRunOut (arrival_of source octets) old
MayRunOut User source octets old = IsAnswered source octets old

-- what ticks go by, after a datagram of the control plane: the answer to a pair is held by the octets of its second message
abbrev pub QueuesAfterControl : Arrival → GatewayState → GatewayState → Type 0
QueuesAfterControl arrival old new = ByPair arrival old (QueuesAfterMessage arrival old new) (λ answer asked. QueuesAfterMessage (second_arrival arrival) old new)

-- what ticks go by, after a datagram: the requests that are still pending wait on; after one of the control plane one more may wait, and an answer that was given
-- is held from now on, and one of the user plane changes nothing, but where bearers go that the peer does not know; and it is what the node keeps
abbrev pub QueuesAfterReceive : Plane → Endpoint → List ℕ → Step → GatewayState → GatewayState → Type 0
QueuesAfterReceive Control source octets step old new = QueuesAfterControl (arrival_of source octets) old new
QueuesAfterReceive User source octets step old new = (step.report.outcome ≢ Broken → new.queues ≡ old.queues) × RequestsWaitOn old new × NodeMatchesQueues new

-- what a datagram of the control plane comes to
abbrev pub of_control : ControlStep → Step
of_control s = record { out = s.out; accepted = None; report = s.report }

-- a datagram of the control plane was taken: a pair that the gateway takes message by message, and any other as a whole
abbrev pub IsControlTaken : Arrival → GatewayState → ControlStep → GatewayState → Type 0
IsControlTaken arrival old step new = ByPair arrival old (IsTaken arrival old step new) (λ answer asked. AreReceived arrival answer asked old (of_control step) new)
