-- What the clauses of a gateway's calls leave open: nothing of what is sent, told and kept, but for a few forms in which the same is kept.
use Rattle.std.specs.Prelude.{◌≡◌, ℕ, List, [], map, Option, None, option_map}
use Rattle.gtp_values.specs.declared.address.Endpoint.{Endpoint}
use Rattle.gtp_reliable.specs.Held.{HeldPair}
use Rattle.gtp_reliable.specs.Waiting.{Waiting}
use Rattle.gtp_machine.specs.Input.{Command, Mark_end, Send_user}
use Rattle.gtp_machine.specs.Message.{Plane}
use Rattle.gtp_gateway.specs.declared.command.purpose.Purpose.{Purpose}
use Rattle.gtp_gateway.specs.declared.sent.Begun.{Begun}
use Rattle.gtp_gateway.specs.user.Accepted.{Accepted}
use Rattle.gtp_gateway.specs.declared.step.Step.{Step}
use Rattle.gtp_gateway.specs.declared.tick.Ticked.{Ticked}
use Rattle.gtp_gateway.specs.command.Command.{IsCarriedOut, SendsRequestNext}
use Rattle.gtp_gateway.specs.receive.Choosing.{ChoosesLowest}
use Rattle.gtp_gateway.specs.receive.Received.{IsReceived, QueuesAfterReceive}
use Rattle.gtp_gateway.specs.messages.Sent.{datagram_by}
use Rattle.gtp_gateway.specs.GatewayState.{GatewayState}
use Rattle.gtp_gateway.specs.receive.Taken.{datagrams}
use Rattle.gtp_gateway.specs.Tick.{IsTicked, QueuesAfterTick, arrivals_of}

-- a packet that was accepted: the TEID of its bearer, and its payload
abbrev pub packet_of : Option Accepted → Option (ℕ × List ℕ)
packet_of accepted = option_map (λ a. (a.bearer, a.payload)) accepted

-- a request that waits, but for what the program keeps of what it is about: the node says that
abbrev pub waits_as : Waiting Purpose → Waiting (Unit {0})
waits_as w = record { seq = w.seq; to = w.to; octets = w.octets; purpose = tt; waited = w.waited; resent = w.resent }

-- an answer that is held, but for its octets: the node has the messages
abbrev pub held_as : HeldPair → HeldPair
held_as p = record p { answer = [] }

-- the same is left: the role, the node and what ticks go by
pub record AreLeftAlike (new left : GatewayState) : Type 0 where
  pub role : new.role ≡ left.role
  pub node : new.node ≡ left.node
  pub timers : new.queues.timers ≡ left.queues.timers
  pub next : new.queues.next ≡ left.queues.next
  pub waiting : map waits_as new.queues.waiting ≡ map waits_as left.queues.waiting
  pub held : map held_as new.queues.held ≡ map held_as left.queues.held

-- the clauses of `receive` hold of this answer, and of the gateway that it leaves
pub record MeetsReceive (plane : Plane) (source : Endpoint) (octets : List ℕ) (old : GatewayState) (step : Step) (new : GatewayState) : Type 0 where
  pub received : IsReceived plane source octets old step new
  pub queues : QueuesAfterReceive plane source octets step old new
  pub choices : ChoosesLowest step.report.made old.role old.node new.node

-- two answers are one: the same is sent and told, the same packet is accepted, and the same is left
pub record AreOneStep (step other : Step) (new left : GatewayState) : Type 0 where
  pub sent : datagrams step.out ≡ datagrams other.out
  pub report : step.report ≡ other.report
  pub accepted : packet_of step.accepted ≡ packet_of other.accepted
  pub leaves : AreLeftAlike new left

-- Whatever comes, the clauses of `receive` leave one answer.
abbrev pub ReceivesOne : GatewayState → Type 0
ReceivesOne old =
    (plane : Plane) (source : Endpoint) (octets : List ℕ) (step other : Step) (new left : GatewayState)
    → MeetsReceive plane source octets old step new → MeetsReceive plane source octets old other left → AreOneStep step other new left

-- with a packet and an End Marker no context is told and no request waits, and with any other command a request waits under the next free number
abbrev pub WaitsNext : Command → GatewayState → Begun → GatewayState → Type 0
WaitsNext (Mark_end bearer) old begun new = (begun.teid ≡ None) × (new.queues ≡ old.queues)
WaitsNext (Send_user bearer payload) old begun new = (begun.teid ≡ None) × (new.queues ≡ old.queues)
WaitsNext command old begun new = SendsRequestNext old begun new

-- the clauses of a command's call hold of this answer, and of the gateway that it leaves
pub record MeetsCommand (command : Command) (old : GatewayState) (begun : Begun) (new : GatewayState) : Type 0 where
  pub done : IsCarriedOut command old begun new
  pub next : WaitsNext command old begun new

-- two answers to a command are one: the same is sent, the same context is told, and the same is left
pub record AreOneBegun (begun other : Begun) (new left : GatewayState) : Type 0 where
  pub sent : datagram_by begun.out ≡ datagram_by other.out
  pub teid : begun.teid ≡ other.teid
  pub leaves : AreLeftAlike new left

-- Whatever is commanded, the clauses leave one answer where it is carried out.
abbrev pub BeginsOne : GatewayState → Type 0
BeginsOne old = (command : Command) (begun other : Begun) (new left : GatewayState) → MeetsCommand command old begun new → MeetsCommand command old other left → AreOneBegun begun other new left

-- the clauses of `tick` hold of this answer, and of the gateway that it leaves
pub record MeetsTick (old : GatewayState) (ticked : Ticked) (new : GatewayState) : Type 0 where
  pub passed : IsTicked old ticked new
  pub counts : QueuesAfterTick old new

-- two ticks are one: the same is sent again, given up and forgotten, and the same is left
pub record AreOneTick (ticked other : Ticked) (new left : GatewayState) : Type 0 where
  pub resent : map datagram_by ticked.resent.items ≡ map datagram_by other.resent.items
  pub gave_up : ticked.gave_up.items ≡ other.gave_up.items
  pub forgotten : arrivals_of ticked.forgotten.items ≡ arrivals_of other.forgotten.items
  pub leaves : AreLeftAlike new left

-- The clauses of `tick` leave one answer.
abbrev pub TicksOne : GatewayState → Type 0
TicksOne old = (ticked other : Ticked) (new left : GatewayState) → MeetsTick old ticked new → MeetsTick old other left → AreOneTick ticked other new left
