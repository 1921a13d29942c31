-- Commands that were carried out, and commands that were refused.
use Rattle.std.specs.Prelude.{◌≡◌, ◌↔◌, ℕ, [], ◌∷◌, Option, Some, None, Result, Err}
use Rattle.std.specs.FinMap.{get}
use Rattle.gtp_reliable.specs.Pending.{IsNextFree}
use Rattle.gtp_machine.specs.declared.role.Role.{Role}
use Rattle.gtp_machine.specs.Command.{OnlyAt, OfActiveSession}
use Rattle.gtp_machine.specs.Node.{Active, Session}
use Rattle.gtp_machine.specs.Choice.{HasPendingRoom}
use Rattle.gtp_machine.specs.declared.outcome.Refusal.TheVariants.{PendingFull}
use Rattle.gtp_machine.specs.Input.{Came_to, Command, Mark_end, Send_user, Commanded, Effect, refused}
use Rattle.gtp_machine.specs.declared.outcome.Refusal.{Refusal}
use Rattle.gtp_machine.specs.declared.outcome.Outcome.{Outcome}
use Rattle.gtp_machine.specs.declared.outcome.Outcome.TheVariants as outcomes
use Rattle.gtp_machine.specs.Message.{Message, Echo_request, Create_session_request, Delete_session_request}
use Rattle.gtp_machine.specs.Message.{Create_bearer_request, Delete_bearer_request}
use Rattle.gtp_machine.specs.Step.{Step}
use Rattle.gtp_gateway.specs.declared.fault.CommandFault.{CommandFault}
use Rattle.gtp_gateway.specs.declared.fault.CommandFault.TheVariants.{Refused}
use Rattle.gtp_gateway.specs.declared.command.purpose.Purpose.{Purpose}
use Rattle.gtp_gateway.specs.declared.sent.Begun.{Begun}
use Rattle.gtp_gateway.specs.command.SendRequest.{after_begun}
use Rattle.gtp_gateway.specs.messages.Sent.{datagram_by, AreSent}
use Rattle.gtp_gateway.specs.messages.Spelled.{message_in}
use Rattle.gtp_gateway.specs.GatewayState.{GatewayState, NodeMatchesQueues}

-- what a command comes to: a request is sent, or a packet or an End Marker
abbrev pub outcome_by : Command → Option ℕ → Outcome
outcome_by (Mark_end bearer) teid = outcomes.GoneOut
outcome_by (Send_user bearer payload) teid = outcomes.GoneOut
outcome_by command teid = outcomes.Begun teid

-- the command was carried out: that is a step of the machine, whose one datagram is the one that is sent
pub record IsCarriedOut (command : Command) (old : GatewayState) (begun : Begun) (new : GatewayState) : Type 0 where
  pub effect : Effect
  pub step : Step old.role old.node (Commanded command) effect
  pub sent : AreSent old.node.config (datagram_by begun.out ∷ []) effect.out.sent
  pub outcome : effect.outcome ≡ Came_to (outcome_by command begun.teid)
  pub becomes : new.node ≡ effect.node
  pub role : new.role ≡ old.role

-- the sequence number of a request
abbrev pub request_number : Message → Option ℕ
request_number (Echo_request q) = Some q.number
request_number (Create_session_request q) = Some q.number
request_number (Delete_session_request d) = Some d.number
request_number (Create_bearer_request r) = Some r.number
request_number (Delete_bearer_request d) = Some d.number
request_number m = None

-- the request that was sent has the next free number, as its octets read, and waits from now on under that; what ticks and draws go by is what the
-- node keeps: so the request is about the session and bearer that the node says, and the TEIDs that were drawn are one after the other
pub record SendsRequestNext (old : GatewayState) (begun : Begun) (new : GatewayState) : Type 0 where
  pub number : ℕ
  pub free : IsNextFree old.queues.next old.queues.waiting number
  pub sent : request_number (message_in begun.out.octets.items) ≡ Some number
  pub purpose : Purpose
  pub queues : new.queues ≡ after_begun number purpose begun.out.to begun.out.octets.items old.queues
  pub tied : NodeMatchesQueues new

-- what ticks go by, after a command that was carried out: a request waits from now on; a packet or an End Marker changes nothing
abbrev pub IsTimed : Command → GatewayState → Begun → GatewayState → Type 0
IsTimed (Mark_end bearer) old begun new = new.queues ≡ old.queues
IsTimed (Send_user bearer payload) old begun new = new.queues ≡ old.queues
IsTimed command old begun new = SendsRequestNext old begun new

-- an active session of the gateway that a command is for
pub record IsActiveSession (only : Role) (s : GatewayState) (session : ℕ) (at : Session) : Type 0 where
  pub role : s.role ≡ only
  pub stands : get s.node.sessions session ≡ Some at
  pub active : at.state ≡ Active

-- a command about an active session is refused so before any other rule is looked at
pub record IsRefusedFirst (only : Role) (s : GatewayState) (session : ℕ) (fault : CommandFault) : Type 0 where
  pub why : Refusal
  pub is : fault ≡ Refused why
  pub first : OnlyAt only s.role s.node (refused s.node why) (OfActiveSession session s.node (refused s.node why) (λ at. ⊥))

-- a command is refused so exactly where the machine refuses it so
abbrev pub IsRefusedWhere : Command → GatewayState → Result Begun CommandFault → Type 0
IsRefusedWhere command old result =
    (why : Refusal) → (result ≡ Err (Refused why)) ↔ Step old.role old.node (Commanded command) (refused old.node why)

-- the last rule of a command that sends a request: it is refused where 256 are pending, and for nothing else
abbrev pub IsLastRefused : {A : Type 0} → GatewayState → Result A CommandFault → Type 0
IsLastRefused old result = (why : Refusal) → (result ≡ Err (Refused why)) ↔ ((HasPendingRoom old.node → ⊥) × (why ≡ PendingFull))

-- a request was sent, by the last rule of its command
pub record IsAsked (Asks : Effect → Type 0) (old : GatewayState) (begun : Begun) (new : GatewayState) : Type 0 where
  pub effect : Effect
  pub room : HasPendingRoom old.node
  pub asks : Asks effect
  pub sent : AreSent old.node.config (datagram_by begun.out ∷ []) effect.out.sent
  pub outcome : effect.outcome ≡ Came_to (outcomes.Begun begun.teid)
  pub becomes : new.node ≡ effect.node
  pub role : new.role ≡ old.role
