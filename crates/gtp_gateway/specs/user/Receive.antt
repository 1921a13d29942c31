-- Datagrams of the user plane that were taken.
use Rattle.std.specs.Prelude.{◌≡◌, ◌≢◌, ◌↔◌, ℕ, Bool, List, [], ◌∷◌, filter, Option, Some, None, IsSome}
use Rattle.gtp_values.specs.declared.address.Endpoint.{Endpoint}
use Rattle.gtp_reliable.specs.Waiting.{Waiting}
use Rattle.gtp_machine.specs.Node.{Node}
use Rattle.gtp_machine.specs.Choice.{HasSession, HasBearer}
use Rattle.gtp_machine.specs.Message.{User}
use Rattle.gtp_machine.specs.Input.{Came_to, UserReading, User_fault, Extension_needed, User_came, Entry, entry_for, nothing, Effect, undecodable}
use Rattle.gtp_machine.specs.declared.outcome.Outcome.{Outcome}
use Rattle.gtp_machine.specs.declared.outcome.Outcome.TheVariants as outcomes
use Rattle.gtp_machine.specs.Reading.{user_reading}
use Rattle.gtp_machine.specs.Step.{Step as MachineStep}
use Rattle.gtp_gateway.specs.declared.command.purpose.Purpose.{Purpose}
use Rattle.gtp_gateway.specs.user.Accepted.{Accepted}
use Rattle.gtp_gateway.specs.declared.step.Step.{Step}
use Rattle.gtp_gateway.specs.declared.user.receive.Judged.{Judged}
use Rattle.gtp_gateway.specs.declared.user.receive.Judged.TheVariants as judged
use Rattle.gtp_gateway.specs.declared.user.reply.Reply.TheVariants.{Notification}
use Rattle.gtp_gateway.specs.Parts.{pending_in}
use Rattle.gtp_gateway.specs.user.Reply.{replied}
use Rattle.gtp_gateway.specs.messages.Sent.{AreSent}
use Rattle.gtp_gateway.specs.GatewayState.{GatewayState}
use Rattle.gtp_gateway.specs.receive.Taken.{datagrams, plain_report}

-- nothing but an outcome
abbrev pub plain_step : Outcome → Step
plain_step outcome = record { out = None; accepted = None; report = plain_report outcome }

-- nothing but a packet that was accepted
abbrev pub accepted_step : Accepted → Step
accepted_step packet = record { out = None; accepted = Some packet; report = plain_report outcomes.Accepted }

-- the entry of a packet on the bearer under this TEID: of that bearer, and of its session
pub record IsEntryOf (node : Node) (bearer : ℕ) (payload : List ℕ) (entry : Entry) : Type 0 where
  pub at : HasBearer node bearer
  pub of : HasSession node at.bearer.session
  pub is : entry ≡ entry_for bearer payload of.session.subscriber at.bearer.identity

-- the packet that was accepted is the one entry; where there is none, there is no entry
abbrev pub AreEntries : Node → Option Accepted → List Entry → Type 0
AreEntries node None entries = entries ≡ []
AreEntries node (Some accepted) entries = (entry : Entry) × IsEntryOf node accepted.bearer accepted.payload entry × (entries ≡ entry ∷ [])

-- the step tells what the effect has: what is sent, the outcome, and the packet that was accepted, which there is with that outcome alone; neither has
-- anything else to tell
pub record TellsUser (old : Node) (step : Step) (e : Effect) : Type 0 where
  pub sent : AreSent old.config (datagrams step.out) e.out.sent
  pub outcome : Came_to step.report.outcome ≡ e.outcome
  pub report : step.report ≡ plain_report step.report.outcome
  pub accepted : AreEntries old step.accepted e.out.accepted
  pub packet : (step.report.outcome ≡ outcomes.Accepted) ↔ IsSome step.accepted
  pub all : e.out ≡ record nothing { sent = e.out.sent; accepted = e.out.accepted }

-- the requests that are pending in the node wait on as they did, and nothing else changes of what ticks go by
pub record RequestsWaitOn (old new : GatewayState) : Type 0 where
  pub stays : Waiting Purpose → Bool
  pub queues : new.queues ≡ record old.queues { waiting = filter stays old.queues.waiting }
  pub pending : new.node.pending ≡ pending_in new.queues.waiting

-- a datagram was taken, by this relation of the machine; what ticks go by changes only where bearers go that the peer does not know
pub record IsTakenBy (Takes : Node → Effect → Type 0) (old : GatewayState) (step : Step) (new : GatewayState) : Type 0 where
  pub effect : Effect
  pub takes : Takes old.node effect
  pub tells : TellsUser old.node step effect
  pub becomes : new.node ≡ effect.node
  pub role : new.role ≡ old.role
  pub same : step.report.outcome ≢ outcomes.Broken → new.queues ≡ old.queues
  pub waits : RequestsWaitOn old new

-- a datagram was taken, by this relation; or it is answered, and nothing has changed
abbrev pub IsJudgedBy : (Node → Effect → Type 0) → GatewayState → Judged → GatewayState → Type 0
IsJudgedBy Takes old (judged.Accepted packet) new = IsTakenBy Takes old (accepted_step packet) new
IsJudgedBy Takes old (judged.Came outcome) new = IsTakenBy Takes old (plain_step outcome) new
IsJudgedBy Takes old (judged.Replies reply) new = Takes old.node (replied reply old.node) × (new ≡ old)

-- a datagram at fault is dropped, or its extension header that is needed and not known is told of
abbrev pub IsFaultJudged : UserReading → Judged → Type 0
IsFaultJudged reading (judged.Accepted packet) = ⊥
IsFaultJudged reading (judged.Came outcome) = (number : ℕ) × (reading ≡ User_fault number) × (outcome ≡ outcomes.Dropped (undecodable User number))
IsFaultJudged reading (judged.Replies reply) = (reading ≡ Extension_needed) × (reply ≡ Notification)

-- the steps of the machine on what the octets of a datagram of the user plane read as
abbrev pub UserComes : Endpoint → List ℕ → GatewayState → Node → Effect → Type 0
UserComes source octets old node effect = MachineStep old.role node (User_came source (user_reading octets)) effect

-- a datagram of the user plane was taken: that is a step of the machine
abbrev pub IsUserTaken : Endpoint → List ℕ → GatewayState → Step → GatewayState → Type 0
IsUserTaken source octets old step new = IsTakenBy (UserComes source octets old) old step new

-- something is sent for the datagram
abbrev pub IsAnswered : Endpoint → List ℕ → GatewayState → Type 0
IsAnswered source octets old = (effect : Effect) × UserComes source octets old old.node effect × (effect.out.sent ≢ [])
