-- The pair of messages in one datagram that the serving gateway takes, once all is known of the first.
use Rattle.std.specs.Prelude.{◌≡◌, ◌≢◌, ◌⊎◌, ◌==◌, ℕ, false, Option, Some, None, if◌then◌else◌}
use Rattle.std.specs.FinMap.{get}
use Rattle.gtp_values.specs.FiniteMap.{FiniteMap}
use Rattle.gtp_tables.specs.Contexts.{is_opened}
use Rattle.gtp_v2.specs.Viewed.{Viewed}
use Rattle.gtp_machine.specs.Decoded.{message_of}
use Rattle.gtp_machine.specs.Input.{Control_message}
use Rattle.gtp_machine.specs.Message.{Create_session_response, Create_bearer_request}
use Rattle.gtp_machine.specs.Message as messages
use Rattle.gtp_machine.specs.Node.{Arrival, Session, Bearer, Node}
use Rattle.gtp_machine.specs.declared.outcome.Outcome.TheVariants.{Opened}
use Rattle.gtp_gateway.specs.declared.step.ControlStep.{ControlStep}
use Rattle.gtp_gateway.specs.declared.receive.create_bearer_request.BearerRequest.{BearerRequest}
use Rattle.gtp_gateway.specs.declared.receive.restart_counter.Heard.{Heard}
use Rattle.gtp_gateway.specs.declared.receive.restart_counter.Heard.TheVariants.{Later}
use Rattle.gtp_gateway.specs.declared.tables.opening.ResponseVerdict.{ResponseVerdict}
use Rattle.gtp_gateway.specs.declared.tables.opening.ResponseVerdict.TheVariants.{Drops, Finishes, OpensSession, OpensBearer}
use Rattle.gtp_gateway.specs.receive.CreateBearerRequest.{SaysCreateBearer}
use Rattle.gtp_gateway.specs.receive.RestartCounter.{node_heard}
use Rattle.gtp_gateway.specs.receive.Allocations.{StepSendsOrOpens}
use Rattle.gtp_gateway.specs.command.Purpose.{session_of, bearer_of}
use Rattle.gtp_gateway.specs.tables.Removal.{goes_with_session}
use Rattle.gtp_gateway.specs.tables.Opening.{outcome_by, node_by}
use Rattle.gtp_gateway.specs.GatewayState.{GatewayState}
use Rattle.gtp_gateway.specs.receive.Taken.{IsTakenAs}

-- the node once the counter was heard and the response with the number is applied
abbrev pub node_after_first : Heard → ResponseVerdict → ℕ → Node → Node
node_after_first heard verdict number node = node_by verdict number (node_heard heard node)

-- the session under a TEID once a response is applied, by what was there before: it is opened, or goes, or stays
abbrev pub session_left : ResponseVerdict → ℕ → Option Session → Option Session
session_left (Drops why) teid before = before
session_left (Finishes purpose outcome) teid before = if goes_with_session teid purpose then None else before
session_left (OpensSession session opened at bearer) teid before = if session == teid then Some opened else before
session_left (OpensBearer at bearer) teid before = before

-- the session was not opened, where the peer has restarted
abbrev pub IsSpared : Heard → ℕ → FiniteMap Session → Type 0
IsSpared (Later counter) session sessions = is_opened (get sessions session) ≡ false
IsSpared heard session sessions = Unit {0}

-- the bearer is none that goes or is opened by the verdict
abbrev pub IsBeside : ResponseVerdict → ℕ → Bearer → Type 0
IsBeside (Drops why) teid b = Unit {0}
IsBeside (Finishes purpose outcome) teid b = (bearer_of purpose ≡ None) × ((session : ℕ) → session_of purpose ≡ Some session → b.session ≢ session)
IsBeside (OpensSession session opened at bearer) teid b = teid ≢ at
IsBeside (OpensBearer at bearer) teid b = teid ≢ at

-- a bearer that is put in before the counter is heard and the response is applied stays as it is
pub record MayStand (heard : Heard) (verdict : ResponseVerdict) (teid : ℕ) (b : Bearer) (old : Node) : Type 0 where
  pub spared : IsSpared heard b.session old.sessions
  pub beside : IsBeside verdict teid b

-- the gateway once the counter was heard and the response is applied
abbrev pub state_after_first : Heard → ResponseVerdict → ℕ → GatewayState → GatewayState
state_after_first heard verdict number old = record old { node = node_after_first heard verdict number old.node }

-- the second message was taken by a gateway that has applied the first
abbrev pub IsSecondTaken : Arrival → BearerRequest → GatewayState → ControlStep → GatewayState → Type 0
IsSecondTaken arrival r settled step new = (q : messages.CreateBearerRequest) → SaysCreateBearer r q → IsTakenAs (Control_message (Create_bearer_request q)) arrival settled step new

-- the second message is always answered by a gateway that has applied the first
abbrev pub SecondMayRunOut : Arrival → BearerRequest → GatewayState → Type 0
SecondMayRunOut arrival r settled =
    (q : messages.CreateBearerRequest) → SaysCreateBearer r q → StepSendsOrOpens arrival (Control_message (Create_bearer_request q)) settled

-- where no memory could be had, the response opens a session or the second message is answered
abbrev pub EitherMayRunOut : ResponseVerdict → Arrival → BearerRequest → GatewayState → Type 0
EitherMayRunOut verdict arrival r settled = (outcome_by verdict ≡ Opened) ⊎ SecondMayRunOut arrival r settled

-- the machine's messages are what the two were viewed as
pub record ArePair (first second : Viewed) (a : messages.CreateSessionResponse) (q : messages.CreateBearerRequest) : Type 0 where
  pub answer : message_of first.message ≡ Create_session_response a
  pub asked : message_of second.message ≡ Create_bearer_request q
