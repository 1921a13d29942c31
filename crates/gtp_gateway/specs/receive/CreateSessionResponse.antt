-- Create Session Responses that the serving gateway gets.
use Rattle.std.specs.Prelude.{◌≡◌, ℕ, List, [], ◌∷◌, Option, Some, None}
use Rattle.std.specs.FinMap.{get}
use Rattle.gtp_values.specs.FiniteMap.{FiniteMap}
use Rattle.gtp_values.specs.declared.identifiers.Teid.{Teid}
use Rattle.gtp_v2.specs.Message.{MessageValue}
use Rattle.gtp_machine.specs.Decoded.{message_of}
use Rattle.gtp_machine.specs.Element.{address_of, teid_in}
use Rattle.gtp_machine.specs.Message.{CreatedBearer, Create_session_response}
use Rattle.gtp_machine.specs.Message as messages
use Rattle.gtp_machine.specs.declared.outcome.DropReason.TheVariants.{OldCounter}
use Rattle.gtp_machine.specs.Node.{Session, Bearer, Arrival, Node}
use Rattle.gtp_machine.specs.Serving.{CreateSessionAnswered}
use Rattle.gtp_gateway.specs.declared.receive.response_context.ResponseContext.{ResponseContext}
use Rattle.gtp_gateway.specs.declared.receive.restart_counter.Heard.{Heard}
use Rattle.gtp_gateway.specs.declared.command.purpose.Purpose.{Purpose}
use Rattle.gtp_gateway.specs.declared.command.purpose.Asked.TheVariants.{CreateSession}
use Rattle.gtp_gateway.specs.declared.receive.response.Response.{Response}
use Rattle.gtp_gateway.specs.declared.receive.create_session_response.AskedSession.{AskedSession}
use Rattle.gtp_gateway.specs.declared.receive.create_session_response.DescribedSession.{DescribedSession}
use Rattle.gtp_gateway.specs.declared.receive.create_session_response.SessionResponse.{SessionResponse}
use Rattle.gtp_gateway.specs.declared.tables.opening.ResponseVerdict.{ResponseVerdict}
use Rattle.gtp_gateway.specs.declared.tables.opening.ResponseVerdict.TheVariants.{Drops, Finishes, OpensSession, OpensBearer}
use Rattle.gtp_gateway.specs.declared.step.ControlStep.{ControlStep}
use Rattle.gtp_gateway.specs.receive.RestartCounter.{node_heard, IsEarlier}
use Rattle.gtp_gateway.specs.command.Purpose.{session_of, bearer_of}
use Rattle.gtp_gateway.specs.receive.Row.{IsRow}
use Rattle.gtp_gateway.specs.tables.Opening.{effect_by, CanApply}
use Rattle.gtp_gateway.specs.GatewayState.{GatewayState}

-- the bearer context says what was read
pub record SaysCreated (c : ResponseContext) (k : CreatedBearer) : Type 0 where
  pub identity : k.identity ≡ c.identity
  pub cause : k.cause ≡ c.cause
  pub user : teid_in k.user ≡ c.user

-- it is the only one; or there is none, or more than one
abbrev pub SaysOnlyCreated : Option ResponseContext → List CreatedBearer → Type 0
SaysOnlyCreated None contexts = (k : CreatedBearer) → contexts ≡ k ∷ [] → ⊥
SaysOnlyCreated (Some c) contexts = (k : CreatedBearer) × (contexts ≡ k ∷ []) × SaysCreated c k

-- the machine's message says what was read
pub record SaysCreateSessionResponse (r : SessionResponse) (a : messages.CreateSessionResponse) : Type 0 where
  pub number : a.number ≡ r.response.seq
  pub header : a.header ≡ r.response.header
  pub cause : a.cause ≡ r.response.cause
  pub control : teid_in a.control ≡ r.control
  pub address : address_of a.address ≡ r.address
  pub contexts : SaysOnlyCreated r.context a.contexts

-- the message is a Create Session Response that says what was read
pub record ReadsCreateSessionResponse (m : MessageValue) (r : SessionResponse) : Type 0 where
  pub response : messages.CreateSessionResponse
  pub is : message_of m ≡ Create_session_response response
  pub says : SaysCreateSessionResponse r response

-- the request is a Create Session Request for the session that the response names
pub record FitsCreateSessionOf (purpose : Purpose) (r : Response) : Type 0 where
  pub default : Teid
  pub asked : purpose.asked ≡ CreateSession default
  pub named : session_of purpose ≡ Some r.header

-- the request asks for this session, which the response names
pub record IsAskedSession (purpose : Purpose) (r : Response) (k : AskedSession) : Type 0 where
  pub asked : purpose.asked ≡ CreateSession k.bearer
  pub session : session_of purpose ≡ Some k.session
  pub named : k.session ≡ r.header

-- the session stands, and the response has one bearer context, of its default identity, and an address
pub record IsDescribed (sessions : FiniteMap Session) (session : ℕ) (r : SessionResponse) (d : DescribedSession) : Type 0 where
  pub stands : get sessions session ≡ Some d.session
  pub alone : r.context ≡ Some d.context
  pub default : d.context.identity ≡ d.session.subscriber.identity
  pub given : r.address ≡ Some d.address

-- the verdict is one on a session: what is finished is about no bearer alone, and a default bearer that is opened keeps its identity
abbrev pub IsOfSession : ResponseVerdict → Node → Type 0
IsOfSession (Drops why) node = Unit {0}
IsOfSession (Finishes purpose outcome) node = bearer_of purpose ≡ None
IsOfSession (OpensSession session opened teid bearer) node = (b : Bearer) → get node.bearers teid ≡ Some b → bearer.identity ≡ b.identity
IsOfSession (OpensBearer teid bearer) node = ⊥

-- the verdict is the machine's, and can be carried out
pub record JudgesCreateSessionResponse (r : SessionResponse) (old : Node) (v : ResponseVerdict) : Type 0 where
  pub judged : (a : messages.CreateSessionResponse) → SaysCreateSessionResponse r a → CreateSessionAnswered a old (effect_by v a.number old)
  pub can : CanApply v old
  pub of : IsOfSession v old

-- the verdict is the machine's once the counter was heard, and can be carried out: with a counter of an earlier start the response is dropped
pub record JudgesAnswer (r : SessionResponse) (heard : Heard) (old : Node) (v : ResponseVerdict) : Type 0 where
  pub early : IsEarlier heard → v ≡ Drops OldCounter
  pub judged : (IsEarlier heard → ⊥) → (a : messages.CreateSessionResponse) → SaysCreateSessionResponse r a
      → CreateSessionAnswered a (node_heard heard old) (effect_by v a.number (node_heard heard old))
  pub can : CanApply v (node_heard heard old)
  pub of : IsOfSession v (node_heard heard old)

-- a Create Session Response was taken
abbrev pub TakesCreateSessionResponse : SessionResponse → Heard → GatewayState → ControlStep → GatewayState → Type 0
TakesCreateSessionResponse r heard old step new =
    (request : Arrival) (a : messages.CreateSessionResponse) → SaysCreateSessionResponse r a
    → IsRow (CreateSessionAnswered a) request old.role (node_heard heard old.node) step new
