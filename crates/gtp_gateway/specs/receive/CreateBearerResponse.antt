-- Create Bearer Responses that the packet gateway gets.
use Rattle.std.specs.Prelude.{◌≡◌, ◌≢◌, ℕ, List, [], ◌∷◌, Option, Some, None, IsSome}
use Rattle.std.specs.FinMap.{get}
use Rattle.gtp_values.specs.Ebi.{IsEbi}
use Rattle.gtp_values.specs.FiniteMap.{FiniteMap}
use Rattle.gtp_tables.specs.Identity.{IsUnused}
use Rattle.gtp_v2.specs.Message.{MessageValue}
use Rattle.gtp_machine.specs.Decoded.{message_of}
use Rattle.gtp_machine.specs.Element.{teid_in}
use Rattle.gtp_machine.specs.Message.{GivenBearer, Create_bearer_response}
use Rattle.gtp_machine.specs.Message as messages
use Rattle.gtp_machine.specs.Node.{Closing, Session, Bearer, Arrival, Node}
use Rattle.gtp_machine.specs.Packet.{CreateBearerAnswered}
use Rattle.gtp_gateway.specs.declared.receive.create_bearer_response.AskedBearer.{AskedBearer}
use Rattle.gtp_gateway.specs.declared.receive.create_bearer_response.BearerResponse.{BearerResponse}
use Rattle.gtp_gateway.specs.declared.receive.response_context.ResponseContext.{ResponseContext}
use Rattle.gtp_gateway.specs.declared.receive.restart_counter.Heard.{Heard}
use Rattle.gtp_gateway.specs.declared.command.purpose.Purpose.{Purpose}
use Rattle.gtp_gateway.specs.declared.command.purpose.Asked.TheVariants.{CreateBearer}
use Rattle.gtp_gateway.specs.declared.receive.response.Response.{Response}
use Rattle.gtp_gateway.specs.declared.tables.opening.ResponseVerdict.{ResponseVerdict}
use Rattle.gtp_gateway.specs.declared.step.ControlStep.{ControlStep}
use Rattle.gtp_gateway.specs.receive.RestartCounter.{node_heard}
use Rattle.gtp_gateway.specs.receive.Response.{Names}
use Rattle.gtp_gateway.specs.command.Purpose.{session_of, bearer_of}
use Rattle.gtp_gateway.specs.receive.Row.{IsRow}
use Rattle.gtp_gateway.specs.tables.Opening.{effect_by, CanApply}
use Rattle.gtp_gateway.specs.GatewayState.{GatewayState}

-- the bearer context says what was read
pub record SaysGiven (c : ResponseContext) (k : GivenBearer) : Type 0 where
  pub identity : k.identity ≡ c.identity
  pub cause : k.cause ≡ c.cause
  pub user : teid_in k.serving_user ≡ c.user
  pub returned : teid_in k.packet_user ≡ c.returned

-- it is the only one; or there is none, or more than one
abbrev pub SaysOnlyGiven : Option ResponseContext → List GivenBearer → Type 0
SaysOnlyGiven None contexts = (k : GivenBearer) → contexts ≡ k ∷ [] → ⊥
SaysOnlyGiven (Some c) contexts = (k : GivenBearer) × (contexts ≡ k ∷ []) × SaysGiven c k

-- the machine's message says what was read
pub record SaysCreateBearerResponse (r : BearerResponse) (x : messages.CreateBearerResponse) : Type 0 where
  pub number : x.number ≡ r.response.seq
  pub header : x.header ≡ r.response.header
  pub cause : x.cause ≡ r.response.cause
  pub contexts : SaysOnlyGiven r.context x.contexts

-- the message is a Create Bearer Response that says what was read
pub record ReadsCreateBearerResponse (m : MessageValue) (r : BearerResponse) : Type 0 where
  pub response : messages.CreateBearerResponse
  pub is : message_of m ≡ Create_bearer_response response
  pub says : SaysCreateBearerResponse r response

-- the request is a Create Bearer Request for the session that the response names
pub record FitsCreateBearerOf (purpose : Purpose) (r : Response) : Type 0 where
  pub asked : purpose.asked ≡ CreateBearer
  pub names : Names r purpose
  pub session : IsSome purpose.session
  pub bearer : IsSome purpose.bearer

-- the request asks for this bearer of this session, which the response names
pub record IsAskedBearer (purpose : Purpose) (r : Response) (k : AskedBearer) : Type 0 where
  pub asked : purpose.asked ≡ CreateBearer
  pub names : Names r purpose
  pub session : session_of purpose ≡ Some k.session
  pub bearer : bearer_of purpose ≡ Some k.bearer

-- the identity is 5 to 15 and not in use in the session, which stands and is not closing
pub record CanOpenIn (sessions : FiniteMap Session) (bearers : FiniteMap Bearer) (session identity : ℕ) : Type 0 where
  pub range : IsEbi identity
  pub unused : IsUnused bearers session identity
  pub at : Session
  pub stands : get sessions session ≡ Some at
  pub not_closing : at.state ≢ Closing

-- the verdict is the machine's, and can be carried out
pub record JudgesCreateBearerResponse (r : BearerResponse) (old : Node) (v : ResponseVerdict) : Type 0 where
  pub judged : (x : messages.CreateBearerResponse) → SaysCreateBearerResponse r x → CreateBearerAnswered x old (effect_by v x.number old)
  pub can : CanApply v old

-- a Create Bearer Response was taken
abbrev pub TakesCreateBearerResponse : BearerResponse → Heard → GatewayState → ControlStep → GatewayState → Type 0
TakesCreateBearerResponse r heard old step new =
    (request : Arrival) (x : messages.CreateBearerResponse) → SaysCreateBearerResponse r x
    → IsRow (CreateBearerAnswered x) request old.role (node_heard heard old.node) step new
