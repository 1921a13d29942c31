-- The types of messages of the control plane that gateways take (TS 29.274, 6.1), in one table.
use Rattle.std.specs.Prelude.{ℕ, ◌==◌, ◌&&◌, Bool, true, false, List, [], ◌∷◌, Option, Some, None, if◌then◌else◌}
use Rattle.gtp_v2.specs.EchoRequest.{echo_request}
use Rattle.gtp_v2.specs.EchoResponse.{echo_response}
use Rattle.gtp_v2.specs.CreateSessionRequest.{create_session_request}
use Rattle.gtp_v2.specs.CreateSessionResponse.{create_session_response}
use Rattle.gtp_v2.specs.DeleteSessionRequest.{delete_session_request}
use Rattle.gtp_v2.specs.DeleteSessionResponse.{delete_session_response}
use Rattle.gtp_v2.specs.CreateBearerRequest.{create_bearer_request}
use Rattle.gtp_v2.specs.CreateBearerResponse.{create_bearer_response}
use Rattle.gtp_v2.specs.DeleteBearerRequest.{delete_bearer_request}
use Rattle.gtp_v2.specs.DeleteBearerResponse.{delete_bearer_response}
use Rattle.gtp_machine.specs.declared.role.Role.{Role}
use Rattle.gtp_machine.specs.declared.role.Role.TheVariants.{Serving, Packet}
use Rattle.gtp_machine.specs.declared.message_type.MessageType.{MessageType}
use Rattle.gtp_machine.specs.declared.message_type.MessageType.TheVariants as types
use Rattle.gtp_machine.specs.Message.{Message, Echo_request, Echo_response, Create_session_request, Create_session_response}
use Rattle.gtp_machine.specs.Message.{Delete_session_request, Delete_session_response, Create_bearer_request, Create_bearer_response}
use Rattle.gtp_machine.specs.Message.{Delete_bearer_request, Delete_bearer_response}

-- a type of message, and what a gateway does with the messages of it
pub record TypeRow : Type 0 where
  pub kind : ℕ  -- the number of the type
  pub taker : Option Role  -- which gateway takes them: both, where none is named
  pub is_request : Bool  -- they are requests whose answers are held
  pub has_counter : Bool  -- the sender's restart counter may be in them

abbrev row : ℕ → Option Role → Bool → Bool → TypeRow
row kind taker is_request has_counter = record { kind = kind; taker = taker; is_request = is_request; has_counter = has_counter }

-- the table: number, taker, requests, counter
abbrev pub type_row : MessageType → TypeRow
type_row types.EchoRequest = row echo_request.kind None false true
type_row types.EchoResponse = row echo_response.kind None false true
type_row types.CreateSessionRequest = row create_session_request.kind (Some Packet) true true
type_row types.CreateSessionResponse = row create_session_response.kind (Some Serving) false true
type_row types.DeleteSessionRequest = row delete_session_request.kind (Some Packet) true false
type_row types.DeleteSessionResponse = row delete_session_response.kind (Some Serving) false true
type_row types.CreateBearerRequest = row create_bearer_request.kind (Some Serving) true false
type_row types.CreateBearerResponse = row create_bearer_response.kind (Some Packet) false true
type_row types.DeleteBearerRequest = row delete_bearer_request.kind (Some Serving) true false
type_row types.DeleteBearerResponse = row delete_bearer_response.kind (Some Packet) false true

-- all of them
abbrev pub all_types : List MessageType
all_types =
    types.EchoRequest ∷ types.EchoResponse
    ∷ types.CreateSessionRequest ∷ types.CreateSessionResponse ∷ types.DeleteSessionRequest ∷ types.DeleteSessionResponse
    ∷ types.CreateBearerRequest ∷ types.CreateBearerResponse ∷ types.DeleteBearerRequest ∷ types.DeleteBearerResponse ∷ []

-- the one of these types that has this number
abbrev pub type_among : List MessageType → ℕ → Option MessageType
type_among [] kind = None
type_among (t ∷ others) kind = if kind == (type_row t).kind then Some t else type_among others kind

abbrev pub type_at : ℕ → Option MessageType
type_at kind = type_among all_types kind

-- the type of a message
abbrev pub type_of : Message → Option MessageType
type_of (Echo_request q) = Some types.EchoRequest
type_of (Echo_response a) = Some types.EchoResponse
type_of (Create_session_request q) = Some types.CreateSessionRequest
type_of (Create_session_response a) = Some types.CreateSessionResponse
type_of (Delete_session_request d) = Some types.DeleteSessionRequest
type_of (Delete_session_response d) = Some types.DeleteSessionResponse
type_of (Create_bearer_request r) = Some types.CreateBearerRequest
type_of (Create_bearer_response x) = Some types.CreateBearerResponse
type_of (Delete_bearer_request d) = Some types.DeleteBearerRequest
type_of (Delete_bearer_response d) = Some types.DeleteBearerResponse
type_of _ = None

-- the gateway is the one that takes them
abbrev pub is_taker : Role → Option Role → Bool
is_taker role None = true
is_taker Serving (Some Serving) = true
is_taker Serving (Some Packet) = false
is_taker Packet (Some Serving) = false
is_taker Packet (Some Packet) = true

-- whether a gateway takes messages of a type, whether it answers requests of it, and whether it takes a message
abbrev pub takes_type : Role → MessageType → Bool
takes_type role t = is_taker role (type_row t).taker

abbrev pub answers_type : Role → MessageType → Bool
answers_type role t = takes_type role t && (type_row t).is_request

abbrev pub takes_some : Role → Option MessageType → Bool
takes_some role None = false
takes_some role (Some t) = takes_type role t

abbrev pub takes_message : Role → Message → Bool
takes_message role m = takes_some role (type_of m)

-- the type, where it is one of requests whose answers are held
abbrev pub request_only : Option MessageType → Option MessageType
request_only None = None
request_only (Some t) = if (type_row t).is_request then Some t else None
