-- What a control message reads as, by its type (TS 29.274, 6.1). How the rows of each message read stands in its file in `messages`.
use Rattle.std.specs.Prelude.{List, [], ◌∷◌, Option, Some, None}
use Rattle.gtp_ie.specs.Value.{Value}
use Rattle.gtp_v2.specs.Message.{Content, Fields, Raw, MessageValue}
use Rattle.gtp_machine.specs.declared.message_type.MessageType.{MessageType}
use Rattle.gtp_machine.specs.declared.message_type.MessageType.TheVariants as types
pub use Rattle.gtp_machine.specs.messages.Rows.{number_of, octets_of, cause_in, end_in, qos_in, ambr_in, network_in, paa_in, first_in}
pub use Rattle.gtp_machine.specs.messages.Rows.{number_at, octets_at, cause_at, end_at, no_rates, qos_at, row, place_in, context_row}
pub use Rattle.gtp_machine.specs.messages.Rows.{values_in, groups_in}
unfoldable pub use Rattle.gtp_machine.specs.messages.Rows.{row_in, list_in, contexts_in}
pub use Rattle.gtp_machine.specs.messages.Echo.{echo_in}
pub use Rattle.gtp_machine.specs.messages.CreateSessionRequest.{requested, create_session_request_in}
pub use Rattle.gtp_machine.specs.messages.CreateSessionResponse.{created, create_session_response_in}
pub use Rattle.gtp_machine.specs.messages.DeleteSessionRequest.{delete_session_request_in}
pub use Rattle.gtp_machine.specs.messages.DeleteSessionResponse.{delete_session_response_in}
pub use Rattle.gtp_machine.specs.messages.CreateBearerRequest.{wanted, create_bearer_request_in}
pub use Rattle.gtp_machine.specs.messages.CreateBearerResponse.{given, create_bearer_response_in}
pub use Rattle.gtp_machine.specs.messages.DeleteBearerRequest.{delete_bearer_request_in}
pub use Rattle.gtp_machine.specs.messages.DeleteBearerResponse.{removed, delete_bearer_response_in}
use Rattle.gtp_machine.specs.Message.{Message, Echo_request, Echo_response, Create_session_request}
use Rattle.gtp_machine.specs.Message.{Create_session_response, Delete_session_request, Delete_session_response, Create_bearer_request}
use Rattle.gtp_machine.specs.Message.{Create_bearer_response, Delete_bearer_request, Delete_bearer_response, Other_control}
use Rattle.gtp_machine.specs.MessageType.{type_at}

-- a Create Session Request with these bearer contexts; each that octets spell has one
abbrev pub session_request_in : MessageValue → List (List (List Value)) → Message
session_request_in m [] = Other_control m.kind
session_request_in m (first ∷ further) = Create_session_request (create_session_request_in m first further)

-- a Create Bearer Request with these bearer contexts; each that octets spell has one
abbrev pub bearer_request_in : MessageValue → List (List (List Value)) → Message
bearer_request_in m [] = Other_control m.kind
bearer_request_in m (first ∷ further) = Create_bearer_request (create_bearer_request_in m first further)

-- the message of a type; a type that no gateway takes says no more
abbrev pub message_by : Option MessageType → MessageValue → Message
message_by (Some types.EchoRequest) m = Echo_request (echo_in m)
message_by (Some types.EchoResponse) m = Echo_response (echo_in m)
message_by (Some types.CreateSessionRequest) m = session_request_in m (contexts_in m)
message_by (Some types.CreateSessionResponse) m = Create_session_response (create_session_response_in m)
message_by (Some types.DeleteSessionRequest) m = Delete_session_request (delete_session_request_in m)
message_by (Some types.DeleteSessionResponse) m = Delete_session_response (delete_session_response_in m)
message_by (Some types.CreateBearerRequest) m = bearer_request_in m (contexts_in m)
message_by (Some types.CreateBearerResponse) m = Create_bearer_response (create_bearer_response_in m)
message_by (Some types.DeleteBearerRequest) m = Delete_bearer_request (delete_bearer_request_in m)
message_by (Some types.DeleteBearerResponse) m = Delete_bearer_response (delete_bearer_response_in m)
message_by None m = Other_control m.kind

-- the message that carries this; the octets of another type are not looked at
abbrev pub content_message : Content → MessageValue → Message
content_message (Fields fields) m = message_by (type_at m.kind) m
content_message (Raw octets) m = Other_control m.kind

-- what a message of the control plane says (5.1), as a message of the machine; its priority is not looked at
abbrev pub message_of : MessageValue → Message
message_of m = content_message m.content m
