-- What the code's messages say.
use Rattle.std.specs.Prelude.{◌≡◌, ℕ, List, None}
use Rattle.gtp_v2.specs.declared.body.Body.{Body}
use Rattle.gtp_v2.specs.declared.body.Body.TheVariants as bodies
use Rattle.gtp_v2.specs.declared.message.Message.{Message}
use Rattle.gtp_v2.specs.EchoRequest.{echo_request, echo_request_fields}
use Rattle.gtp_v2.specs.EchoResponse.{echo_response, echo_response_fields}
use Rattle.gtp_v2.specs.VersionNotSupported.{version_not_supported, version_not_supported_fields}
use Rattle.gtp_v2.specs.CreateSessionRequest.{create_session_request, create_session_request_fields}
use Rattle.gtp_v2.specs.CreateSessionResponse.{create_session_response, create_session_response_fields}
use Rattle.gtp_v2.specs.DeleteSessionRequest.{delete_session_request, delete_session_request_fields}
use Rattle.gtp_v2.specs.DeleteSessionResponse.{delete_session_response, delete_session_response_fields}
use Rattle.gtp_v2.specs.CreateBearerRequest.{create_bearer_request, create_bearer_request_fields}
use Rattle.gtp_v2.specs.CreateBearerResponse.{create_bearer_response, create_bearer_response_fields}
use Rattle.gtp_v2.specs.DeleteBearerRequest.{delete_bearer_request, delete_bearer_request_fields}
use Rattle.gtp_v2.specs.DeleteBearerResponse.{delete_bearer_response, delete_bearer_response_fields}
use Rattle.gtp_v2.specs.Message.{Content, Fields, Raw, MessageValue}
use Rattle.gtp_v2.specs.Table.{Field, Table}
use Rattle.gtp_v2.specs.Tables.{table_of}

-- what a body says: the type of its message, and what that carries
pub record Said : Type 0 where
  pub kind : ℕ
  pub content : Content

abbrev pub by : Table → List Field → Said
by table fields = record { kind = table.kind; content = Fields fields }

abbrev pub said_of : Body → Said
said_of (bodies.EchoRequest m) = by echo_request (echo_request_fields m)
said_of (bodies.EchoResponse m) = by echo_response (echo_response_fields m)
said_of (bodies.VersionNotSupported m) = by version_not_supported (version_not_supported_fields m)
said_of (bodies.CreateSessionRequest m) = by create_session_request (create_session_request_fields m)
said_of (bodies.CreateSessionResponse m) = by create_session_response (create_session_response_fields m)
said_of (bodies.DeleteSessionRequest m) = by delete_session_request (delete_session_request_fields m)
said_of (bodies.DeleteSessionResponse m) = by delete_session_response (delete_session_response_fields m)
said_of (bodies.CreateBearerRequest m) = by create_bearer_request (create_bearer_request_fields m)
said_of (bodies.CreateBearerResponse m) = by create_bearer_response (create_bearer_response_fields m)
said_of (bodies.DeleteBearerRequest m) = by delete_bearer_request (delete_bearer_request_fields m)
said_of (bodies.DeleteBearerResponse m) = by delete_bearer_response (delete_bearer_response_fields m)
said_of (bodies.Other kind octets) = record { kind = kind; content = Raw octets }

abbrev pub kind_of : Body → ℕ
kind_of body = (said_of body).kind

abbrev pub content_of : Body → Content
content_of body = (said_of body).content

-- what a message says
abbrev pub message_value : Message → MessageValue
message_value m = record { kind = kind_of m.body; teid = m.teid; seq = m.seq; priority = m.priority; content = content_of m.body }

-- the kind fits the body: a message kept as octets is of a type without a table
abbrev pub OctetsOnlyWithoutTable : Body → Type 0
OctetsOnlyWithoutTable (bodies.Other kind octets) = table_of kind ≡ None
OctetsOnlyWithoutTable body = Unit {0}
