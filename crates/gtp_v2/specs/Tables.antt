-- The tables of all kinds of messages that have one.
use Rattle.std.specs.Prelude.{ℕ, Bool, List, [], ◌∷◌, Option, Some, None, is_some, ◌==◌, if◌then◌else◌}
use Rattle.gtp_v2.specs.Table.{Table}
use Rattle.gtp_v2.specs.EchoRequest.{echo_request}
use Rattle.gtp_v2.specs.EchoResponse.{echo_response}
use Rattle.gtp_v2.specs.VersionNotSupported.{version_not_supported}
use Rattle.gtp_v2.specs.CreateSessionRequest.{create_session_request}
use Rattle.gtp_v2.specs.CreateSessionResponse.{create_session_response}
use Rattle.gtp_v2.specs.DeleteSessionRequest.{delete_session_request}
use Rattle.gtp_v2.specs.DeleteSessionResponse.{delete_session_response}
use Rattle.gtp_v2.specs.CreateBearerRequest.{create_bearer_request}
use Rattle.gtp_v2.specs.CreateBearerResponse.{create_bearer_response}
use Rattle.gtp_v2.specs.DeleteBearerRequest.{delete_bearer_request}
use Rattle.gtp_v2.specs.DeleteBearerResponse.{delete_bearer_response}

-- a line each (TS 29.274 table 6.1-1)
abbrev pub tables : List Table
tables =
    echo_request
    ∷ echo_response
    ∷ version_not_supported
    ∷ create_session_request
    ∷ create_session_response
    ∷ delete_session_request
    ∷ delete_session_response
    ∷ create_bearer_request
    ∷ create_bearer_response
    ∷ delete_bearer_request
    ∷ delete_bearer_response
    ∷ []

-- those of large messages, whose fields are kept in a box: memory is allocated for each such message
abbrev pub boxed : List Table
boxed =
    create_session_request
    ∷ create_session_response
    ∷ []

-- the table of a type among these
abbrev pub table_among : ℕ → List Table → Option Table
table_among kind [] = None
table_among kind (table ∷ others) = if kind == table.kind then Some table else table_among kind others

-- the table of a type that has one
abbrev pub table_of : ℕ → Option Table
table_of kind = table_among kind tables

-- the fields of a message of this type are kept in a box
abbrev pub is_boxed : ℕ → Bool
is_boxed kind = is_some (table_among kind boxed)
