-- The octets that a gateway sends for a message: the canonical encoding of what it says, field by field (TS 29.274, 5 to 8; TS 29.281, 5, 7 and 8).
use Rattle.std.specs.Prelude.{◌≡◌, ℕ, ◌<◌, ◌==◌, if◌then◌else◌, List, [], ◌∷◌, All, Option, Some, None}
use Rattle.gtp_values.specs.declared.address.Endpoint.{Endpoint}
use Rattle.gtp_v2.specs.EchoRequest.{echo_request}
use Rattle.gtp_v2.specs.EchoResponse.{echo_response}
use Rattle.gtp_v2.specs.CreateSessionRequest.{create_session_request}
use Rattle.gtp_v2.specs.CreateSessionResponse.{create_session_response}
use Rattle.gtp_v2.specs.DeleteSessionRequest.{delete_session_request}
use Rattle.gtp_v2.specs.DeleteSessionResponse.{delete_session_response}
use Rattle.gtp_v2.specs.CreateBearerRequest.{create_bearer_request}
use Rattle.gtp_v2.specs.CreateBearerResponse.{create_bearer_response}
use Rattle.gtp_v2.specs.DeleteBearerRequest.{delete_bearer_request}
use Rattle.gtp_v2.specs.DeleteBearerResponse.{delete_bearer_response}
use Rattle.gtp_v2.specs.VersionNotSupported.{version_not_supported}
use Rattle.gtp_v2.specs.Message.{Content, Fields, Raw, MessageValue}
use Rattle.gtp_v2.specs.Encoding.{canonical_encoding, Meets}
use Rattle.gtp_v2.specs.Pair.{Announces, paired}
use Rattle.gtp_user.specs.Message as user_messages
use Rattle.gtp_user.specs.Encoding as user_encodings
use Rattle.gtp_machine.specs.Message.{Message, Echo_request}
use Rattle.gtp_machine.specs.Message.{Echo_response, Create_session_request, Create_session_response, Delete_session_request}
use Rattle.gtp_machine.specs.Message.{Delete_session_response, Create_bearer_request, Create_bearer_response, Delete_bearer_request}
use Rattle.gtp_machine.specs.Message.{Delete_bearer_response, Other_control, Packet_data, End_marker, Error_indication, User_echo_request}
use Rattle.gtp_machine.specs.Message.{User_echo_response, Supported_extensions, Other_user, Plane, Control, User, plane_of}
pub use Rattle.gtp_machine.specs.messages.Rows.{where_there, typed}
pub use Rattle.gtp_machine.specs.messages.Echo.{echo_fields}
pub use Rattle.gtp_machine.specs.messages.CreateSessionRequest.{requested_rows, create_session_request_fields}
pub use Rattle.gtp_machine.specs.messages.CreateSessionResponse.{created_rows, create_session_response_fields}
pub use Rattle.gtp_machine.specs.messages.DeleteSessionRequest.{delete_session_request_fields}
pub use Rattle.gtp_machine.specs.messages.DeleteSessionResponse.{delete_session_response_fields}
pub use Rattle.gtp_machine.specs.messages.CreateBearerRequest.{wanted_rows, create_bearer_request_fields}
pub use Rattle.gtp_machine.specs.messages.CreateBearerResponse.{given_rows, create_bearer_response_fields}
pub use Rattle.gtp_machine.specs.messages.DeleteBearerRequest.{delete_bearer_request_fields}
pub use Rattle.gtp_machine.specs.messages.DeleteBearerResponse.{removed_rows, delete_bearer_response_fields}
use Rattle.gtp_machine.specs.Config.{Config, own_end}
use Rattle.gtp_machine.specs.Input.{Control_message, User_message, Sending}
use Rattle.gtp_machine.specs.Reading.{ControlReads, DatagramReads, Both, UserReads}

-- what a message of another type carries: a Version Not Supported Indication (7.1.3) no elements, and of all else nothing is known
abbrev pub other_content : ℕ → Content
other_content kind = if kind == version_not_supported.kind then Fields [] else Raw []

-- What a message of the control plane says, by the fields of its table (7.1, 7.2), which stand in its file in `messages`. Of a message of another
-- type nothing is known but its type.
abbrev pub control_value : Message → MessageValue
control_value (Echo_request e) = typed echo_request.kind None e.number (echo_fields e)
control_value (Echo_response e) = typed echo_response.kind None e.number (echo_fields e)
control_value (Create_session_request q) = typed create_session_request.kind (Some q.header) q.number (create_session_request_fields q)
control_value (Create_session_response a) = typed create_session_response.kind (Some a.header) a.number (create_session_response_fields a)
control_value (Delete_session_request d) = typed delete_session_request.kind (Some d.header) d.number (delete_session_request_fields d)
control_value (Delete_session_response d) = typed delete_session_response.kind (Some d.header) d.number (delete_session_response_fields d)
control_value (Create_bearer_request r) = typed create_bearer_request.kind (Some r.header) r.number (create_bearer_request_fields r)
control_value (Create_bearer_response x) = typed create_bearer_response.kind (Some x.header) x.number (create_bearer_response_fields x)
control_value (Delete_bearer_request d) = typed delete_bearer_request.kind (Some d.header) d.number (delete_bearer_request_fields d)
control_value (Delete_bearer_response d) = typed delete_bearer_response.kind (Some d.header) d.number (delete_bearer_response_fields d)
control_value (Other_control kind) = record { kind = kind; teid = None; seq = 0; priority = None; content = other_content kind }
control_value _ = record { kind = 0; teid = None; seq = 0; priority = None; content = Raw [] }

-- a message of the user plane with this sequence number, no N-PDU number and no extension headers
abbrev pub plain_user : Option ℕ → user_messages.Content → user_messages.MessageValue
plain_user number content = record { seq = number; npdu = None; ext = []; content = content }

-- What a message of the user plane says (TS 29.281, 7.2 and 7.3). Where the standard wants a sequence number that means nothing
-- it is 0. Of a message of another type nothing is known but its type.
abbrev pub user_value : Message → user_messages.MessageValue
user_value (Packet_data target payload) = plain_user None (user_messages.Packet target payload)
user_value (End_marker target) = plain_user None (user_messages.EndMarker target)
user_value (Error_indication target address) = plain_user (Some 0) (user_messages.ErrorIndication target address)
user_value (User_echo_request number) = plain_user (Some number) user_messages.EchoRequest
user_value (User_echo_response number) = plain_user (Some number) user_messages.EchoResponse
user_value (Supported_extensions types) = plain_user (Some 0) (user_messages.Notification types)
user_value (Other_user kind) = plain_user None (user_messages.Other kind 0 [])
user_value _ = plain_user None (user_messages.Other 0 0 [])

-- the octets of a message of this plane
abbrev pub spelled_on : Plane → Message → List ℕ
spelled_on Control m = canonical_encoding (control_value m)
spelled_on User m = user_encodings.encoding (user_value m)

-- The octets that a gateway sends for a message.
abbrev pub spelled : Message → List ℕ
spelled m = spelled_on (plane_of m) m

-- a datagram as it is sent: of which plane, from where and to where, and its octets
pub record Datagram : Type 0 where
  pub plane : Plane
  pub from : Endpoint
  pub to : Endpoint
  pub octets : List ℕ

-- the plane of a datagram of these messages: that of the first
abbrev pub datagram_plane : List Message → Plane
datagram_plane [] = Control
datagram_plane (first ∷ rest) = plane_of first

-- the octets of a datagram of these messages: of two the first announces the second (TS 29.274, 5.5.1)
abbrev pub spelled_all : List Message → List ℕ
spelled_all [] = []
spelled_all (message ∷ []) = spelled message
spelled_all (first ∷ second ∷ rest) = paired (spelled first) (spelled second)

-- the octets in which the first of two messages lies: it announces the other
abbrev pub announcing : Message → List ℕ
announcing first = paired (spelled first) []

-- the octets by which a request is known that comes in a datagram of these messages: those of the last by itself, in which nothing is announced
abbrev pub last_part : List Message → List ℕ
last_part [] = []
last_part (message ∷ []) = spelled message
last_part (first ∷ second ∷ rest) = spelled second

-- the datagram that a gateway with this configuration sends
abbrev pub datagram_of : Config → Sending → Datagram
datagram_of config s = record {
  plane = datagram_plane s.messages;
  from = own_end config (datagram_plane s.messages);
  to = s.destination;
  octets = spelled_all s.messages;
}

-- a kind that a gateway sends
abbrev pub IsOfOwnKind : Message → Type 0
IsOfOwnKind (Other_control kind) = kind ≡ version_not_supported.kind
IsOfOwnKind (Other_user kind) = ⊥
IsOfOwnKind m = Unit {0}

-- what it says has an encoding that reads again: ranges, the marks of its table, and its length
abbrev pub MeetsOn : Plane → Message → Type 0
MeetsOn Control m = Meets (control_value m)
MeetsOn User m = user_encodings.Meets (user_value m)

-- each number is one of an octet
pub record AreOctets (numbers : List ℕ) : Type 0 where
  pub each : All (λ octet. octet < 256) numbers

-- a message that a gateway can send
pub record IsSendable (m : Message) : Type 0 where
  pub own : IsOfOwnKind m
  pub meets : MeetsOn (plane_of m) m
  pub octets : AreOctets (spelled m)

-- the octets read as the message, on this plane
abbrev pub ReadsAs : Plane → List ℕ → Message → Type 0
ReadsAs Control octets m = ControlReads octets (Control_message m)
ReadsAs User octets m = UserReads octets (User_message m)

-- What a gateway sends for a message reads as that message.
abbrev pub SpelledReads : Type 0
SpelledReads = (m : Message) → IsSendable m → ReadsAs (plane_of m) (spelled m) m

-- What a gateway sends for two messages in one datagram reads as both: the first announces the second, and each lies there as it is spelled.
abbrev pub PairSpelledReads : Type 0
PairSpelledReads =
    (a b : Message) → IsSendable a → IsSendable b → plane_of a ≡ Control → plane_of b ≡ Control →
    Announces (spelled_all (a ∷ b ∷ [])) (spelled a) (spelled b) × DatagramReads (spelled_all (a ∷ b ∷ [])) (Both a b)

-- Messages that a gateway can send, with one encoding, are one.
abbrev pub SpelledApart : Type 0
SpelledApart = (m n : Message) → IsSendable m → IsSendable n → spelled m ≡ spelled n → m ≡ n
