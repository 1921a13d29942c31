-- What the gateways send each other: the messages of TS 29.274, clause 7, each of which has a file in `messages`, and of TS 29.281, clause 7.
-- Rows that no gateway looks at (QoS, AMBR, TFT, serving network, RAT type, selection mode) are carried as they are.
use Rattle.std.specs.Prelude.{◌≡◌, ◌⊎◌, ℕ, List, Option, Some, None}
use Rattle.gtp_values.specs.declared.address.Ip.{Ip}
pub use Rattle.gtp_values.specs.declared.plane.Plane.{Plane}
pub use Rattle.gtp_values.specs.declared.plane.Plane.TheVariants.{Control, User}
pub use Rattle.gtp_machine.specs.messages.Echo.{Echo}
pub use Rattle.gtp_machine.specs.messages.CreateSessionRequest.{RequestedBearer, CreateSessionRequest, subscriber_of}
pub use Rattle.gtp_machine.specs.messages.CreateSessionResponse.{CreatedBearer, CreateSessionResponse, first_created, created_identity}
pub use Rattle.gtp_machine.specs.messages.DeleteSessionRequest.{DeleteSessionRequest}
pub use Rattle.gtp_machine.specs.messages.DeleteSessionResponse.{DeleteSessionResponse}
pub use Rattle.gtp_machine.specs.messages.CreateBearerRequest.{WantedBearer, CreateBearerRequest}
pub use Rattle.gtp_machine.specs.messages.CreateBearerResponse.{GivenBearer, CreateBearerResponse, first_given, first_returned}
pub use Rattle.gtp_machine.specs.messages.CreateBearerResponse.{first_identity}
pub use Rattle.gtp_machine.specs.messages.DeleteBearerRequest.{DeleteBearerRequest}
pub use Rattle.gtp_machine.specs.messages.DeleteBearerResponse.{RemovedBearer, DeleteBearerResponse}
use Rattle.gtp_machine.specs.Element.{teid_in}

-- a message of the control plane, or of the user plane (TS 29.281, 7.2 and 7.3)
pub data Message : Type 0 where
  Echo_request : Echo → Message
  Echo_response : Echo → Message
  Create_session_request : CreateSessionRequest → Message
  Create_session_response : CreateSessionResponse → Message
  Delete_session_request : DeleteSessionRequest → Message
  Delete_session_response : DeleteSessionResponse → Message
  Create_bearer_request : CreateBearerRequest → Message
  Create_bearer_response : CreateBearerResponse → Message
  Delete_bearer_request : DeleteBearerRequest → Message
  Delete_bearer_response : DeleteBearerResponse → Message
  Other_control : ℕ → Message  -- a control message of another type
  Packet_data : ℕ → List ℕ → Message  -- a G-PDU: the TEID that it is for, and its payload
  End_marker : ℕ → Message  -- no more packets come for this TEID
  Error_indication : ℕ → Ip → Message  -- no bearer has this TEID at this address
  User_echo_request : ℕ → Message
  User_echo_response : ℕ → Message
  Supported_extensions : List ℕ → Message  -- the extension header types that are understood
  Other_user : ℕ → Message  -- a user message of another type

-- the plane that a message is of
abbrev pub plane_of : Message → Plane
plane_of (Packet_data target payload) = User
plane_of (End_marker target) = User
plane_of (Error_indication target address) = User
plane_of (User_echo_request number) = User
plane_of (User_echo_response number) = User
plane_of (Supported_extensions types) = User
plane_of (Other_user kind) = User
plane_of _ = Control

-- the TEID in the header of a message that carries one for a session
abbrev pub header_of : Message → ℕ
header_of (Create_session_request q) = q.header
header_of (Create_session_response a) = a.header
header_of (Delete_session_request d) = d.header
header_of (Delete_session_response d) = d.header
header_of (Create_bearer_request r) = r.header
header_of (Create_bearer_response x) = x.header
header_of (Delete_bearer_request d) = d.header
header_of (Delete_bearer_response d) = d.header
header_of _ = 0

-- the sender's restart counter, where the message has one (Recovery, 8.5)
abbrev pub recovery_of : Message → Option ℕ
recovery_of (Echo_request e) = Some e.recovery
recovery_of (Echo_response e) = Some e.recovery
recovery_of (Create_session_request q) = q.recovery
recovery_of (Create_session_response a) = a.recovery
recovery_of (Delete_session_response d) = d.recovery
recovery_of (Create_bearer_response x) = x.recovery
recovery_of (Delete_bearer_response d) = d.recovery
recovery_of _ = None

-- t stands in the message as a TEID that its sender drew for it
abbrev pub Owns : Message → ℕ → Type 0
Owns (Create_session_request q) t = (t ≡ q.control.teid) ⊎ (t ≡ q.context.user.teid)
Owns (Create_session_response a) t = (teid_in a.control ≡ Some t) ⊎ (first_created a.contexts ≡ Some t)
Owns (Create_bearer_request r) t = t ≡ r.context.user.teid
Owns (Create_bearer_response x) t = first_given x.contexts ≡ Some t
Owns _ t = ⊥
