-- What a message of the user plane says, without how it is kept.
use Rattle.std.specs.Prelude.{ℕ, List, Option, Some, None, unwrap_or}
use Rattle.gtp_values.specs.declared.address.Ip.{Ip}
use Rattle.gtp_user.specs.declared.message.UserBody.{UserBody}
use Rattle.gtp_user.specs.declared.message.UserBody.TheVariants as bodies
use Rattle.gtp_user.specs.declared.message.UserMessage.{UserMessage}
use Rattle.gtp_user.specs.Chain.{Extension}

-- what it carries: a TEID stands before the rest
pub data Content : Type 0 where
  EchoRequest : Content
  EchoResponse : Content
  ErrorIndication : ℕ → Ip → Content
  Notification : List ℕ → Content
  EndMarker : ℕ → Content
  Packet : ℕ → List ℕ → Content
  Other : ℕ → ℕ → List ℕ → Content

-- sequence number, N-PDU number, extension headers in order, and what it carries
pub record MessageValue : Type 0 where
  pub seq : Option ℕ
  pub npdu : Option ℕ
  pub ext : List Extension
  pub content : Content

abbrev pub content_of : UserBody → Content
content_of bodies.EchoRequest = EchoRequest
content_of bodies.EchoResponse = EchoResponse
content_of (bodies.ErrorIndication peer teid) = ErrorIndication teid peer
content_of (bodies.Notification types) = Notification types.now
content_of (bodies.EndMarker teid) = EndMarker teid
content_of (bodies.Packet teid payload) = Packet teid payload.now
content_of (bodies.Other kind teid octets) = Other kind teid octets.now

abbrev pub message_value : UserMessage → MessageValue
message_value m = record { seq = m.seq; npdu = m.npdu; ext = m.ext; content = content_of m.body }

-- a message of these parts, which are all that it has
abbrev pub of_parts : Option ℕ → Option ℕ → List Extension → UserBody → UserMessage
of_parts seq npdu ext body = record { seq = seq; npdu = npdu; ext = ext; body = body }

-- the sequence number of a message whose header has this one: an echo, an Error Indication and a notification always have one, 0 where their flag S is not set
abbrev pub numbered : Content → Option ℕ → Option ℕ
numbered EchoRequest seq = Some (unwrap_or seq 0)
numbered EchoResponse seq = Some (unwrap_or seq 0)
numbered (ErrorIndication teid peer) seq = Some (unwrap_or seq 0)
numbered (Notification types) seq = Some (unwrap_or seq 0)
numbered (EndMarker teid) seq = seq
numbered (Packet teid payload) seq = seq
numbered (Other kind teid octets) seq = seq

-- the receiver's TEID, which the messages that always have a sequence number do not have (TS 29.281 5.1)
abbrev pub receiver_in : Content → Option ℕ
receiver_in (EndMarker teid) = Some teid
receiver_in (Packet teid payload) = Some teid
receiver_in (Other kind teid octets) = Some teid
receiver_in content = None

-- the TEID and the octets of a user's packet
abbrev pub packet_in : Content → Option (ℕ × List ℕ)
packet_in (Packet teid payload) = Some (teid, payload)
packet_in content = None
