-- Messages of the user plane that are written to a caller's buffer.
use Rattle.std.specs.Prelude.{◌≡◌, ◌≢◌, ◌↔◌, ℕ, ◌+◌, ◌<◌, ◌≤◌, ◌==◌, List, [], ◌∷◌, if◌then◌else◌, length, Option, Some, None, option_map, IsSomeAnd}
use Rattle.gtp_user.specs.declared.kinds.TheConstants.{ECHO_REQUEST, ECHO_RESPONSE, ERROR_INDICATION, SUPPORTED_EXTENSION_HEADERS_NOTIFICATION, END_MARKER, G_PDU}
use Rattle.gtp_user.specs.Encoding.{encoding, IsEncodable}
use Rattle.gtp_user.specs.Message as user
use Rattle.gtp_c.specs.Common.{IsOneOf}
use Rattle.gtp_c.specs.Ends.{ip_at}
use Rattle.gtp_c.specs.Writing.{StandsAt}
use Rattle.gtp_c.specs.declared.user.UserHead.{UserHead}

-- a value where C says that there is one
abbrev pub where_told : ℕ → ℕ → Option ℕ
where_told has value = if has == 0 then None else Some value

-- what a message of a type without an address carries, by its type
abbrev pub plain_content : ℕ → ℕ → List ℕ → user.Content
plain_content kind teid octets =
    if kind == ECHO_REQUEST then user.EchoRequest
    else (if kind == ECHO_RESPONSE then user.EchoResponse
    else (if kind == SUPPORTED_EXTENSION_HEADERS_NOTIFICATION then user.Notification octets
    else (if kind == END_MARKER then user.EndMarker teid
    else (if kind == G_PDU then user.Packet teid octets else user.Other kind teid octets))))

-- what the message of C's head carries, with these octets: an Error Indication has an address
abbrev pub content_asked : UserHead → List ℕ → Option user.Content
content_asked head octets = if head.kind == ERROR_INDICATION then option_map (user.ErrorIndication head.teid) (ip_at head.peer) else Some (plain_content head.kind head.teid octets)

-- the message without extension headers that carries this
abbrev pub message_with : UserHead → user.Content → user.MessageValue
message_with head content = record { seq = where_told head.has_seq head.seq; npdu = where_told head.has_npdu head.npdu; ext = []; content = content }

abbrev pub message_asked : UserHead → List ℕ → Option user.MessageValue
message_asked head octets = option_map (message_with head) (content_asked head octets)

-- the message has an encoding, whose length two octets can state
pub record CanBeWritten (m : user.MessageValue) : Type 0 where
  pub encodable : IsEncodable m
  pub short : length (encoding m) ≤ 65535 + 8

-- the encoding of the message stands at the beginning of the buffer
pub record IsEncodingOf (old new : List ℕ) (size : ℕ) (m : user.MessageValue) : Type 0 where
  pub written : StandsAt 0 (encoding m) old new
  pub told : size ≡ length (encoding m)

-- the message has more octets than there is room for
pub record IsTooLong (old : List ℕ) (size : ℕ) (m : user.MessageValue) : Type 0 where
  pub small : length old < length (encoding m)
  pub told : size ≡ length (encoding m)

-- The message of C's head is to be written: 0 where it stands in the buffer; 5 where there is less room; 1 exactly where there is no such message, or it cannot be
-- written; 2 where there was no memory; and no other status. After any but 0 the buffer is as it was, after any but 0 and 5 the size.
pub record IsUserWritten (head : UserHead) (octets old new : List ℕ) (before size status : ℕ) : Type 0 where
  pub written : status ≡ 0 → IsSomeAnd (message_asked head octets) (IsEncodingOf old new size)
  pub small : status ≡ 5 → IsSomeAnd (message_asked head octets) (IsTooLong old size)
  pub kept : status ≢ 0 → new ≡ old
  pub untold : status ≢ 0 → status ≢ 5 → size ≡ before
  pub bad : (status ≡ 1) ↔ ¬ IsSomeAnd (message_asked head octets) CanBeWritten
  pub known : IsOneOf (0 ∷ 1 ∷ 2 ∷ 5 ∷ []) status
