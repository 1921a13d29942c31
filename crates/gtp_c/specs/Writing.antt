-- What is written to a caller's buffer.
use Rattle.std.specs.Prelude.{◌≡◌, ◌≢◌, ◌⊎◌, ◌↔◌, ℕ, ◌+◌, ◌<◌, ◌≤◌, ◌==◌, List, [], ◌∷◌, ◌++◌, if◌then◌else◌, length, take, drop, Option, Some, None}
use Rattle.gtp_user.specs.Flags.{version_1, protocol_type}
use Rattle.gtp_v2.specs.Encoding.{headed_encoding}
use Rattle.gtp_v2.specs.Flags.{version_2}
use Rattle.gtp_values.specs.Numbers.{two, three, four}
use Rattle.gtp_c.specs.Common.{IsOneOf}
use Rattle.gtp_c.specs.declared.control.Head.{Head}

-- the text stands at a place of the buffer, with all before and behind it as it was
abbrev pub StandsAt : ℕ → List ℕ → List ℕ → List ℕ → Type 0
StandsAt place text old new = new ≡ take place old ++ (text ++ drop (place + length text) old)

-- The text is to be written at a place of the buffer, by values that may be bad: 0 where it stands there, 5 where there is less room behind the place, and then the
-- size is that of the text; 1 exactly for a bad value, and then the size is as it was; and no other status. After any but 0 the buffer is as it was.
pub record IsWritten (Bad : Type 0) (place : ℕ) (text old new : List ℕ) (before size status : ℕ) : Type 0 where
  pub written : status ≡ 0 → StandsAt place text old new
  pub small : status ≡ 5 → length old < place + length text
  pub kept : status ≢ 0 → new ≡ old
  pub told : status ≢ 1 → size ≡ length text
  pub untold : status ≡ 1 → size ≡ before
  pub bad : (status ≡ 1) ↔ Bad
  pub known : IsOneOf (0 ∷ 1 ∷ 5 ∷ []) status

-- A text for which memory is taken is to be written at the front of a buffer, by values that may be bad: 0 where it stands there; 5 where there is less room; 1 exactly
-- for a bad value; 2 where there was no memory; and no other status. After any but 0 the buffer is as it was; after 0 and 5 the size is that of the text, and else as
-- it was.
pub record IsTextWritten (Bad : Type 0) (text old new : List ℕ) (before size status : ℕ) : Type 0 where
  pub written : status ≡ 0 → StandsAt 0 text old new
  pub small : status ≡ 5 → length old < length text
  pub kept : status ≢ 0 → new ≡ old
  pub told : IsOneOf (0 ∷ 5 ∷ []) status → size ≡ length text
  pub untold : status ≢ 0 → status ≢ 5 → size ≡ before
  pub bad : (status ≡ 1) ↔ Bad
  pub known : IsOneOf (0 ∷ 1 ∷ 2 ∷ 5 ∷ []) status

-- a text is to be written at the front of a buffer, where there is one: 4 where there is none, and then all is as it was
abbrev pub IsSomeWritten : Option (List ℕ) → List ℕ → List ℕ → ℕ → ℕ → ℕ → Type 0
IsSomeWritten None old new before size status = (status ≡ 4) × (new ≡ old) × (size ≡ before)
IsSomeWritten (Some text) old new before size status = IsWritten ⊥ 0 text old new before size status

-- 0.1.0
abbrev pub version : List ℕ
version = 48 ∷ 46 ∷ 49 ∷ 46 ∷ 48 ∷ []

-- a G-PDU with this TEID and packet, without options (TS 29.281 5.1): version 1, protocol type GTP, type 255, the length of what follows the first eight octets
abbrev pub packet_encoding : ℕ → List ℕ → List ℕ
packet_encoding teid packet = (version_1 + protocol_type) ∷ 255 ∷ two (length packet) (four teid packet)

-- a value where C says that there is one
abbrev pub some_where : ℕ → ℕ → Option ℕ
some_where has value = if has == 0 then None else Some value

-- the message of C's head that carries these octets
abbrev pub message_encoding : Head → List ℕ → List ℕ
message_encoding head list = headed_encoding head.kind (some_where head.has_teid head.teid) head.seq (some_where head.has_priority head.priority) list

-- the header of a message without a TEID, with so many octets after it
abbrev pub headed_plain : ℕ → ℕ → ℕ → List ℕ
headed_plain kind seq len = version_2 ∷ kind ∷ two (4 + len) (three seq (0 ∷ []))

-- the header of a message with this first octet, a TEID and a last octet, with so many octets after it
abbrev pub headed_by_teid : ℕ → ℕ → ℕ → ℕ → ℕ → ℕ → List ℕ
headed_by_teid first kind teid seq last len = first ∷ kind ∷ two (8 + len) (four teid (three seq (last ∷ [])))

-- a sequence number, a priority or a length that is out of its range, or a priority without a TEID
abbrev pub IsBadMessage : Head → List ℕ → Type 0
IsBadMessage head list = (16777216 ≤ head.seq) ⊎ ((15 < head.priority) ⊎ (((head.has_priority ≢ 0) × (head.has_teid ≡ 0)) ⊎ (65527 < length list)))
