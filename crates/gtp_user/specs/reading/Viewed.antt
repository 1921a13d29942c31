-- Reading functions, for the model of a view's private fields, private contracts and proofs: the message that a view stands for.
use Rattle.std.specs.Prelude.{◌≡◌, ℕ, ◌<◌, ◌≤◌, ◌+◌, ◌-◌, ◌*◌, ◌/◌, ◌%◌, List, [], ◌∷◌, length, drop, slice_index, Bool, ◌||◌, ◌==◌, None, Result, Ok, Err}
use Rattle.std.specs.Int.{w32, from_be_bytes}
use Rattle.gtp_user.specs.declared.fault.UserFault.{UserFault}
use Rattle.gtp_values.specs.Steps.{◌>>=◌}
use Rattle.gtp_user.specs.reading.Headed.{header_at}
use Rattle.gtp_user.specs.reading.Walk.{chain_at}
use Rattle.gtp_user.specs.Message.{MessageValue, EchoRequest}
use Rattle.gtp_user.specs.reading.Message.{body_at, message_at}

-- the octets after header and chain of a datagram that spells a message
unfoldable pub tail_at : List ℕ → Result (List ℕ) UserFault
tail_at octets = do
  h ← header_at octets
  c ← chain_at (length octets) h.first h.rest
  content ← body_at (length octets) h.kind h.teid c.rest
  Ok c.rest

-- the message, where there is one
abbrev pub message_or_none : Result MessageValue UserFault → MessageValue
message_or_none (Ok m) = m
message_or_none (Err f) = record { seq = None; npdu = None; ext = []; content = EchoRequest }

abbrev pub viewed : List ℕ → MessageValue
viewed octets = message_or_none (message_at octets)

-- the octets spell a message, and what comes after its header and chain begins at this place
pub record IsViewed (octets : List ℕ) (start : ℕ) : Type 0 where
  pub least : 8 ≤ start
  pub flagged : 0 < slice_index octets 0 % 8 → 12 ≤ start
  pub within : start ≤ length octets
  pub tail : tail_at octets ≡ Ok (drop start octets)

-- the types of the messages that always have a sequence number
abbrev pub is_numbered : ℕ → Bool
is_numbered kind = kind == 1 || (kind == 2 || (kind == 26 || kind == 31))

-- the TEID of a header
abbrev pub teid_at : List ℕ → ℕ
teid_at octets = from_be_bytes w32 (slice_index octets 4 ∷ slice_index octets 5 ∷ slice_index octets 6 ∷ slice_index octets 7 ∷ [])

-- the first eight octets are those of a G-PDU, and their length is that of the octets after them
pub record OpensPacket (octets : List ℕ) : Type 0 where
  pub long : 8 ≤ length octets
  pub version : slice_index octets 0 / 16 ≡ 3
  pub kind : slice_index octets 1 ≡ 255
  pub size : slice_index octets 2 * 256 + slice_index octets 3 ≡ length octets - 8
