-- Reading functions, for private contracts and proofs: the message that a datagram spells, or its first fault.
-- `gtp_machine` cites `message_at` in its `user_reading`, and has a law that this is the grammar's answer (`UserByGrammar`).
use Rattle.std.specs.Prelude.{ℕ, List, length, Option, Some, None, Result, Ok, Err, ◌==◌, if◌then◌else◌}
use Rattle.gtp_user.specs.declared.fault.UserFault.{UserFault}
use Rattle.gtp_user.specs.declared.fault.UserFault.TheVariants as faults
use Rattle.gtp_values.specs.Steps.{◌>>=◌}
use Rattle.gtp_user.specs.reading.Walk.{Chained, chain_at, chain_by, tail_by}
use Rattle.gtp_user.specs.Headed.{Headed}
use Rattle.gtp_user.specs.reading.Headed.{header_at}
use Rattle.gtp_user.specs.reading.Elements.{Found}
use Rattle.gtp_user.specs.reading.Gathered.{found_at}
use Rattle.gtp_user.specs.Message.{Content, EchoRequest, EchoResponse, ErrorIndication, Notification, EndMarker, Packet, Other, MessageValue, numbered}

-- an element that the message must have
abbrev pub needed : {X : Type 0} → ℕ → Option X → Result X UserFault
needed kind (Some x) = Ok x
needed kind None = Err (faults.Missing kind)

abbrev pub echo_response : Found → Result Content UserFault
echo_response f = if f.recovery then Ok EchoResponse else Err (faults.Missing 14)

abbrev pub error_indication : Found → Result Content UserFault
error_indication f = needed 16 f.teid >>= λ teid. needed 133 f.peer >>= λ peer. Ok (ErrorIndication teid peer)

abbrev pub notification : Found → Result Content UserFault
notification f = needed 141 f.types >>= λ types. Ok (Notification types)

-- what the octets after the chain say, by the type of the message
unfoldable pub body_at : ℕ → ℕ → ℕ → List ℕ → Result Content UserFault
body_at end kind teid octets =
    if kind == 1 then Ok EchoRequest
    else (if kind == 2 then (found_at end octets >>= λ f. echo_response f)
    else (if kind == 26 then (found_at end octets >>= λ f. error_indication f)
    else (if kind == 31 then (found_at end octets >>= λ f. notification f)
    else (if kind == 254 then Ok (EndMarker teid)
    else (if kind == 255 then Ok (Packet teid octets)
    else Ok (Other kind teid octets))))))

abbrev pub message_of : Headed → Chained → Content → MessageValue
message_of h c content = record { seq = numbered content h.seq; npdu = h.npdu; ext = c.headers; content = content }

-- the message that a datagram spells
unfoldable pub message_at : List ℕ → Result MessageValue UserFault
message_at octets = do
  h ← header_at octets
  c ← chain_at (length octets) h.first h.rest
  content ← body_at (length octets) h.kind h.teid c.rest
  Ok (message_of h c content)

-- ---- where further types of extension headers are understood

-- the message that a datagram spells
unfoldable pub message_with : List ℕ → List ℕ → Result MessageValue UserFault
message_with understood octets = do
  h ← header_at octets
  c ← chain_by understood (length octets) h.first h.rest
  content ← body_at (length octets) h.kind h.teid c.rest
  Ok (message_of h c content)

-- that it spells one
unfoldable pub judged : List ℕ → List ℕ → Result (Unit {0}) UserFault
judged understood octets = do
  h ← header_at octets
  tail ← tail_by understood (length octets) h.first h.rest
  content ← body_at (length octets) h.kind h.teid tail
  Ok tt
