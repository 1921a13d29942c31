-- Messages kept as the octets that were sent for them.
use Rattle.std.specs.Prelude.{◌≡◌, ◌==◌, ◌&&◌, not, ℕ, Bool, true, false, List, [], ◌∷◌, length, All, is_some}
use Rattle.std.specs.Bool.{beq}
use Rattle.gtp_values.specs.declared.address.Ip.{Ip}
use Rattle.gtp_reliable.specs.Waiting.{Waiting}
use Rattle.gtp_reliable.specs.Held.{HeldPair}
use Rattle.gtp_v2.specs.Pair.{paired}
use Rattle.gtp_machine.specs.Config.{control_end}
use Rattle.gtp_machine.specs.Message.{Message, Other_control, Echo_request, Create_session_request, Delete_session_request, Create_bearer_request, Delete_bearer_request}
use Rattle.gtp_machine.specs.Input.{ControlReading, Control_message, Faulty, Control_fault}
use Rattle.gtp_machine.specs.Reading.{announces, control_reading, ControlReads, DatagramReading, Alone, Both, datagram_reading, DatagramReads, reading_of}
use Rattle.gtp_machine.specs.Removal.{on}
use Rattle.gtp_machine.specs.Spelling.{spelled, spelled_all}
use Rattle.gtp_gateway.specs.receive.TwoMessages.{first_length}
use Rattle.gtp_gateway.specs.declared.command.purpose.Purpose.{Purpose}
use Rattle.gtp_gateway.specs.declared.command.purpose.Asked.{Asked}
use Rattle.gtp_gateway.specs.declared.command.purpose.Asked.TheVariants.{Echo, CreateSession, DeleteSession, CreateBearer, DeleteBearer}
use Rattle.gtp_gateway.specs.command.Purpose.{session_of, bearer_of}

-- the message that was read; where there is none, one of a type that is none
abbrev pub message_read : ControlReading → Message
message_read (Control_message m) = m
message_read (Faulty f) = Other_control 0
message_read (Control_fault fault) = Other_control 0

-- the message that octets of the control plane read as
unfoldable pub message_in : List ℕ → Message
message_in octets = message_read (control_reading octets)

-- the messages of a datagram that was read: one, or two
abbrev pub those_read : DatagramReading → List Message
those_read (Alone reading) = message_read reading ∷ []
those_read (Both first second) = first ∷ second ∷ []

-- the messages that the octets of a datagram of the control plane read as
unfoldable pub messages_in : List ℕ → List Message
messages_in octets = those_read (datagram_reading octets)

-- the octets read as a message, and are those that a gateway sends for it
pub record AreSpelled (octets : List ℕ) : Type 0 where
  pub is : octets ≡ spelled (message_in octets)
  pub read : ControlReads octets (Control_message (message_in octets))

-- where the first of two messages ends in their datagram, as its header states, and how long it is by itself
abbrev pub stated_end : List Message → ℕ
stated_end (first ∷ second ∷ rest) = first_length (paired (spelled first) (spelled second))
stated_end datagram = 0

abbrev pub own_length : List Message → ℕ
own_length (first ∷ second ∷ rest) = length (spelled first)
own_length datagram = 0

-- in a datagram of two messages each lies as it is spelled (5.5.1): the first ends where its header states
abbrev pub LieApart : List Message → Type 0
LieApart datagram = stated_end datagram ≡ own_length datagram

-- the octets read as a datagram of one message or two, and are those that a gateway sends for it
pub record AreSpelledAll (octets : List ℕ) : Type 0 where
  pub is : octets ≡ spelled_all (messages_in octets)
  pub read : DatagramReads octets (reading_of (messages_in octets))
  pub apart : LieApart (messages_in octets)

-- whether a request asks for this and is about what the purpose says; a purpose tells whether a TEID stood in the header, and in that
-- of a Create Session Request none did
abbrev pub is_asked : Asked → Purpose → Message → Bool
is_asked Echo purpose (Echo_request q) = true
is_asked (CreateSession default) purpose (Create_session_request q) =
    on (λ t. q.control.teid == t) (session_of purpose) && ((q.context.user.teid == default) && ((q.header == 0) && not (is_some purpose.bearer)))
is_asked DeleteSession purpose (Delete_session_request d) = beq purpose.is_named (not (d.header == 0))
is_asked CreateBearer purpose (Create_bearer_request r) =
    on (λ t. r.context.user.teid == t) (bearer_of purpose) && beq purpose.is_named (not (r.header == 0))
is_asked DeleteBearer purpose (Delete_bearer_request d) = beq purpose.is_named (not (d.header == 0))
is_asked asked purpose m = false

-- the request is one that is sent for the purpose
abbrev pub is_for : Purpose → Message → Bool
is_for purpose m = is_asked purpose.asked purpose m

-- a request that waits went to the peer, as it is spelled, for its purpose
pub record IsAsked (peer : Ip) (w : Waiting Purpose) : Type 0 where
  pub to : w.to ≡ control_end peer
  pub octets : AreSpelled w.octets
  pub purpose : is_for w.purpose (message_in w.octets) ≡ true

-- each request that waits
abbrev pub AreAsked : Ip → List (Waiting Purpose) → Type 0
AreAsked peer waiting = All (IsAsked peer) waiting

-- an answer that is held is kept as it is spelled, as one datagram, with the octets of a request that announces no second message
pub record IsKept (p : HeldPair) : Type 0 where
  pub answer : AreSpelledAll p.answer
  pub alone : announces p.request ≡ false

-- each answer that is held
abbrev pub AreAnswered : List HeldPair → Type 0
AreAnswered pairs = All IsKept pairs
