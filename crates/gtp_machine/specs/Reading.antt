-- How datagrams read: what the decoders of the two planes tell, as the machine sees it.
use Rattle.std.specs.Prelude.{◌≡◌, ◌⊎◌, ◌↔◌, ℕ, ◌-◌, ◌<◌, ◌/◌, ◌==◌, nat_lt, Bool, true, false, List, [], ◌∷◌, length, take, Option, Some}
use Rattle.std.specs.Prelude.{None, unwrap_or, Result, Ok, Err, if◌then◌else◌}
use Rattle.gtp_values.specs.declared.identifiers.Teid.{Teid}
use Rattle.gtp_ie.specs.declared.fault.IeFault.{IeFault}
use Rattle.gtp_ie.specs.declared.fault.IeFault.TheVariants as elements
use Rattle.gtp_v2.specs.declared.message.Message as decoded
use Rattle.gtp_v2.specs.declared.body.Body.TheVariants as bodies
use Rattle.gtp_v2.specs.declared.body.create_session_request.CreateSessionRequest as create_session_requests
use Rattle.gtp_v2.specs.declared.body.create_bearer_request.CreateBearerRequest as create_bearer_requests
use Rattle.gtp_v2.specs.declared.body.delete_bearer_response.RemovalResponseContext.{RemovalResponseContext}
use Rattle.gtp_v2.specs.Codes.{number_of, short_number, length_number, element_number}
use Rattle.gtp_v2.specs.declared.fault.Head.{Head}
use Rattle.gtp_v2.specs.declared.fault.V2Fault.{V2Fault}
use Rattle.gtp_v2.specs.declared.fault.V2Fault.TheVariants as faults
use Rattle.gtp_v2.specs.Body.{message_value}
use Rattle.gtp_v2.specs.Message.{MessageValue}
use Rattle.gtp_v2.specs.reading.Message.{message_at}
use Rattle.gtp_v2.specs.Datagram.{IsMessage, IsFault}
use Rattle.gtp_v2.specs.Pair.{DatagramValue, Announces, IsDatagram, IsDatagramFault}
use Rattle.gtp_v2.specs.reading.Pair.{datagram_at}
use Rattle.gtp_user.specs.declared.message.UserBody.{UserBody}
use Rattle.gtp_user.specs.declared.message.UserBody.TheVariants as user_bodies
use Rattle.gtp_user.specs.declared.message.UserMessage.{UserMessage}
use Rattle.gtp_user.specs.Codes as user_codes
use Rattle.gtp_user.specs.declared.fault.UserFault.{UserFault}
use Rattle.gtp_user.specs.declared.fault.UserFault.TheVariants as user_faults
use Rattle.gtp_user.specs.Message as user_messages
use Rattle.gtp_user.specs.reading.Message as user_octets
use Rattle.gtp_user.specs.Datagram.{IsUserMessage, IsUserFault}
use Rattle.gtp_machine.specs.Message.{CreateSessionRequest, CreateBearerRequest, RemovedBearer, Message, Other_control}
use Rattle.gtp_machine.specs.Message.{Create_session_request, Create_bearer_request, Packet_data, End_marker, Error_indication}
use Rattle.gtp_machine.specs.Message.{User_echo_request, User_echo_response, Supported_extensions, Other_user}
use Rattle.gtp_machine.specs.Input.{MessageType, Defect, Mandatory_missing, Conditional_missing, Too_short, Out_of_range, ControlReading}
use Rattle.gtp_machine.specs.Input.{Control_message, Faulty, Control_fault, UserReading, User_message, Extension_needed, User_fault}
use Rattle.gtp_machine.specs.MessageType.{type_at, request_only}
use Rattle.gtp_machine.specs.Node.{written}
use Rattle.gtp_machine.specs.Decoded.{message_of}
use Rattle.gtp_machine.specs.Answer.{fault_number}

-- the TEID of a header (5.1), 0 where it has none
abbrev pub header_in : Option Teid → ℕ
header_in teid = written teid

-- a bearer context of a Delete Bearer Response (7.2.10.2, table 7.2.10.2-2)
abbrev pub removed_bearer : RemovalResponseContext → RemovedBearer
removed_bearer c = record { identity = c.ebi.0; cause = c.cause }

-- a control message of the code (5.1), as one of the machine
abbrev pub control_message : decoded.Message → Message
control_message m = message_of (message_value m)

-- the type (6.1) of a request whose faults are answered
abbrev pub request_type : ℕ → Option MessageType
request_type kind = request_only (type_at kind)

-- an element at fault (7.7): of a request that is answered, or of another message
abbrev pub defect_in : Option MessageType → Head → Defect → ℕ → ℕ → ControlReading
defect_in None head defect element instance = Control_fault (fault_number defect)
defect_in (Some kind) head defect element instance = Faulty (record {
  kind = kind;
  header = header_in head.teid;
  number = head.seq;
  defect = defect;
  element = element;
  instance = instance;
  sender = head.sender;
})

-- an element that is missing (7.7.6)
abbrev pub missing_in : Bool → Defect
missing_in true = Conditional_missing
missing_in false = Mandatory_missing

-- an element that has no value (7.7.7, 7.7.8): too short, or out of its range; one that runs past the end of its list is answered by none
abbrev pub element_fault : Head → IeFault → ControlReading
element_fault head (elements.Truncated at) = Control_fault element_number
element_fault head (elements.ShortValue kind instance at) = defect_in (request_type head.kind) head Too_short kind instance
element_fault head (elements.BadValue kind instance at) = defect_in (request_type head.kind) head Out_of_range kind instance
element_fault head elements.Memory = Control_fault element_number
element_fault head elements.TooLong = Control_fault element_number

-- a control datagram at fault: by an element (7.7.6 to 7.7.8), or by the fault's printed number, H1 to H9 (7.7.2, 7.7.3)
abbrev pub control_fault : V2Fault → ControlReading
control_fault (faults.Missing kind instance conditional group head) = defect_in (request_type head.kind) head (missing_in conditional) kind instance
control_fault (faults.Element fault head) = element_fault head fault
control_fault fault = Control_fault (number_of fault)

-- what the outcome of reading says: a message, or the first fault
abbrev pub control_reading_of : Result MessageValue V2Fault → ControlReading
control_reading_of (Ok m) = Control_message (message_of m)
control_reading_of (Err fault) = control_fault fault

-- How the octets of a control datagram (5 to 8) read: as the message that they spell, or as their first fault.
abbrev pub control_reading : List ℕ → ControlReading
control_reading octets = control_reading_of (message_at octets)

-- The octets of a control datagram read so.
abbrev pub ControlReads : List ℕ → ControlReading → Type 0
ControlReads octets reading = reading ≡ control_reading octets

-- how a datagram of one or two messages reads (5.5.1)
pub data DatagramReading : Type 0 where
  Alone : ControlReading → DatagramReading
  Both : Message → Message → DatagramReading

-- a message announces a second one: by the first of at least four octets, in which the version is 2 and P is set
abbrev pub announces : List ℕ → Bool
announces (first ∷ kind ∷ high ∷ low ∷ held) = first / 16 == 5
announces octets = false

-- a message and perhaps a second one, as they read
abbrev pub messages_read : MessageValue → Option MessageValue → DatagramReading
messages_read first None = Alone (Control_message (message_of first))
messages_read first (Some second) = Both (message_of first) (message_of second)

-- how the first fault of a datagram reads: where a second message is announced, no fault is answered
abbrev pub datagram_fault : Bool → V2Fault → ControlReading
datagram_fault true fault = Control_fault (number_of fault)
datagram_fault false fault = control_fault fault

-- what the outcome of reading says where a second message is announced
abbrev pub pair_reading_of : Result DatagramValue V2Fault → DatagramReading
pair_reading_of (Ok d) = messages_read d.first d.second
pair_reading_of (Err fault) = Alone (datagram_fault true fault)

-- How the octets of a control datagram read, whether they hold one message or two.
abbrev pub datagram_reading : List ℕ → DatagramReading
datagram_reading octets = if announces octets then pair_reading_of (datagram_at octets) else Alone (control_reading octets)

-- The octets of a control datagram, of one message or two, read so.
abbrev pub DatagramReads : List ℕ → DatagramReading → Type 0
DatagramReads octets reading = reading ≡ datagram_reading octets

-- What a gateway takes a datagram for: two messages as one of a type that no gateway takes, so that both are dropped before a counter is heard.
abbrev pub taken_as : DatagramReading → ControlReading
taken_as (Alone reading) = reading
taken_as (Both first second) = Control_message (Other_control 0)

-- how a datagram of these messages reads
abbrev pub reading_of : List Message → DatagramReading
reading_of [] = Alone (Control_fault short_number)
reading_of (message ∷ []) = Alone (Control_message message)
reading_of (first ∷ second ∷ rest) = Both first second

-- the fault of a control datagram of which only so many first octets come, by its printed number: H1, fewer than the first four of a header, or H3,
-- fewer than these state (5.5.1)
abbrev pub cut_fault : ℕ → ℕ
cut_fault count = if nat_lt count 4 then short_number else length_number

-- the same of a datagram of two messages, of which the first has so many octets: H1 and H3 as of the first alone; H5, as the
-- second that is announced is not there; then H1 and H3 as of the second
abbrev pub pair_cut_fault : ℕ → ℕ → ℕ
pair_cut_fault count front =
    if nat_lt count front then cut_fault count
    else (if count == front then number_of (faults.BadPiggyback front)
    else cut_fault (count - front))

-- what a user plane message carries, by its type (TS 29.281, 6.1); the sequence number counts in Echo messages alone
abbrev pub user_body_message : Option ℕ → UserBody → Message
user_body_message number user_bodies.EchoRequest = User_echo_request (unwrap_or number 0)
user_body_message number user_bodies.EchoResponse = User_echo_response (unwrap_or number 0)
user_body_message number (user_bodies.ErrorIndication peer teid) = Error_indication teid peer
user_body_message number (user_bodies.Notification types) = Supported_extensions types.now
user_body_message number (user_bodies.EndMarker teid) = End_marker teid
user_body_message number (user_bodies.Packet teid payload) = Packet_data teid payload.now
user_body_message number (user_bodies.Other kind teid octets) = Other_user kind

-- a user plane message (5.1); its N-PDU number and its extension headers are not looked at
abbrev pub user_message : UserMessage → Message
user_message m = user_body_message m.seq m.body

-- a user plane datagram at fault: an extension header that is needed and not known (5.2.1), or by the fault's printed number, U1 to U11
abbrev pub user_fault : UserFault → UserReading
user_fault (user_faults.ExtensionNeeded kind at) = Extension_needed
user_fault fault = User_fault (user_codes.number_of fault)

-- what a user plane message says, by its type (6.1)
abbrev pub user_content_message : Option ℕ → user_messages.Content → Message
user_content_message number user_messages.EchoRequest = User_echo_request (unwrap_or number 0)
user_content_message number user_messages.EchoResponse = User_echo_response (unwrap_or number 0)
user_content_message number (user_messages.ErrorIndication teid peer) = Error_indication teid peer
user_content_message number (user_messages.Notification types) = Supported_extensions types
user_content_message number (user_messages.EndMarker teid) = End_marker teid
user_content_message number (user_messages.Packet teid payload) = Packet_data teid payload
user_content_message number (user_messages.Other kind teid octets) = Other_user kind

-- what a message of the user plane says (5.1), as a message of the machine; its N-PDU number and its extension headers are not looked at
abbrev pub user_message_of : user_messages.MessageValue → Message
user_message_of m = user_content_message m.seq m.content

-- what the outcome of reading says: a message, or the first fault
abbrev pub user_reading_of : Result user_messages.MessageValue UserFault → UserReading
user_reading_of (Ok m) = User_message (user_message_of m)
user_reading_of (Err fault) = user_fault fault

-- How the octets of a user plane datagram (5, 7 and 8) read: as the message that they spell, or as their first fault.
abbrev pub user_reading : List ℕ → UserReading
user_reading octets = user_reading_of (user_octets.message_at octets)

-- The octets of a user plane datagram read so.
abbrev pub UserReads : List ℕ → UserReading → Type 0
UserReads octets reading = reading ≡ user_reading octets

-- the fault of a user plane datagram of which only so many first octets come, by its printed number: U1, fewer than the first
-- eight of a header, or U4, fewer than these state (5.1)
abbrev pub user_cut_fault : ℕ → ℕ
user_cut_fault count = if nat_lt count 8 then user_codes.short_number else user_codes.length_number

-- Each Create Session Request that is decoded has a bearer context, and reads as one, with what its fields say.
abbrev pub CreateSessionRequestReads : Type 0
CreateSessionRequestReads =
    (octets : List ℕ) (m : decoded.Message) (q : create_session_requests.CreateSessionRequest) → IsMessage octets (message_value m) →
    m.body ≡ bodies.CreateSessionRequest q → (said : CreateSessionRequest) × (control_message m ≡ Create_session_request said)

-- Each Create Bearer Request that is decoded has a bearer context, and reads as one, with what its fields say.
abbrev pub CreateBearerRequestReads : Type 0
CreateBearerRequestReads =
    (octets : List ℕ) (m : decoded.Message) (q : create_bearer_requests.CreateBearerRequest) → IsMessage octets (message_value m) →
    m.body ≡ bodies.CreateBearerRequest q → (said : CreateBearerRequest) × (control_message m ≡ Create_bearer_request said)

-- What a decoded message of the user plane reads as is what it carries.
abbrev pub UserByName : Type 0
UserByName = (m : UserMessage) → user_message_of (user_messages.message_value m) ≡ user_message m

-- Octets that spell a decoded message of the control plane read as that message.
abbrev pub DecodedReads : Type 0
DecodedReads =
    (octets : List ℕ) (m : decoded.Message) → IsMessage octets (message_value m) →
    ControlReads octets (Control_message (control_message m))

-- Octets that spell a decoded message of the user plane read as that message.
abbrev pub UserDecodedReads : Type 0
UserDecodedReads =
    (octets : List ℕ) (m : UserMessage) → IsUserMessage octets (user_messages.message_value m) →
    UserReads octets (User_message (user_message m))

-- the octets spell a message that reads so, or their first fault reads so
abbrev pub IsReadOf : List ℕ → ControlReading → Type 0
IsReadOf octets reading =
    ((m : MessageValue) × IsMessage octets m × (reading ≡ Control_message (message_of m)))
    ⊎ ((fault : V2Fault) × IsFault octets fault × (reading ≡ control_fault fault))

-- Octets of the control plane read as the message that the grammar says they spell, or as the fault that it says is their first, and not otherwise.
abbrev pub ControlByGrammar : Type 0
ControlByGrammar = (octets : List ℕ) (reading : ControlReading) → ControlReads octets reading ↔ IsReadOf octets reading

-- the octets spell one or two messages that read so, or their first fault reads so
abbrev pub IsDatagramReadOf : List ℕ → DatagramReading → Type 0
IsDatagramReadOf octets reading =
    ((d : DatagramValue) × IsDatagram octets d × (reading ≡ messages_read d.first d.second))
    ⊎ ((fault : V2Fault) × IsDatagramFault octets fault × (reading ≡ Alone (datagram_fault (announces octets) fault)))

-- A control datagram reads as the one or two messages that the grammar says its octets spell, or as the fault that it says is
-- their first, and not otherwise.
abbrev pub DatagramByGrammar : Type 0
DatagramByGrammar = (octets : List ℕ) (reading : DatagramReading) → DatagramReads octets reading ↔ IsDatagramReadOf octets reading

-- the octets spell a message of the user plane that reads so, or their first fault reads so
abbrev pub IsUserReadOf : List ℕ → UserReading → Type 0
IsUserReadOf octets reading =
    ((m : user_messages.MessageValue) × IsUserMessage octets m × (reading ≡ User_message (user_message_of m)))
    ⊎ ((fault : UserFault) × IsUserFault octets fault × (reading ≡ user_fault fault))

-- Octets of the user plane read as the message that the grammar says they spell, or as the fault that it says is their first, and not otherwise.
abbrev pub UserByGrammar : Type 0
UserByGrammar = (octets : List ℕ) (reading : UserReading) → UserReads octets reading ↔ IsUserReadOf octets reading

-- The first octets of a control message, but not all, read as the fault of a cut.
abbrev pub CutsRead : Type 0
CutsRead =
    (octets : List ℕ) (m : MessageValue) (count : ℕ) → IsMessage octets m → count < length octets →
    ControlReads (take count octets) (Control_fault (cut_fault count))

-- Octets that read as a message by themselves read as a datagram of that one message.
abbrev pub MessageReadsAlone : Type 0
MessageReadsAlone = (octets : List ℕ) (m : Message) → ControlReads octets (Control_message m) → DatagramReads octets (Alone (Control_message m))

-- A datagram of one message that comes cut reads as the fault of a cut.
abbrev pub DatagramCutsRead : Type 0
DatagramCutsRead =
    (octets : List ℕ) (m : MessageValue) (count : ℕ) → IsMessage octets m → count < length octets →
    DatagramReads (take count octets) (Alone (Control_fault (cut_fault count)))

-- A datagram of two messages that comes cut reads as the fault of a cut of two.
abbrev pub PairCutsRead : Type 0
PairCutsRead =
    (octets front back : List ℕ) (a b : MessageValue) (count : ℕ) → Announces octets front back → IsMessage front a →
    IsMessage back b → count < length octets →
    DatagramReads (take count octets) (Alone (Control_fault (pair_cut_fault count (length front))))

-- The first octets of a user plane message, but not all, read as the fault of a cut.
abbrev pub UserCutsRead : Type 0
UserCutsRead =
    (octets : List ℕ) (m : user_messages.MessageValue) (count : ℕ) → IsUserMessage octets m → count < length octets →
    UserReads (take count octets) (User_fault (user_cut_fault count))
