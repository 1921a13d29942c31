-- Answers that a gateway gives (TS 29.274, 7.6 and 7.7), and the place where requests come in.
use Rattle.std.specs.Prelude.{◌≡◌, ◌⊎◌, ℕ, ◌/◌, ◌==◌, ◌&&◌, not, List, [], ◌∷◌, slice_get, Option, Some, None, Bool, true, false, if◌then◌else◌}
use Rattle.std.specs.Option.{option_map_or}
use Rattle.std.specs.FinMap.{get}
use Rattle.gtp_values.specs.declared.cause.Cause.{Cause}
use Rattle.gtp_values.specs.FiniteMap.{Among}
use Rattle.gtp_v2.specs.Codes.{missing_number, element_number}
use Rattle.gtp_v2.specs.VersionNotSupported.{version_not_supported}
use Rattle.gtp_machine.specs.declared.causes.TheConstants.{INVALID_LENGTH, MANDATORY_IE_INCORRECT, MANDATORY_IE_MISSING}
use Rattle.gtp_machine.specs.declared.causes.TheConstants.{CONDITIONAL_IE_MISSING}
use Rattle.gtp_machine.specs.declared.message_type.MessageType.TheVariants as types
use Rattle.gtp_machine.specs.Ordered.{Unless}
use Rattle.gtp_machine.specs.Config.{Config}
use Rattle.gtp_machine.specs.Element.{cause_at, teid_in}
use Rattle.gtp_machine.specs.Message.{Message, Control, Echo, Echo_response, Create_session_response, Delete_session_response}
use Rattle.gtp_machine.specs.Message.{Create_bearer_response, Delete_bearer_response, Other_control, recovery_of}
use Rattle.gtp_machine.specs.MessageType.{takes_message, answers_type}
use Rattle.gtp_machine.specs.Node.{Role, Pending, Active, Closing, State, Session, Arrival, Held, Node, holding, written}
use Rattle.gtp_machine.specs.Input.{Came_to, MessageType, Defect, Mandatory_missing, Conditional_missing, Too_short, Out_of_range}
use Rattle.gtp_machine.specs.Input.{FaultyRequest, Effect, Answered, Echoed, Repeated, says_all, says, dropped, Dropped, HeldFull, NotPeer, OtherVersion}
use Rattle.gtp_machine.specs.Input.{ControlReading, Control_message, Faulty, Control_fault, undecodable, Unexpected}
use Rattle.gtp_machine.specs.Choice.{HasHeldRoom}
use Rattle.gtp_machine.specs.Recovery.{Hears}

-- an answer goes to where the request came from, and is held
abbrev pub answered : Arrival → Message → ℕ → Node → Effect
answered request answer cause new = record {
  out = says request.source answer;
  outcome = Came_to (Answered cause);
  node = holding request (answer ∷ []) new;
}

-- the same of a datagram of these messages, where a context was made for the request
abbrev pub making : Arrival → List Message → ℕ → Node → Effect
making request answer cause new = record {
  out = record (says_all request.source answer) { made = request ∷ [] };
  outcome = Came_to (Answered cause);
  node = holding request answer new;
}

-- an Echo Request is answered with the own counter and the same number (7.1.2); the answer is not held
abbrev pub echoed : Arrival → Echo → Node → Effect
echoed request q old = record {
  out = says request.source (Echo_response (record { number = q.number; recovery = old.counter }));
  outcome = Came_to Echoed;
  node = old;
}

-- a request that came before from there, octet for octet, gets the answer that is held for it, and nothing changes (7.6)
pub record Repeats (old : Node) (request : Arrival) (e : Effect) : Type 0 where
  pub held : Held
  pub stands : Among held old.held
  pub same : held.request ≡ request
  pub gives : e ≡ record { out = says_all request.source held.answer; outcome = Came_to Repeated; node = old }

-- no answer is held for the request
abbrev pub IsNew : Node → Arrival → Type 0
IsNew node request = (held : Held) → Among held node.held → held.request ≡ request → ⊥

-- the printed number of the fault: H6 for a missing element, H7 for a bad one
abbrev pub fault_number : Defect → ℕ
fault_number Mandatory_missing = missing_number
fault_number Conditional_missing = missing_number
fault_number Too_short = element_number
fault_number Out_of_range = element_number

-- the cause that a defect is answered with (7.7)
abbrev pub defect_cause : Defect → ℕ
defect_cause Mandatory_missing = MANDATORY_IE_MISSING
defect_cause Conditional_missing = CONDITIONAL_IE_MISSING
defect_cause Too_short = INVALID_LENGTH
defect_cause Out_of_range = MANDATORY_IE_INCORRECT

-- the remote as it is written, and 0 while the session is pending
abbrev pub remote_by : State → Option ℕ → ℕ
remote_by Pending remote = 0
remote_by Active remote = written remote
remote_by Closing remote = written remote

-- the header that answers a request for an opened session: its remote, or 0
abbrev pub opened_remote : Option Session → ℕ
opened_remote None = 0
opened_remote (Some s) = remote_by s.state s.remote

-- the header of the answer to a faulty request (5.5.2)
abbrev pub faulty_header : Node → MessageType → FaultyRequest → ℕ
faulty_header old types.CreateSessionRequest f = written (teid_in f.sender)
faulty_header old _ f = opened_remote (get old.sessions f.header)

-- a response that refuses a request of this type, of those that are answered: Cause and Recovery alone
abbrev pub refusing : MessageType → ℕ → ℕ → Cause → ℕ → Message
refusing types.CreateSessionRequest header number cause counter = Create_session_response (record {
  header = header;
  number = number;
  cause = cause;
  control = None;
  address = None;
  ambr = None;
  contexts = [];
  recovery = Some counter;
})
refusing types.DeleteSessionRequest header number cause counter =
    Delete_session_response (record { header = header; number = number; cause = cause; recovery = Some counter })
refusing types.CreateBearerRequest header number cause counter =
    Create_bearer_response (record { header = header; number = number; cause = cause; contexts = []; recovery = Some counter })
refusing _ header number cause counter =
    Delete_bearer_response (record { header = header; number = number; cause = cause; linked = None; contexts = []; recovery = Some counter })

-- a request of this type and number is refused with this cause: the response goes to this TEID, and nothing changes
abbrev pub request_refused : Arrival → MessageType → ℕ → ℕ → Cause → Node → Effect
request_refused request kind header number cause old = answered request (refusing kind header number cause old.counter) cause.value old

-- a faulty request is answered with the element at fault (7.7.6 to 7.7.8); the answer is not held, and nothing changes
abbrev pub faulted : Arrival → FaultyRequest → Node → Effect
faulted request f old = record {
  out = says request.source
      (refusing f.kind (faulty_header old f.kind f) f.number (cause_at (defect_cause f.defect) f.element f.instance) old.counter);
  outcome = Came_to (Answered (defect_cause f.defect));
  node = old;
}

-- A request whose answer is to be held: with 4,096 held answers it is dropped, and else it is judged.
abbrev pub UnlessFull : (Node → Effect → Type 0) → Node → Effect → Type 0
UnlessFull Judged old e =
    Unless (HasHeldRoom old) (e ≡ dropped old HeldFull) (λ room.
    Judged old e)

-- a faulty request is answered where the gateway answers such requests
abbrev pub Faulted : Bool → Arrival → FaultyRequest → Node → Effect → Type 0
Faulted true request f old e = e ≡ faulted request f old
Faulted false request f old e = e ≡ dropped old (undecodable Control (fault_number f.defect))

-- the printed number of the fault of another version than 2: H2
abbrev pub version_number : ℕ
version_number = 2

-- the octets state this type, which is the second octet in each version
abbrev pub states_type : List ℕ → ℕ → Bool
states_type octets kind = option_map_or (λ k. k == kind) (slice_get octets 1) false

-- octets are of another version than 2, which stands in the first three bits (5.1)
abbrev pub is_other_version : List ℕ → Bool
is_other_version octets = option_map_or (λ first. not (first / 32 == 2)) (slice_get octets 0) false

-- octets of another version are answered where the gateway does so, unless they are such an answer themselves (7.7.2)
abbrev pub tells_version : Config → List ℕ → ℕ → Bool
tells_version config octets fault =
    config.switches.version_not_supported
    && ((fault == version_number) && (is_other_version octets && not (states_type octets version_not_supported.kind)))

-- a Version Not Supported Indication goes to where the octets came from (7.1.3), and nothing changes
abbrev pub version_told : Arrival → Node → Effect
version_told request old = record {
  out = says request.source (Other_control version_not_supported.kind);
  outcome = Came_to (Dropped OtherVersion);
  node = old;
}

-- octets that are no message are dropped, and no other ones are answered
abbrev pub undecoded : ℕ → Arrival → Node → Effect
undecoded fault request old = if tells_version old.config request.octets fault then version_told request old else dropped old (undecodable Control fault)

-- What was read, where this gateway does so with the messages that it takes: another one is dropped before its counter is heard.
abbrev pub TakesReading : Role → (Arrival → Message → Node → Effect → Type 0) → ControlReading → Arrival → Node → Effect → Type 0
TakesReading role Takes (Control_message message) request old e =
    Unless (takes_message role message ≡ true) (e ≡ dropped old Unexpected) (λ taken.
    Hears (Takes request message) old (recovery_of message) e)
TakesReading role Takes (Faulty f) request old e = Faulted (answers_type role f.kind) request f old e
TakesReading role Takes (Control_fault fault) request old e = e ≡ undecoded fault request old

-- A control plane datagram: first its source address is looked at, then the answers that are held, then what was read.
abbrev pub ControlStep : (Arrival → Node → Effect → Type 0) → Arrival → Node → Effect → Type 0
ControlStep Reads request old e =
    Unless (request.source.ip ≡ old.config.peer.control) (e ≡ dropped old NotPeer) (λ peer.
    Repeats old request e ⊎ (IsNew old request × Reads request old e))
