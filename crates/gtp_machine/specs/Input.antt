-- What a gateway may be told, and what a step of it gives.
use Rattle.std.specs.Prelude.{ℕ, List, [], ◌∷◌, ◌++◌, Option, None}
use Rattle.gtp_values.specs.Plmn.{Network}
use Rattle.gtp_values.specs.TunnelEnd.{TunnelEnd}
use Rattle.gtp_values.specs.declared.address.Endpoint.{Endpoint}
use Rattle.gtp_values.specs.declared.qos.Ambr.{Ambr}
use Rattle.gtp_values.specs.declared.qos.Qos.{Qos}
use Rattle.gtp_machine.specs.Element.{Subscriber}
use Rattle.gtp_machine.specs.Message.{Message, Plane}
use Rattle.gtp_machine.specs.Node.{Arrival, Node}
pub use Rattle.gtp_machine.specs.declared.message_type.MessageType.{MessageType}
pub use Rattle.gtp_machine.specs.declared.outcome.Refusal.{Refusal}
pub use Rattle.gtp_machine.specs.declared.outcome.Refusal.TheVariants.{NoSuchContext, NotActive, WrongRole, SessionsFull, TeidsUsed}
pub use Rattle.gtp_machine.specs.declared.outcome.Refusal.TheVariants.{PendingFull, BearerEnded, PacketTooLong}
pub use Rattle.gtp_machine.specs.declared.outcome.FaultName.{FaultName}
pub use Rattle.gtp_machine.specs.declared.outcome.DropReason.{DropReason}
pub use Rattle.gtp_machine.specs.declared.outcome.DropReason.TheVariants.{Undecodable, OldCounter, NoPending, Mismatch, ContextNotActive}
pub use Rattle.gtp_machine.specs.declared.outcome.DropReason.TheVariants.{UnknownContext, AfterEnd, HeldFull, Unexpected, UnknownExtension}
pub use Rattle.gtp_machine.specs.declared.outcome.DropReason.TheVariants.{NotPeer, OtherVersion}
pub use Rattle.gtp_machine.specs.declared.outcome.Outcome.{Outcome}
pub use Rattle.gtp_machine.specs.declared.outcome.Outcome.TheVariants.{Begun, GoneOut, Refused, Answered, Echoed, Repeated, Opened, Closed}
pub use Rattle.gtp_machine.specs.declared.outcome.Outcome.TheVariants.{Clash, Rejected, Alive, Accepted, Ended, Broken, Dropped}

-- what a session is to be made with; where a command is well formed (Sound) the identity of its default bearer is 5 to 15
pub record Specification : Type 0 where
  pub subscriber : Subscriber
  pub rat : ℕ
  pub network : Network
  pub selection : ℕ
  pub pdn : ℕ
  pub ambr : Ambr
  pub qos : Qos

-- why a row of a message can't be taken (TS 29.274, 7.7)
pub data Defect : Type 0 where
  Mandatory_missing : Defect
  Conditional_missing : Defect
  Too_short : Defect
  Out_of_range : Defect

-- a request with a faulty element: its head, the element's type and instance, and its sender's control F-TEID where that reads
pub record FaultyRequest : Type 0 where
  pub kind : MessageType
  pub header : ℕ
  pub number : ℕ
  pub defect : Defect
  pub element : ℕ
  pub instance : ℕ
  pub sender : Option TunnelEnd

-- a control plane datagram: a message, a request with a faulty element, or another fault, by its printed number
pub data ControlReading : Type 0 where
  Control_message : Message → ControlReading
  Faulty : FaultyRequest → ControlReading
  Control_fault : ℕ → ControlReading

-- a user plane datagram: a message, one with an extension header that is needed and not known, or another fault
pub data UserReading : Type 0 where
  User_message : Message → UserReading
  Extension_needed : UserReading
  User_fault : ℕ → UserReading

-- what a gateway may be told to do
pub data Command : Type 0 where
  Create_session : Specification → Command
  Delete_session : ℕ → Command
  Create_bearer : ℕ → List ℕ → Qos → Command  -- for this session, with this TFT and QoS
  Delete_bearer : ℕ → ℕ → Command  -- of this session, with this identity
  Release_session : ℕ → Command
  Mark_end : ℕ → Command  -- of this bearer
  Send_echo : Command
  Send_user : ℕ → List ℕ → Command  -- on this bearer, this payload

-- what a gateway does by itself as time goes by
pub data Move : Type 0 where
  Resend : ℕ → Move  -- the request with this number
  Give_up : ℕ → Move  -- the request with this number
  Forget : Arrival → Move  -- the answer to this request

-- what may happen to a gateway
pub data Input : Type 0 where
  Commanded : Command → Input
  Control_came : Arrival → ControlReading → Input
  User_came : Endpoint → UserReading → Input
  Moves_on : Move → Input

-- a user packet, and the context that it is for
pub record Entry : Type 0 where
  pub target : ℕ  -- the TEID that the packet names
  pub payload : List ℕ
  pub imsi : List ℕ  -- of the bearer's session
  pub access_point : List ℕ  -- of the bearer's session
  pub identity : Option ℕ  -- of the bearer

-- the entry of a packet for a bearer with this identity, of a session for this subscriber
abbrev pub entry_for : ℕ → List ℕ → Subscriber → Option ℕ → Entry
entry_for target payload subscriber identity =
    record { target = target; payload = payload; imsi = subscriber.imsi; access_point = subscriber.access_point; identity = identity }

-- a datagram that is sent, and where to
pub record Sending : Type 0 where
  pub destination : Endpoint
  pub messages : List Message  -- of one datagram: one, or two

-- what a step sends and tells
pub record Out : Type 0 where
  pub sent : List Sending
  pub heard : Option ℕ  -- the counter that the peer told
  pub learned : Option ℕ  -- the same, where it is later than the one that was known
  pub gave_up : List ℕ  -- numbers of requests that wait no more
  pub forgot : List Arrival  -- requests whose answers are held no more
  pub made : List Arrival  -- create requests for which a context was made
  pub handed : List Entry  -- packets handed in
  pub accepted : List Entry  -- packets accepted

-- nothing is sent or told
abbrev pub nothing : Out
nothing = record { sent = []; heard = None; learned = None; gave_up = []; forgot = []; made = []; handed = []; accepted = [] }

-- one datagram of these messages is sent
abbrev pub says_all : Endpoint → List Message → Out
says_all destination datagram = record nothing { sent = record { destination = destination; messages = datagram } ∷ [] }

-- one message is sent
abbrev pub says : Endpoint → Message → Out
says destination message = says_all destination (message ∷ [])

-- all messages that are sent
abbrev pub messages : List Sending → List Message
messages [] = []
messages (s ∷ sent) = s.messages ++ messages sent

-- the same, datagram by datagram
abbrev pub datagrams : List Sending → List (List Message)
datagrams [] = []
datagrams (s ∷ sent) = s.messages ∷ datagrams sent

-- what an event comes to: of a command and of a datagram an outcome is told, and of a tick none
pub data EventOutcome : Type 0 where
  Came_to : Outcome → EventOutcome
  Ticked : EventOutcome
  Restarted : ℕ → EventOutcome  -- with this counter
  No_such_datagram : EventOutcome  -- N1
  Restarts_used : EventOutcome  -- N2
  Cut_too_long : EventOutcome  -- N3

-- what a step gives: what it sends and tells, what it comes to, and the gateway after it
pub record Effect : Type 0 where
  pub out : Out
  pub outcome : EventOutcome
  pub node : Node

-- nothing changes, and the command is refused
abbrev pub refused : Node → Refusal → Effect
refused node why = record { out = nothing; outcome = Came_to (Refused why); node = node }

-- a datagram of this plane with the fault of this printed number
abbrev pub undecodable : Plane → ℕ → DropReason
undecodable plane number = Undecodable (record { plane = plane; number = number })

-- nothing changes, and the datagram is dropped
abbrev pub dropped : Node → DropReason → Effect
dropped node why = record { out = nothing; outcome = Came_to (Dropped why); node = node }
