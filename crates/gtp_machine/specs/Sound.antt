-- What holds of one gateway alone, whatever comes to it.
use Rattle.std.specs.Prelude.{◌≡◌, ◌≢◌, ◌⊎◌, ◌↔◌, ℕ, ◌≤◌, true, List, [], ◌∷◌, Option, Some, None, length}
use Rattle.std.specs.FinMap.{get, len}
use Rattle.gtp_values.specs.FiniteMap.{FiniteMap, Each, Among}
use Rattle.gtp_tables.specs.declared.pool.IpVersion.{IpVersion}
use Rattle.gtp_tables.specs.Part.{part_of}
use Rattle.gtp_machine.specs.Step.{Step, Done, Steps}
use Rattle.gtp_machine.specs.Element.{IsAccepting, teid_in}
use Rattle.gtp_machine.specs.Message.{Echo, CreateSessionRequest, DeleteSessionRequest, CreateBearerRequest, DeleteBearerRequest, Message}
use Rattle.gtp_machine.specs.Message.{Echo_request, Create_session_request, Create_session_response, Delete_session_request}
use Rattle.gtp_machine.specs.Message.{Create_bearer_request, Create_bearer_response, Delete_bearer_request, CreatedBearer, GivenBearer}
use Rattle.gtp_machine.specs.Node.{Role, Serving, Packet, State, Pending, Active, Closing, Kind, Default, Dedicated, Session, Bearer}
use Rattle.gtp_machine.specs.Node.{PendingRequest, Held, Arrival, Node, fresh_node}
use Rattle.gtp_machine.specs.Config.{Config}
use Rattle.gtp_machine.specs.Input.{Create_session, Input, Commanded, Control_came, Moves_on, ControlReading, Control_message, Move, Resend}
use Rattle.gtp_machine.specs.Input.{Give_up, Forget, Out, Effect}
use Rattle.gtp_machine.specs.Tick.{TickStep, Due, Ticks}
use Rattle.gtp_machine.specs.Choice.{IsIdentity, HasPending}
use Rattle.gtp_machine.specs.User.{is_default_to, default_among}
use Rattle.gtp_machine.specs.Reading.{ControlReads, DatagramReading, Both, DatagramReads, taken_as}

-- something stands under the key, and P holds of it
abbrev pub At : {X : Type 0} → FiniteMap X → ℕ → (X → Type 0) → Type 0
At {X} table key P = (x : X) × (get table key ≡ Some x) × P x

-- the session is in this state
abbrev pub IsInState : State → Session → Type 0
IsInState state s = s.state ≡ state

-- a bearer of this session, of this kind and in this state
pub record IsBearerOf (session : ℕ) (kind : Kind) (state : State) (b : Bearer) : Type 0 where
  pub of : b.session ≡ session
  pub is_kind : b.kind ≡ kind
  pub in_state : b.state ≡ state

-- a session: its TEID was drawn; it has a remote once it was opened, and none before
pub record IsSoundSession (drawn : List ℕ) (t : ℕ) (s : Session) : Type 0 where
  pub own : Among t drawn
  pub named : s.state ≢ Pending → (remote : ℕ) × (s.remote ≡ Some remote)
  pub blank : s.state ≡ Pending → s.remote ≡ None

-- a bearer: its TEID was drawn, and its session stands; it has a remote where it is active, and none while it is pending;
-- its identity is 5 to 15
pub record IsSoundBearer (drawn : List ℕ) (sessions : FiniteMap Session) (t : ℕ) (b : Bearer) : Type 0 where
  pub own : Among t drawn
  pub of : (s : Session) × (get sessions b.session ≡ Some s)
  pub named : b.state ≡ Active → (remote : ℕ) × (b.remote ≡ Some remote)
  pub blank : b.state ≡ Pending → b.remote ≡ None
  pub range : (identity : ℕ) → b.identity ≡ Some identity → IsIdentity identity

-- no two bearers of a session have one identity
abbrev pub AreApart : FiniteMap Bearer → Type 0
AreApart bearers =
    (s t : ℕ) (a b : Bearer) (identity : ℕ) → get bearers s ≡ Some a → get bearers t ≡ Some b → a.session ≡ b.session →
    a.identity ≡ Some identity → b.identity ≡ Some identity → s ≡ t

-- an Echo Request is about nothing
pub record AsksEcho (number : ℕ) (p : PendingRequest) : Type 0 where
  pub request : Echo
  pub asked : p.request ≡ Echo_request request
  pub numbered : request.number ≡ number
  pub session : p.session ≡ None
  pub bearer : p.bearer ≡ None

-- a Create Session Request of the serving gateway: the session and its default bearer that it names are pending
pub record AsksSession (role : Role) (sessions : FiniteMap Session) (bearers : FiniteMap Bearer) (number : ℕ) (p : PendingRequest) : Type 0 where
  pub by : role ≡ Serving
  pub request : CreateSessionRequest
  pub asked : p.request ≡ Create_session_request request
  pub numbered : request.number ≡ number
  pub session : p.session ≡ Some request.control.teid
  pub bearer : p.bearer ≡ None
  pub waits : At sessions request.control.teid (IsInState Pending)
  pub default : At bearers request.context.user.teid (IsBearerOf request.control.teid Default Pending)

-- the request that deletes a session: a Delete Session Request, or at the packet gateway a Delete Bearer Request that names its default bearer alone
abbrev pub DeletesSession : Role → ℕ → Message → Type 0
DeletesSession Serving number message = (request : DeleteSessionRequest) × (message ≡ Delete_session_request request) × (request.number ≡ number)
DeletesSession Packet number message =
    (request : DeleteBearerRequest) × (message ≡ Delete_bearer_request request) × (request.number ≡ number) × (request.identities ≡ [])

-- a request that deletes a session: it is closing
pub record EndsSession (role : Role) (sessions : FiniteMap Session) (number : ℕ) (p : PendingRequest) : Type 0 where
  pub asked : DeletesSession role number p.request
  pub about : ℕ
  pub session : p.session ≡ Some about
  pub bearer : p.bearer ≡ None
  pub closes : At sessions about (IsInState Closing)

-- a bearer that was asked for is pending, or closing with its session
abbrev pub IsWanted : FiniteMap Session → FiniteMap Bearer → ℕ → ℕ → Type 0
IsWanted sessions bearers session key =
    At bearers key (IsBearerOf session Dedicated Pending) ⊎
    (At bearers key (IsBearerOf session Dedicated Closing) × At sessions session (IsInState Closing))

-- a Create Bearer Request of the packet gateway: the bearer that it names
pub record AsksBearer (role : Role) (sessions : FiniteMap Session) (bearers : FiniteMap Bearer) (number : ℕ) (p : PendingRequest) : Type 0 where
  pub by : role ≡ Packet
  pub request : CreateBearerRequest
  pub asked : p.request ≡ Create_bearer_request request
  pub numbered : request.number ≡ number
  pub about : ℕ
  pub session : p.session ≡ Some about
  pub bearer : p.bearer ≡ Some request.context.user.teid
  pub wanted : IsWanted sessions bearers about request.context.user.teid

-- a Delete Bearer Request of the packet gateway for a dedicated bearer: it is closing
pub record EndsBearer (role : Role) (bearers : FiniteMap Bearer) (number : ℕ) (p : PendingRequest) : Type 0 where
  pub by : role ≡ Packet
  pub request : DeleteBearerRequest
  pub asked : p.request ≡ Delete_bearer_request request
  pub numbered : request.number ≡ number
  pub unlinked : request.linked ≡ None
  pub about : ℕ
  pub session : p.session ≡ Some about
  pub key : ℕ
  pub bearer : p.bearer ≡ Some key
  pub closes : At bearers key (IsBearerOf about Dedicated Closing)

-- a pending request is one of these five
abbrev pub IsAbout : Role → FiniteMap Session → FiniteMap Bearer → ℕ → PendingRequest → Type 0
IsAbout role sessions bearers number p =
    AsksEcho number p ⊎
    (AsksSession role sessions bearers number p ⊎
    (EndsSession role sessions number p ⊎
    (AsksBearer role sessions bearers number p ⊎
    EndsBearer role bearers number p)))

-- the TEID of what an answer to the request opens
abbrev pub opened_by : Message → Option ℕ
opened_by (Create_session_request q) = Some q.control.teid
opened_by (Create_bearer_request r) = Some r.context.user.teid
opened_by _ = None

-- no two pending requests open one context
abbrev pub AreLone : FiniteMap PendingRequest → Type 0
AreLone pending =
    (m n : ℕ) (p q : PendingRequest) (t : ℕ) → get pending m ≡ Some p → get pending n ≡ Some q → opened_by p.request ≡ Some t →
    opened_by q.request ≡ Some t → m ≡ n

-- nothing is over its limit
pub record IsWithin (sessions : FiniteMap Session) (pending : FiniteMap PendingRequest) (held : List Held) (drawn : List ℕ) : Type 0 where
  pub sessions_few : len sessions ≤ 1000
  pub pending_few : len pending ≤ 256
  pub numbers : Each (λ number (p : PendingRequest). number ≤ 8388607) pending
  pub held_few : length held ≤ 4096
  pub drawn_few : length drawn ≤ 16777215

-- sessions and bearers that are sound
pub record AreSoundContexts (drawn : List ℕ) (sessions : FiniteMap Session) (bearers : FiniteMap Bearer) : Type 0 where
  pub each_session : Each (IsSoundSession drawn) sessions
  pub each_bearer : Each (IsSoundBearer drawn sessions) bearers
  pub apart : AreApart bearers

-- pending requests that are sound
pub record AreSoundRequests
    (role : Role) (sessions : FiniteMap Session) (bearers : FiniteMap Bearer) (pending : FiniteMap PendingRequest)
    : Type 0 where
  pub each : Each (IsAbout role sessions bearers) pending
  pub lone : AreLone pending

-- no two sessions have one address of either version
abbrev pub AreAddressesApart : FiniteMap Session → Type 0
AreAddressesApart sessions =
    (version : IpVersion) (s t : ℕ) (a b : Session) (address : List ℕ) → get sessions s ≡ Some a → get sessions t ≡ Some b →
    part_of version a.address ≡ Some address → part_of version b.address ≡ Some address → s ≡ t

-- A gateway that is sound. A packet gateway gives each address to one session; a serving gateway takes those that it is told.
pub record IsSound (role : Role) (node : Node) : Type 0 where
  pub contexts : AreSoundContexts node.drawn node.sessions node.bearers
  pub requests : AreSoundRequests role node.sessions node.bearers node.pending
  pub within : IsWithin node.sessions node.pending node.held node.drawn
  pub addresses : role ≡ Packet → AreAddressesApart node.sessions

-- a response that accepts names the F-TEIDs that its table asks for then
abbrev pub NamesItsEnds : Message → Type 0
NamesItsEnds (Create_session_response a) =
    IsAccepting a.cause →
    ((t : ℕ) × (teid_in a.control ≡ Some t)) × ((c : CreatedBearer) → Among c a.contexts → IsAccepting c.cause → (t : ℕ) × (teid_in c.user ≡ Some t))
NamesItsEnds (Create_bearer_response x) =
    IsAccepting x.cause → (c : GivenBearer) → Among c x.contexts → IsAccepting c.cause →
    (t : ℕ) × (teid_in c.serving_user ≡ Some t)
NamesItsEnds _ = Unit {0}

-- what comes was read from octets, whoever sent them, and a command names an identity of 5 to 15 for the default bearer
abbrev pub IsWellFormed : Input → Type 0
IsWellFormed (Commanded (Create_session spec)) = IsIdentity spec.subscriber.identity
IsWellFormed (Control_came request (Control_message message)) = NamesItsEnds message
IsWellFormed _ = Unit {0}

-- Each step from a sound gateway leaves it sound.
abbrev pub StaysSound : Type 0
StaysSound =
    (role : Role) (old : Node) (input : Input) (effect : Effect) → IsSound role old → IsWellFormed input →
    Step role old input effect → IsSound role effect.node

-- a gateway that has just started is sound
abbrev pub StartsSound : Type 0
StartsSound = (role : Role) (config : Config) (counter : ℕ) → IsSound role (fresh_node config counter)

-- a move of what is there
abbrev pub CanMove : Node → Move → Type 0
CanMove node (Resend number) = HasPending node number
CanMove node (Give_up number) = HasPending node number
CanMove node (Forget request) = (held : Held) × Among held node.held × (held.request ≡ request)

-- what may come to the gateway: anything, but no move of what is not there
abbrev pub CanCome : Node → Input → Type 0
CanCome node (Moves_on move) = CanMove node move
CanCome node _ = Unit {0}

-- no two of the list are the same
abbrev pub AreDistinct : List Arrival → Type 0
AreDistinct [] = Unit {0}
AreDistinct (request ∷ requests) = (Among request requests → ⊥) × AreDistinct requests

-- what is due is there: the requests to send again wait, and the answers to forget are held, each due once; a request that is due
-- to be given up need not wait
pub record CanTick (node : Node) (due : Due) : Type 0 where
  pub waits : (number : ℕ) → Among number due.resends → HasPending node number
  pub held : (request : Arrival) → Among request due.forgets → CanMove node (Forget request)
  pub once : AreDistinct due.forgets

-- it is not so that nothing has the property
abbrev pub IsNotEmpty : {X : Type 0} → (X → Type 0) → Type 0
IsNotEmpty {X} P = ((x : X) → P x → ⊥) → ⊥

-- Whatever comes to a sound gateway, there is an effect.
abbrev pub AlwaysSteps : Type 0
AlwaysSteps = (role : Role) (old : Node) (input : Input) → IsSound role old → CanCome old input → IsNotEmpty (λ effect. Step role old input effect)

-- A tick of a sound gateway leaves it sound.
abbrev pub TickStaysSound : Type 0
TickStaysSound =
    (role : Role) (old : Node) (moves : List Move) (out : Out) (new : Node) → IsSound role old → TickStep old moves out new →
    IsSound role new

-- Whatever is due and there, a gateway can tick.
abbrev pub AlwaysTicks : Type 0
AlwaysTicks = (node : Node) (due : Due) → CanTick node due → IsNotEmpty (λ (effect : Effect). Ticks node due effect.out effect.node)

-- What a tick gives up was due to be given up, and waited when the tick began.
abbrev pub GivesUpDue : Type 0
GivesUpDue =
    (old : Node) (due : Due) (out : Out) (new : Node) → Ticks old due out new → (number : ℕ) → Among number out.gave_up →
    Among number due.give_ups × HasPending old number

-- The test by which a session goes with an Error Indication is true exactly where one of the bearers is its default one and has that remote.
abbrev pub BreaksByDefault : Type 0
BreaksByDefault =
    (remote session : ℕ) (bearers : FiniteMap Bearer) →
    (default_among remote session bearers ≡ true) ↔
    ((t : ℕ) × (b : Bearer) × (get bearers t ≡ Some b) × (is_default_to remote session b ≡ true))

-- each step takes what is well formed
abbrev pub AreWellFormed : List Done → Type 0
AreWellFormed [] = Unit {0}
AreWellFormed (done ∷ log) = IsWellFormed done.input × AreWellFormed log

-- A gateway that is reached from a start is sound.
abbrev pub ReachedIsSound : Type 0
ReachedIsSound =
    (role : Role) (config : Config) (counter : ℕ) (log : List Done) (node : Node) →
    Steps role (fresh_node config counter) log node → AreWellFormed log → IsSound role node

-- Whatever came to a packet gateway since its start, no two of its sessions have one address of either version.
abbrev pub GivesEachAddressOnce : Type 0
GivesEachAddressOnce =
    (config : Config) (counter : ℕ) (log : List Done) (node : Node) →
    Steps Packet (fresh_node config counter) log node → AreWellFormed log → AreAddressesApart node.sessions

-- What is read from octets is whole.
abbrev pub ReadsWhole : Type 0
ReadsWhole = (request : Arrival) (reading : ControlReading) → ControlReads request.octets reading → IsWellFormed (Control_came request reading)

-- So are two messages of one datagram.
abbrev pub PairReadsWhole : Type 0
PairReadsWhole = (octets : List ℕ) (first second : Message) → DatagramReads octets (Both first second) → NamesItsEnds first × NamesItsEnds second

-- So is what a gateway takes a datagram for.
abbrev pub TakenWhole : Type 0
TakenWhole =
    (request : Arrival) (reading : DatagramReading) → DatagramReads request.octets reading →
    IsWellFormed (Control_came request (taken_as reading))
