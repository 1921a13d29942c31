-- What a gateway is told to do; the refusals stand in their order.
use Rattle.std.specs.Prelude.{◌≡◌, ◌≢◌, ℕ, ◌≤◌, ◌==◌, if◌then◌else◌, List, [], ◌∷◌, Option, Some, None, false, length}
use Rattle.std.proofs.Math.ListN.{replicate}
use Rattle.std.specs.FinMap.{insert}
use Rattle.gtp_values.specs.declared.paa.Paa.{Paa}
use Rattle.gtp_values.specs.declared.paa.Paa.TheVariants as paas
use Rattle.gtp_values.specs.declared.qos.Qos.{Qos}
use Rattle.gtp_machine.specs.declared.interface_types.TheConstants.{S5S8_SGW_GTP_U, S5S8_PGW_GTP_U, S5S8_SGW_GTP_C}
use Rattle.gtp_machine.specs.Ordered.{Unless}
use Rattle.gtp_machine.specs.Config.{control_end, user_end}
use Rattle.gtp_machine.specs.Element.{tunnel_end}
use Rattle.gtp_machine.specs.Message.{CreateSessionRequest, DeleteSessionRequest, CreateBearerRequest, DeleteBearerRequest, Echo_request}
use Rattle.gtp_machine.specs.Message.{Create_session_request, Delete_session_request, Create_bearer_request, Delete_bearer_request}
use Rattle.gtp_machine.specs.Message.{Packet_data, End_marker, subscriber_of}
use Rattle.gtp_machine.specs.Node.{Role, Serving, Packet, Pending, Active, Closing, Session, Default, Dedicated, Bearer, PendingRequest}
use Rattle.gtp_machine.specs.Node.{Node, written}
use Rattle.gtp_machine.specs.Input.{Came_to, Specification, Command, Create_session, Delete_session, Create_bearer, Delete_bearer}
use Rattle.gtp_machine.specs.Input.{Release_session, Mark_end, Send_echo, Send_user, Effect, Begun, GoneOut, entry_for, says, refused}
use Rattle.gtp_machine.specs.Input.{NoSuchContext, NotActive, WrongRole, SessionsFull, TeidsUsed, PendingFull, BearerEnded, PacketTooLong}
use Rattle.gtp_machine.specs.Choice.{IsFree, HasDraws, IsFreeNumber, HasSessionRoom, HasPendingRoom, HasSession, HasBearer}
use Rattle.gtp_machine.specs.Removal.{session_closing}
use Rattle.gtp_machine.specs.User.{ended_bearer}

-- a request is sent to the peer, and waits for its answer
abbrev pub asks : Node → ℕ → PendingRequest → Option ℕ → Node → Effect
asks old number pending teid new = record {
  out = says (control_end old.config.peer.control) pending.request;
  outcome = Came_to (Begun teid);
  node = record new { pending = insert old.pending number pending };
}

-- The PDN Address Allocation (8.14) that is asked for, with no address yet: of the PDN type, and as of version 4 for a type that
-- is none of the three.
abbrev pub asked_allocation : ℕ → Paa
asked_allocation pdn =
    if pdn == 2 then paas.V6 0 (replicate 16 0)
    else (if pdn == 3 then paas.V4V6 0 (replicate 16 0) (replicate 4 0)
    else paas.V4 (replicate 4 0))

-- the Create Session Request for a specification, with these TEIDs and this number
abbrev pub session_request : Node → Specification → ℕ → ℕ → ℕ → CreateSessionRequest
session_request node spec control user number =
    record {
      header = 0;
      number = number;
      imsi = spec.subscriber.imsi;
      rat = spec.rat;
      network = Some spec.network;
      control = tunnel_end S5S8_SGW_GTP_C control node.config.own.control;
      access_point = spec.subscriber.access_point;
      selection = Some spec.selection;
      pdn = spec.pdn;
      address = Some (asked_allocation spec.pdn);
      ambr = Some spec.ambr;
      context = record { identity = spec.subscriber.identity; qos = spec.qos; user = tunnel_end S5S8_SGW_GTP_U user node.config.own.user };
      further = [];
      recovery = Some node.counter;
    }

-- a session that is pending
abbrev pub pending_session : CreateSessionRequest → Session
pending_session q = record { remote = None; subscriber = subscriber_of q; address = None; state = Pending }

-- its default bearer
abbrev pub pending_bearer : ℕ → CreateSessionRequest → Bearer
pending_bearer control q =
    record { remote = None; session = control; identity = Some q.context.identity; kind = Default; state = Pending; ended = false }

-- two draws, and a pending session with its default bearer
abbrev pub session_begun : Node → ℕ → ℕ → CreateSessionRequest → Node
session_begun old control user q =
    record old {
      drawn = user ∷ control ∷ old.drawn;
      sessions = insert old.sessions control (pending_session q);
      bearers = insert old.bearers user (pending_bearer control q);
    }

-- A session is begun (7.2.1): any two free TEIDs and any free number, and the request.
pub record BeginsSession (old : Node) (spec : Specification) (e : Effect) : Type 0 where
  pub control : ℕ
  pub user : ℕ
  pub number : ℕ
  pub control_free : IsFree old control
  pub user_free : IsFree old user
  pub apart : control ≢ user
  pub number_free : IsFreeNumber old number
  pub gives : e ≡ asks old number
      (record { session = Some control; bearer = None; request = Create_session_request (session_request old spec control user number) })
      (Some control) (session_begun old control user (session_request old spec control user number))

-- the requests to delete a session: of the serving gateway, and of the packet gateway
abbrev pub delete_session_request_of : Session → ℕ → DeleteSessionRequest
delete_session_request_of s number = record { header = written s.remote; number = number; linked = Some s.subscriber.identity }

abbrev pub delete_bearer_request_of_session : Session → ℕ → DeleteBearerRequest
delete_bearer_request_of_session s number = record { header = written s.remote; number = number; linked = Some s.subscriber.identity; identities = [] }

-- A session and its bearers are closing, and the serving gateway asks to delete it (7.2.9.1).
pub record ClosesSession (old : Node) (session : ℕ) (at : Session) (e : Effect) : Type 0 where
  pub number : ℕ
  pub number_free : IsFreeNumber old number
  pub gives : e ≡ asks old number
      (record { session = Some session; bearer = None; request = Delete_session_request (delete_session_request_of at number) })
      (Some session) (session_closing old session at)

-- A session and its bearers are closing, and the packet gateway asks to delete its default bearer (7.2.9.2).
pub record ReleasesSession (old : Node) (session : ℕ) (at : Session) (e : Effect) : Type 0 where
  pub number : ℕ
  pub number_free : IsFreeNumber old number
  pub gives : e ≡ asks old number
      (record { session = Some session; bearer = None; request = Delete_bearer_request (delete_bearer_request_of_session at number) })
      (Some session) (session_closing old session at)

-- the Create Bearer Request for a session, with this TEID and this number
abbrev pub bearer_request : Node → Session → List ℕ → Qos → ℕ → ℕ → CreateBearerRequest
bearer_request node s tft qos user number =
    record {
      header = written s.remote;
      number = number;
      transaction = None;
      linked = s.subscriber.identity;
      context = record { identity = 0; tft = tft; user = tunnel_end S5S8_PGW_GTP_U user node.config.own.user; qos = qos; charging = Some user };
      further = [];
    }

-- a dedicated bearer that is pending: it has no identity and no remote
abbrev pub pending_dedicated : ℕ → Bearer
pending_dedicated session = record { remote = None; session = session; identity = None; kind = Dedicated; state = Pending; ended = false }

-- a draw, and a pending dedicated bearer of the session, whose request waits
abbrev pub create_bearer_asked : Node → ℕ → CreateBearerRequest → ℕ → Node
create_bearer_asked node session r user =
    record node {
      drawn = user ∷ node.drawn;
      bearers = insert node.bearers user (pending_dedicated session);
      pending = insert node.pending r.number (record { session = Some session; bearer = Some user; request = Create_bearer_request r });
    }

-- A dedicated bearer is begun (7.2.3): any free TEID and any free number, and the request.
pub record BeginsBearer (old : Node) (session : ℕ) (at : Session) (tft : List ℕ) (qos : Qos) (e : Effect) : Type 0 where
  pub user : ℕ
  pub number : ℕ
  pub user_free : IsFree old user
  pub number_free : IsFreeNumber old number
  pub gives : e ≡ record {
    out = says (control_end old.config.peer.control) (Create_bearer_request (bearer_request old at tft qos user number));
    outcome = Came_to (Begun (Some user));
    node = create_bearer_asked old session (bearer_request old at tft qos user number) user;
  }

-- the session's dedicated bearer with this identity
pub record NamesBearer (node : Node) (session identity : ℕ) : Type 0 where
  pub key : ℕ
  pub at : HasBearer node key
  pub of : at.bearer.session ≡ session
  pub dedicated : at.bearer.kind ≡ Dedicated
  pub has : at.bearer.identity ≡ Some identity

-- the request to delete the dedicated bearer with this identity
abbrev pub delete_bearer_request_of_bearer : Session → ℕ → ℕ → DeleteBearerRequest
delete_bearer_request_of_bearer s number identity = record { header = written s.remote; number = number; linked = None; identities = identity ∷ [] }

-- A dedicated bearer is closing, and the packet gateway asks to delete it (7.2.9.2).
pub record ClosesBearer (old : Node) (session : ℕ) (at : Session) (identity bearer : ℕ) (b : Bearer) (e : Effect) : Type 0 where
  pub number : ℕ
  pub number_free : IsFreeNumber old number
  pub gives : e ≡ asks old number
      (record { session = Some session; bearer = Some bearer; request = Delete_bearer_request (delete_bearer_request_of_bearer at number identity) })
      (Some bearer) (record old { bearers = insert old.bearers bearer (record b { state = Closing }) })

-- An Echo Request is sent (7.1.1).
pub record SendsEcho (old : Node) (e : Effect) : Type 0 where
  pub number : ℕ
  pub number_free : IsFreeNumber old number
  pub gives : e ≡ asks old number
      (record { session = None; bearer = None; request = Echo_request (record { number = number; recovery = old.counter }) })
      None old

-- A packet is handed in for a bearer, and sent.
pub record SendsPacket (old : Node) (at : Bearer) (payload : List ℕ) (e : Effect) : Type 0 where
  pub of : HasSession old at.session
  pub gives : e ≡ record {
    out = record (says (user_end old.config.peer.user) (Packet_data (written at.remote) payload)) {
      handed = entry_for (written at.remote) payload of.session.subscriber at.identity ∷ [];
    };
    outcome = Came_to GoneOut;
    node = old;
  }

-- no End Marker was sent before: that counts at the packet gateway alone
abbrev pub MayGo : Role → Bearer → Type 0
MayGo Serving b = Unit {0}
MayGo Packet b = b.ended ≡ false

-- a command for one of the gateways: the other one refuses it
abbrev pub OnlyAt : Role → Role → Node → Effect → Type 0 → Type 0
OnlyAt Serving Serving old e Rest = Rest
OnlyAt Serving Packet old e Rest = e ≡ refused old WrongRole
OnlyAt Packet Serving old e Rest = e ≡ refused old WrongRole
OnlyAt Packet Packet old e Rest = Rest

-- a command about an active session
abbrev pub OfActiveSession : ℕ → Node → Effect → (Session → Type 0) → Type 0
OfActiveSession session old e Rest =
    Unless (HasSession old session) (e ≡ refused old NoSuchContext) (λ at.
    Unless (at.session.state ≡ Active) (e ≡ refused old NotActive) (λ active.
    Rest at.session))

-- a command that sends a request: 256 may wait for their answers
abbrev pub WhereRoom : Node → Effect → Type 0 → Type 0
WhereRoom old e Rest = Unless (HasPendingRoom old) (e ≡ refused old PendingFull) (λ few. Rest)

-- create_session: at the serving gateway
abbrev pub SessionBegun : Role → Specification → Node → Effect → Type 0
SessionBegun role spec old e =
    OnlyAt Serving role old e (
    Unless (HasSessionRoom old) (e ≡ refused old SessionsFull) (λ room.
    Unless (HasDraws old 2) (e ≡ refused old TeidsUsed) (λ draws.
    WhereRoom old e (BeginsSession old spec e))))

-- delete_session: at the serving gateway, of an active session
abbrev pub SessionDeleted : Role → ℕ → Node → Effect → Type 0
SessionDeleted role session old e =
    OnlyAt Serving role old e (OfActiveSession session old e (λ at. WhereRoom old e (ClosesSession old session at e)))

-- create_bearer: at the packet gateway, for an active session
abbrev pub BearerBegun : Role → ℕ → List ℕ → Qos → Node → Effect → Type 0
BearerBegun role session tft qos old e =
    OnlyAt Packet role old e (OfActiveSession session old e (λ at.
    Unless (HasDraws old 1) (e ≡ refused old TeidsUsed) (λ draws.
    WhereRoom old e (BeginsBearer old session at tft qos e))))

-- delete_bearer: at the packet gateway, of an active dedicated bearer in an active session
abbrev pub BearerDeleted : Role → ℕ → ℕ → Node → Effect → Type 0
BearerDeleted role session identity old e =
    OnlyAt Packet role old e (
    Unless (HasSession old session) (e ≡ refused old NoSuchContext) (λ at.
    Unless (NamesBearer old session identity) (e ≡ refused old NoSuchContext) (λ named.
    Unless ((at.session.state ≡ Active) × (named.at.bearer.state ≡ Active)) (e ≡ refused old NotActive) (λ active.
    WhereRoom old e (ClosesBearer old session at.session identity named.key named.at.bearer e)))))

-- release_session: at the packet gateway, of an active session
abbrev pub SessionReleased : Role → ℕ → Node → Effect → Type 0
SessionReleased role session old e =
    OnlyAt Packet role old e (OfActiveSession session old e (λ at. WhereRoom old e (ReleasesSession old session at e)))

-- end_marker: at the packet gateway, once on an active bearer
abbrev pub EndMarked : Role → ℕ → Node → Effect → Type 0
EndMarked role bearer old e =
    OnlyAt Packet role old e (
    Unless (HasBearer old bearer) (e ≡ refused old NoSuchContext) (λ at.
    Unless (at.bearer.state ≡ Active) (e ≡ refused old NotActive) (λ active.
    Unless (at.bearer.ended ≡ false) (e ≡ refused old BearerEnded) (λ before.
    e ≡ record {
      out = says (user_end old.config.peer.user) (End_marker (written at.bearer.remote));
      outcome = Came_to GoneOut;
      node = record old { bearers = insert old.bearers bearer (ended_bearer at.bearer) };
    }))))

-- echo: at both
abbrev pub EchoBegun : Node → Effect → Type 0
EchoBegun old e = WhereRoom old e (SendsEcho old e)

-- send_user: at both, on an active bearer, at most 65,000 octets
abbrev pub PacketSent : Role → ℕ → List ℕ → Node → Effect → Type 0
PacketSent role bearer payload old e =
    Unless (HasBearer old bearer) (e ≡ refused old NoSuchContext) (λ at.
    Unless (at.bearer.state ≡ Active) (e ≡ refused old NotActive) (λ active.
    Unless (MayGo role at.bearer) (e ≡ refused old BearerEnded) (λ goes.
    Unless (length payload ≤ 65000) (e ≡ refused old PacketTooLong) (λ short.
    SendsPacket old at.bearer payload e))))

-- a command
abbrev pub CommandStep : Role → Command → Node → Effect → Type 0
CommandStep role (Create_session spec) old e = SessionBegun role spec old e
CommandStep role (Delete_session session) old e = SessionDeleted role session old e
CommandStep role (Create_bearer session tft qos) old e = BearerBegun role session tft qos old e
CommandStep role (Delete_bearer session identity) old e = BearerDeleted role session identity old e
CommandStep role (Release_session session) old e = SessionReleased role session old e
CommandStep role (Mark_end bearer) old e = EndMarked role bearer old e
CommandStep role Send_echo old e = EchoBegun old e
CommandStep role (Send_user bearer payload) old e = PacketSent role bearer payload old e
