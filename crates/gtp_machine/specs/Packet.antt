-- The control plane of the packet gateway.
use Rattle.std.specs.Prelude.{◌≡◌, ◌≢◌, ℕ, ◌==◌, ◌&&◌, not, List, [], ◌∷◌, Option, Some, None, is_some, IsSome, false, if◌then◌else◌}
use Rattle.std.specs.FinMap.{insert, remove}
use Rattle.gtp_values.specs.declared.cause.Cause.{Cause}
use Rattle.gtp_values.specs.PdnAddress.{allocation}
use Rattle.gtp_ie.specs.declared.kinds.TheConstants.{EBI}
use Rattle.gtp_machine.specs.declared.causes.TheConstants.{REQUEST_ACCEPTED, NEW_PDN_TYPE_DUE_TO_NETWORK_PREFERENCE, CONTEXT_NOT_FOUND}
use Rattle.gtp_machine.specs.declared.causes.TheConstants.{MANDATORY_IE_INCORRECT, NO_RESOURCES_AVAILABLE, MISSING_OR_UNKNOWN_APN}
use Rattle.gtp_machine.specs.declared.causes.TheConstants.{PREFERRED_PDN_TYPE_NOT_SUPPORTED, ALL_DYNAMIC_ADDRESSES_ARE_OCCUPIED}
use Rattle.gtp_machine.specs.declared.causes.TheConstants.{REQUEST_REJECTED}
use Rattle.gtp_machine.specs.declared.interface_types.TheConstants.{S5S8_PGW_GTP_U, S5S8_PGW_GTP_C}
use Rattle.gtp_machine.specs.declared.message_type.MessageType.TheVariants as types
use Rattle.gtp_machine.specs.Ordered.{Unless}
use Rattle.gtp_machine.specs.Config.{Template, access_point_for, template_asked}
use Rattle.gtp_machine.specs.Element.{IsAccepting, PdnAddress, cause_of, cause_at, teid_in, tunnel_end}
use Rattle.gtp_machine.specs.Message.{CreateSessionRequest, CreateSessionResponse, DeleteSessionRequest, DeleteSessionResponse}
use Rattle.gtp_machine.specs.Message.{CreateBearerRequest, GivenBearer, CreateBearerResponse, DeleteBearerRequest, DeleteBearerResponse}
use Rattle.gtp_machine.specs.Message.{Message, Echo_request, Echo_response, Create_session_request, Create_session_response}
use Rattle.gtp_machine.specs.Message.{Delete_session_request, Delete_session_response, Create_bearer_request, Create_bearer_response}
use Rattle.gtp_machine.specs.Message.{Delete_bearer_request, Delete_bearer_response, subscriber_of, first_given, first_identity}
use Rattle.gtp_machine.specs.Node.{Active, Closing, Session, Bearer, Default, PendingRequest, Arrival, Node, written}
use Rattle.gtp_machine.specs.Input.{Came_to, Effect, Opened, Closed, Clash, Rejected, nothing, dropped, NoPending, Mismatch, Unexpected}
use Rattle.gtp_machine.specs.Choice.{IsFree, HasDraws, IsFreeNumber, IsGiven, CanGive, IsServed, IsIdentity, IsUnused, HasSessionRoom}
use Rattle.gtp_machine.specs.Choice.{HasPendingRoom, HasSession, HasBearer, HasPending}
use Rattle.gtp_machine.specs.Removal.{without_session}
use Rattle.gtp_machine.specs.Response.{Named, finishing, EndsRequest, EchoAnswered}
use Rattle.gtp_machine.specs.Command.{bearer_request, create_bearer_asked}
use Rattle.gtp_machine.specs.Answer.{UnlessFull, answered, making, echoed, request_refused}

-- the cause of the answer to a session that is made (8.4): a new PDN type where both versions were asked for and one is given
abbrev pub session_cause : ℕ → PdnAddress → ℕ
session_cause pdn address =
    if (pdn == 3) && not (is_some address.v4 && is_some address.v6) then NEW_PDN_TYPE_DUE_TO_NETWORK_PREFERENCE
    else REQUEST_ACCEPTED

-- the answer that makes a session: any two free TEIDs and any free address, its part of version 6 under a prefix of 64 bits
abbrev pub session_response : Node → CreateSessionRequest → ℕ → ℕ → PdnAddress → CreateSessionResponse
session_response node q control user address =
    record {
      header = q.control.teid;
      number = q.number;
      cause = cause_of (session_cause q.pdn address);
      control = Some (tunnel_end S5S8_PGW_GTP_C control node.config.own.control);
      address = Some (allocation 64 address);
      ambr = q.ambr;
      contexts = record {
        identity = q.context.identity;
        cause = cause_of REQUEST_ACCEPTED;
        user = Some (tunnel_end S5S8_PGW_GTP_U user node.config.own.user);
        qos = Some q.context.qos;
        charging = Some user;
      } ∷ [];
      recovery = Some node.counter;
    }

-- a session of the packet gateway, active at once
abbrev pub made_session : CreateSessionRequest → PdnAddress → Session
made_session q address = record { remote = Some q.control.teid; subscriber = subscriber_of q; address = Some address; state = Active }

-- its default bearer
abbrev pub made_bearer : CreateSessionRequest → ℕ → Bearer
made_bearer q control = record {
  remote = Some q.context.user.teid;
  session = control;
  identity = Some q.context.identity;
  kind = Default;
  state = Active;
  ended = false;
}

-- two draws, and an active session with its default bearer
abbrev pub session_made : Node → CreateSessionRequest → ℕ → ℕ → PdnAddress → Node
session_made old q control user address =
    record old {
      drawn = user ∷ control ∷ old.drawn;
      sessions = insert old.sessions control (made_session q address);
      bearers = insert old.bearers user (made_bearer q control);
    }

-- the answer to a session that is made, and the request of a bearer of its, in one datagram
abbrev pub response_and_request : CreateSessionResponse → CreateBearerRequest → List Message
response_and_request a r = Create_session_response a ∷ Create_bearer_request r ∷ []

-- The bearer of the template is begun with the session (7.2.3): any free TEID and any free number. Its request goes with the
-- answer, in one datagram (5.5.1), and that is the answer that is held.
pub record AddsBearer
    (t : Template) (request : Arrival) (a : CreateSessionResponse) (cause : ℕ) (session : ℕ) (s : Session) (made : Node) (e : Effect)
    : Type 0 where
  pub user : ℕ
  pub number : ℕ
  pub user_free : IsFree made user
  pub number_free : IsFreeNumber made number
  pub gives : e ≡ making request (response_and_request a (bearer_request made s t.tft t.qos user number)) cause
      (create_bearer_asked made session (bearer_request made s t.tft t.qos user number) user)

-- The answer to a session that is made, and held: where its access point has a template, one more TEID can be drawn and one more
-- request can wait, it goes with the request of the template's bearer, and else alone.
abbrev pub AnswersWith : Option Template → Arrival → CreateSessionResponse → ℕ → ℕ → Session → Node → Effect → Type 0
AnswersWith None request a cause session s made e = e ≡ making request (Create_session_response a ∷ []) cause made
AnswersWith (Some t) request a cause session s made e =
    Unless (HasDraws made 1 × HasPendingRoom made) (e ≡ making request (Create_session_response a ∷ []) cause made) (λ can.
    AddsBearer t request a cause session s made e)

-- A session is made, and the answer is held.
pub record MakesSession (request : Arrival) (old : Node) (q : CreateSessionRequest) (e : Effect) : Type 0 where
  pub control : ℕ
  pub user : ℕ
  pub address : PdnAddress
  pub control_free : IsFree old control
  pub user_free : IsFree old user
  pub apart : control ≢ user
  pub given : IsGiven old q.pdn address
  pub gives : AnswersWith (template_asked old.config q.access_point)
      request (session_response old q control user address) (session_cause q.pdn address)
      control (made_session q address) (session_made old q control user address) e

module _ (request : Arrival) (q : CreateSessionRequest) where
  -- refused with this cause: the response goes to the sender's control plane TEID, and nothing changes
  abbrev pub session_refused : Cause → Node → Effect
  session_refused cause old = request_refused request types.CreateSessionRequest q.control.teid q.number cause old

  -- A Create Session Request (7.2.1) whose answer can be held, with its refusals in their order.
  abbrev pub SessionJudged : Node → Effect → Type 0
  SessionJudged old e =
      Unless (q.further ≡ []) (e ≡ session_refused (cause_of REQUEST_REJECTED) old) (λ one.
      Unless (IsIdentity q.context.identity) (e ≡ session_refused (cause_at MANDATORY_IE_INCORRECT EBI 0) old) (λ identity.
      Unless (IsSome (access_point_for old.config q.access_point)) (e ≡ session_refused (cause_of MISSING_OR_UNKNOWN_APN) old) (λ configured.
      Unless (IsServed old.config q.pdn) (e ≡ session_refused (cause_of PREFERRED_PDN_TYPE_NOT_SUPPORTED) old) (λ served.
      Unless (HasSessionRoom old × HasDraws old 2) (e ≡ session_refused (cause_of NO_RESOURCES_AVAILABLE) old) (λ few.
      Unless (CanGive old q.pdn) (e ≡ session_refused (cause_of ALL_DYNAMIC_ADDRESSES_ARE_OCCUPIED) old) (λ can.
      MakesSession request old q e))))))

  -- A Create Session Request.
  abbrev pub CreateSessionAsked : Node → Effect → Type 0
  CreateSessionAsked old e = UnlessFull SessionJudged old e

-- the linked identity is absent, or the session's default
abbrev pub IsLinkedTo : Option ℕ → Session → Type 0
IsLinkedTo None s = Unit {0}
IsLinkedTo (Some identity) s = identity ≡ s.subscriber.identity

-- the response that the session is removed
abbrev pub delete_session_response_of : Node → DeleteSessionRequest → Session → DeleteSessionResponse
delete_session_response_of node d s =
    record { header = written s.remote; number = d.number; cause = cause_of REQUEST_ACCEPTED; recovery = Some node.counter }

module _ (request : Arrival) (d : DeleteSessionRequest) where
  -- refused with this cause: the response goes to this TEID, and nothing changes
  abbrev pub delete_session_refused : ℕ → ℕ → Node → Effect
  delete_session_refused header cause old = request_refused request types.DeleteSessionRequest header d.number (cause_of cause) old

  -- A Delete Session Request (7.2.9.1) whose answer can be held, in any state of the session.
  abbrev pub DeleteSessionJudged : Node → Effect → Type 0
  DeleteSessionJudged old e =
      Unless (HasSession old d.header) (e ≡ delete_session_refused 0 CONTEXT_NOT_FOUND old) (λ at.
      Unless (IsLinkedTo d.linked at.session) (e ≡ delete_session_refused (written at.session.remote) CONTEXT_NOT_FOUND old) (λ linked.
      e ≡ answered request (Delete_session_response (delete_session_response_of old d at.session)) REQUEST_ACCEPTED (without_session old d.header)))

  -- A Delete Session Request.
  abbrev pub DeleteSessionAsked : Node → Effect → Type 0
  DeleteSessionAsked old e = UnlessFull DeleteSessionJudged old e

-- the request is a Create Bearer Request for the session that the response names
pub record FitsCreateBearer (p : PendingRequest) (x : CreateBearerResponse) : Type 0 where
  pub request : CreateBearerRequest
  pub asked : p.request ≡ Create_bearer_request request
  pub session : ℕ
  pub about : p.session ≡ Some session
  pub bearer : ℕ
  pub about_bearer : p.bearer ≡ Some bearer
  pub named : Named p x.header x.cause

-- an accepting response has one bearer context
pub record DescribesBearer (x : CreateBearerResponse) : Type 0 where
  pub context : GivenBearer
  pub alone : x.contexts ≡ context ∷ []

-- the bearer can be opened with the identity: 5 to 15, not in use in the session, which is not closing
pub record CanOpen (old : Node) (session identity : ℕ) : Type 0 where
  pub range : IsIdentity identity
  pub unused : IsUnused old session identity
  pub at : HasSession old session
  pub not_closing : at.session.state ≢ Closing

-- a dedicated bearer, opened by the response
abbrev pub opened_dedicated : Bearer → CreateBearerResponse → Bearer
opened_dedicated b x = record b { remote = first_given x.contexts; identity = first_identity x.contexts; state = Active }

-- The bearer is active, with its remote and identity.
pub record OpensBearer (old : Node) (x : CreateBearerResponse) (bearer : ℕ) (e : Effect) : Type 0 where
  pub at : HasBearer old bearer
  pub gives : e ≡ record {
    out = nothing;
    outcome = Came_to Opened;
    node = record old { bearers = insert old.bearers bearer (opened_dedicated at.bearer x); pending = remove old.pending x.number };
  }

-- A Create Bearer Response (7.2.4). What does not accept, or clashes, removes the pending bearer.
abbrev pub CreateBearerAnswered : CreateBearerResponse → Node → Effect → Type 0
CreateBearerAnswered x old e =
    Unless (HasPending old x.number) (e ≡ dropped old NoPending) (λ at.
    Unless (FitsCreateBearer at.pending x) (e ≡ dropped old Mismatch) (λ fits.
    Unless (IsAccepting x.cause) (e ≡ finishing old x.number at.pending (Rejected x.cause.value)) (λ accepts.
    Unless (DescribesBearer x) (e ≡ dropped old Mismatch) (λ new.
    Unless (IsAccepting new.context.cause) (e ≡ finishing old x.number at.pending (Rejected new.context.cause.value)) (λ all.
    Unless (teid_in new.context.packet_user ≡ Some fits.bearer) (e ≡ dropped old Mismatch) (λ returned.
    Unless (CanOpen old fits.session new.context.identity) (e ≡ finishing old x.number at.pending Clash) (λ can.
    OpensBearer old x fits.bearer e)))))))

-- the request is a Delete Bearer Request for the session that the response names
pub record FitsDeleteBearer (p : PendingRequest) (d : DeleteBearerResponse) : Type 0 where
  pub request : DeleteBearerRequest
  pub asked : p.request ≡ Delete_bearer_request request
  pub named : Named p d.header d.cause

-- A Delete Bearer Response (7.2.10.2): with any cause the closing session or bearer goes.
abbrev pub DeleteBearerAnswered : DeleteBearerResponse → Node → Effect → Type 0
DeleteBearerAnswered d old e = EndsRequest old d.number (λ at. FitsDeleteBearer at.pending d) Closed e

-- what the packet gateway does with a message of a kind that it takes, once the peer's counter was heard
abbrev pub PacketTakes : Arrival → Message → Node → Effect → Type 0
PacketTakes request (Echo_request q) old e = e ≡ echoed request q old
PacketTakes request (Echo_response a) old e = EchoAnswered a old e
PacketTakes request (Create_session_request q) old e = CreateSessionAsked request q old e
PacketTakes request (Delete_session_request d) old e = DeleteSessionAsked request d old e
PacketTakes request (Create_bearer_response x) old e = CreateBearerAnswered x old e
PacketTakes request (Delete_bearer_response d) old e = DeleteBearerAnswered d old e
PacketTakes request _ old e = e ≡ dropped old Unexpected
