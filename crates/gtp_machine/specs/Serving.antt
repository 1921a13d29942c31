-- The control plane of the serving gateway.
use Rattle.std.specs.Prelude.{◌≡◌, ◌≢◌, ℕ, ◌≤◌, ◌==◌, ◌&&◌, ◌||◌, List, [], ◌∷◌, Option, Some, None, Bool, true, false, length, if◌then◌else◌}
use Rattle.std.specs.FinMap.{insert, remove}
use Rattle.gtp_machine.specs.declared.interface_types.TheConstants.{S5S8_SGW_GTP_U}
use Rattle.gtp_machine.specs.declared.causes.TheConstants.{REQUEST_ACCEPTED, REQUEST_ACCEPTED_PARTIALLY, CONTEXT_NOT_FOUND}
use Rattle.gtp_machine.specs.declared.causes.TheConstants.{NO_RESOURCES_AVAILABLE, REQUEST_REJECTED}
use Rattle.gtp_machine.specs.declared.message_type.MessageType.TheVariants as types
use Rattle.gtp_machine.specs.Ordered.{Unless}
use Rattle.gtp_machine.specs.Element.{IsAccepting, PdnAddress, address_of, cause_of, teid_in, tunnel_end}
use Rattle.gtp_machine.specs.Message.{CreateSessionRequest, CreatedBearer, CreateSessionResponse, DeleteSessionRequest}
use Rattle.gtp_machine.specs.Message.{DeleteSessionResponse, CreateBearerRequest, CreateBearerResponse, DeleteBearerRequest, RemovedBearer}
use Rattle.gtp_machine.specs.Message.{DeleteBearerResponse, Message, Echo_request, Echo_response, Create_session_request}
use Rattle.gtp_machine.specs.Message.{Create_session_response, Delete_session_request, Delete_session_response, Create_bearer_request}
use Rattle.gtp_machine.specs.Message.{Create_bearer_response, Delete_bearer_request, Delete_bearer_response, first_created}
use Rattle.gtp_machine.specs.Node.{Pending, Active, Session, Bearer, Dedicated, PendingRequest, Arrival, Node, written}
use Rattle.gtp_machine.specs.Input.{Came_to, Effect, Opened, Closed, Rejected, nothing, dropped, NoPending, Mismatch, ContextNotActive, Unexpected}
use Rattle.gtp_machine.specs.Choice.{IsFree, HasDraws, IsFreeIdentity, HasFreeIdentity, HasSession, HasBearer, HasPending}
use Rattle.gtp_machine.specs.Removal.{without_session, without_bearer}
use Rattle.gtp_machine.specs.Response.{Named, finishing, EndsRequest, EchoAnswered}
use Rattle.gtp_machine.specs.Command.{NamesBearer}
use Rattle.gtp_machine.specs.Answer.{UnlessFull, answered, making, echoed, request_refused}

-- the request is a Create Session Request for the session that the response names
pub record FitsCreateSession (p : PendingRequest) (a : CreateSessionResponse) : Type 0 where
  pub request : CreateSessionRequest
  pub asked : p.request ≡ Create_session_request request
  pub session : ℕ
  pub about : p.session ≡ Some session
  pub named : Named p a.header a.cause

-- an accepting response has one bearer context, of the session's default identity, and an address
pub record DescribesSession (old : Node) (session : ℕ) (a : CreateSessionResponse) : Type 0 where
  pub at : HasSession old session
  pub context : CreatedBearer
  pub alone : a.contexts ≡ context ∷ []
  pub default : context.identity ≡ at.session.subscriber.identity
  pub address : PdnAddress
  pub given : address_of a.address ≡ Some address

-- the session, opened by the response
abbrev pub opened_session : Session → CreateSessionResponse → PdnAddress → Session
opened_session s a address = record s { remote = teid_in a.control; address = Some address; state = Active }

-- its default bearer
abbrev pub opened_bearer : Bearer → CreateSessionResponse → Bearer
opened_bearer b a = record b { remote = first_created a.contexts; state = Active }

-- The session and its default bearer are active, with their remotes and the address.
pub record OpensSession
    (old : Node) (a : CreateSessionResponse) (q : CreateSessionRequest) (session : ℕ) (s : Session) (address : PdnAddress) (e : Effect)
    : Type 0 where
  pub default : HasBearer old q.context.user.teid
  pub gives : e ≡ record {
    out = nothing;
    outcome = Came_to Opened;
    node = record old {
      sessions = insert old.sessions session (opened_session s a address);
      bearers = insert old.bearers q.context.user.teid (opened_bearer default.bearer a);
      pending = remove old.pending a.number;
    };
  }

-- A Create Session Response (7.2.2). What does not accept removes the pending session.
abbrev pub CreateSessionAnswered : CreateSessionResponse → Node → Effect → Type 0
CreateSessionAnswered a old e =
    Unless (HasPending old a.number) (e ≡ dropped old NoPending) (λ at.
    Unless (FitsCreateSession at.pending a) (e ≡ dropped old Mismatch) (λ fits.
    Unless (IsAccepting a.cause) (e ≡ finishing old a.number at.pending (Rejected a.cause.value)) (λ accepts.
    Unless (DescribesSession old fits.session a) (e ≡ dropped old Mismatch) (λ new.
    Unless (IsAccepting new.context.cause) (e ≡ finishing old a.number at.pending (Rejected new.context.cause.value)) (λ both.
    OpensSession old a fits.request fits.session new.at.session new.address e)))))

-- the request is a Delete Session Request for the session that the response names
pub record FitsDeleteSession (p : PendingRequest) (d : DeleteSessionResponse) : Type 0 where
  pub request : DeleteSessionRequest
  pub asked : p.request ≡ Delete_session_request request
  pub named : Named p d.header d.cause

-- A Delete Session Response (7.2.10.1): with any cause the closing session goes.
abbrev pub DeleteSessionAnswered : DeleteSessionResponse → Node → Effect → Type 0
DeleteSessionAnswered d old e = EndsRequest old d.number (λ at. FitsDeleteSession at.pending d) Closed e

-- the answer that makes a bearer: any free TEID and any free identity, and the request's F-TEID as it came
abbrev pub bearer_response : Node → CreateBearerRequest → Session → ℕ → ℕ → CreateBearerResponse
bearer_response node r s user identity =
    record {
      header = written s.remote;
      number = r.number;
      cause = cause_of REQUEST_ACCEPTED;
      contexts = record {
        identity = identity;
        cause = cause_of REQUEST_ACCEPTED;
        serving_user = Some (tunnel_end S5S8_SGW_GTP_U user node.config.own.user);
        packet_user = Some r.context.user;
      } ∷ [];
      recovery = Some node.counter;
    }

-- a dedicated bearer of the serving gateway, active at once
abbrev pub granted_bearer : CreateBearerRequest → ℕ → Bearer
granted_bearer r identity = record {
  remote = Some r.context.user.teid;
  session = r.header;
  identity = Some identity;
  kind = Dedicated;
  state = Active;
  ended = false;
}

-- A bearer is made in an active session: a draw, an active bearer, and the answer, which is held.
pub record MakesBearer (request : Arrival) (old : Node) (r : CreateBearerRequest) (s : Session) (e : Effect) : Type 0 where
  pub user : ℕ
  pub identity : ℕ
  pub user_free : IsFree old user
  pub identity_free : IsFreeIdentity old r.header identity
  pub gives : e ≡ making request (Create_bearer_response (bearer_response old r s user identity) ∷ []) REQUEST_ACCEPTED
      (record old { drawn = user ∷ old.drawn; bearers = insert old.bearers user (granted_bearer r identity) })

-- the refusal for want of an identity or a TEID has a context with the packet gateway's F-TEID
abbrev pub no_resources : Node → CreateBearerRequest → ℕ → CreateBearerResponse
no_resources node r header =
    record {
      header = header;
      number = r.number;
      cause = cause_of NO_RESOURCES_AVAILABLE;
      contexts = record { identity = 0; cause = cause_of NO_RESOURCES_AVAILABLE; serving_user = None; packet_user = Some r.context.user } ∷ [];
      recovery = Some node.counter;
    }

module _ (request : Arrival) (r : CreateBearerRequest) where
  -- refused with this cause: the response goes to this TEID, and nothing changes
  abbrev pub bearer_refused : ℕ → ℕ → Node → Effect
  bearer_refused header cause old = request_refused request types.CreateBearerRequest header r.number (cause_of cause) old

  -- refused for want of an identity or a TEID
  abbrev pub resources_refused : ℕ → Node → Effect
  resources_refused header old = answered request (Create_bearer_response (no_resources old r header)) NO_RESOURCES_AVAILABLE old

  -- A Create Bearer Request (7.2.3) whose answer can be held, with its refusals in their order.
  abbrev pub BearerJudged : Node → Effect → Type 0
  BearerJudged old e =
      Unless (HasSession old r.header) (e ≡ bearer_refused 0 CONTEXT_NOT_FOUND old) (λ at.
      Unless (at.session.state ≡ Active) (e ≡ dropped old ContextNotActive) (λ active.
      Unless (r.further ≡ []) (e ≡ bearer_refused (written at.session.remote) REQUEST_REJECTED old) (λ one.
      Unless (r.linked ≡ at.session.subscriber.identity) (e ≡ bearer_refused (written at.session.remote) CONTEXT_NOT_FOUND old) (λ linked.
      Unless (HasFreeIdentity old r.header × HasDraws old 1) (e ≡ resources_refused (written at.session.remote) old) (λ free.
      MakesBearer request old r at.session e)))))

  -- A Create Bearer Request.
  abbrev pub CreateBearerAsked : Node → Effect → Type 0
  CreateBearerAsked old e = UnlessFull BearerJudged old e

-- Each identity in turn: the session's dedicated bearer that has it is removed, and its context says so or that there is none.
abbrev pub RemovesEach : ℕ → List ℕ → Node → List RemovedBearer → Node → Type 0
RemovesEach session [] old contexts new = (contexts ≡ []) × (new ≡ old)
RemovesEach session (identity ∷ rest) old contexts new =
    (others : List RemovedBearer) ×
    Unless (NamesBearer old session identity)
    ((contexts ≡ record { identity = identity; cause = cause_of CONTEXT_NOT_FOUND } ∷ others) × RemovesEach session rest old others new) (λ named.
    (contexts ≡ record { identity = identity; cause = cause_of REQUEST_ACCEPTED } ∷ others) ×
    RemovesEach session rest (without_bearer old named.key) others new)

-- each context says that its bearer was removed
abbrev pub all_removed : List RemovedBearer → Bool
all_removed [] = true
all_removed (context ∷ rest) = (context.cause.value == REQUEST_ACCEPTED) && all_removed rest

-- some context says that its bearer was removed
abbrev pub any_removed : List RemovedBearer → Bool
any_removed [] = false
any_removed (context ∷ rest) = (context.cause.value == REQUEST_ACCEPTED) || any_removed rest

-- the cause of the response: all were removed, some were, or none was
abbrev pub delete_bearer_cause : List RemovedBearer → ℕ
delete_bearer_cause contexts =
    if all_removed contexts then REQUEST_ACCEPTED
    else if any_removed contexts then REQUEST_ACCEPTED_PARTIALLY
    else CONTEXT_NOT_FOUND

-- the response about all bearers of the session, and the one about those of a list, with these contexts
abbrev pub session_removed : Node → DeleteBearerRequest → Session → ℕ → DeleteBearerResponse
session_removed node d s identity = record {
  header = written s.remote;
  number = d.number;
  cause = cause_of REQUEST_ACCEPTED;
  linked = Some identity;
  contexts = [];
  recovery = Some node.counter;
}

abbrev pub bearers_removed : Node → DeleteBearerRequest → Session → List RemovedBearer → DeleteBearerResponse
bearers_removed node d s contexts = record {
  header = written s.remote;
  number = d.number;
  cause = cause_of (delete_bearer_cause contexts);
  linked = None;
  contexts = contexts;
  recovery = Some node.counter;
}

-- Dedicated bearers are removed as the packet gateway asks, and the answer is held.
pub record RemovesBearers (request : Arrival) (d : DeleteBearerRequest) (old : Node) (s : Session) (e : Effect) : Type 0 where
  pub contexts : List RemovedBearer
  pub left : Node
  pub removes : RemovesEach d.header d.identities old contexts left
  pub gives : e ≡ answered request (Delete_bearer_response (bearers_removed old d s contexts)) (delete_bearer_cause contexts) left

module _ (request : Arrival) (d : DeleteBearerRequest) where
  -- refused with this cause: the response goes to this TEID, and nothing changes
  abbrev pub delete_bearer_refused : ℕ → ℕ → Node → Effect
  delete_bearer_refused header cause old = request_refused request types.DeleteBearerRequest header d.number (cause_of cause) old

  -- with a linked identity the session is removed, and else the bearers of the list, at most 11
  abbrev pub DeleteBearerTaken : Option ℕ → Node → Session → Effect → Type 0
  DeleteBearerTaken (Some identity) old s e =
      Unless (identity ≡ s.subscriber.identity) (e ≡ delete_bearer_refused (written s.remote) CONTEXT_NOT_FOUND old) (λ linked.
      e ≡ answered request (Delete_bearer_response (session_removed old d s identity)) REQUEST_ACCEPTED (without_session old d.header))
  DeleteBearerTaken None old s e =
      Unless (length d.identities ≤ 11) (e ≡ delete_bearer_refused (written s.remote) REQUEST_REJECTED old) (λ few.
      RemovesBearers request d old s e)

  -- A Delete Bearer Request (7.2.9.2) whose answer can be held, with its refusals in their order.
  abbrev pub DeleteBearerJudged : Node → Effect → Type 0
  DeleteBearerJudged old e =
      Unless (HasSession old d.header) (e ≡ delete_bearer_refused 0 CONTEXT_NOT_FOUND old) (λ at.
      Unless (at.session.state ≢ Pending) (e ≡ dropped old ContextNotActive) (λ opened.
      DeleteBearerTaken d.linked old at.session e))

  -- A Delete Bearer Request.
  abbrev pub DeleteBearerAsked : Node → Effect → Type 0
  DeleteBearerAsked old e = UnlessFull DeleteBearerJudged old e

-- what the serving gateway does with a message of a kind that it takes, once the peer's counter was heard
abbrev pub ServingTakes : Arrival → Message → Node → Effect → Type 0
ServingTakes request (Echo_request q) old e = e ≡ echoed request q old
ServingTakes request (Echo_response a) old e = EchoAnswered a old e
ServingTakes request (Create_session_response a) old e = CreateSessionAnswered a old e
ServingTakes request (Delete_session_response d) old e = DeleteSessionAnswered d old e
ServingTakes request (Create_bearer_request r) old e = CreateBearerAsked request r old e
ServingTakes request (Delete_bearer_request d) old e = DeleteBearerAsked request d old e
ServingTakes request _ old e = e ≡ dropped old Unexpected
