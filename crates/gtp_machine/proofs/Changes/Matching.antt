-- A pending request matches the session or bearer that it is about.
use Rattle.std.proofs.Common.{◌≡◌, ◌≢◌, ⊎_elim, ℕ, Some, sym, ◌∙◌, ap}
use Rattle.std.specs.FinMap.{get, insert}
use Rattle.gtp_values.specs.FiniteMap.{FiniteMap}
use Rattle.gtp_machine.specs.Message.{CreateSessionRequest, CreateBearerRequest, Create_session_request, Create_bearer_request}
use Rattle.gtp_machine.specs.Node.{Pending, Session, Bearer, PendingRequest, Node}
use Rattle.gtp_machine.proofs.Basics.FiniteMaps.{found-insert}
use Rattle.gtp_machine.proofs.Changes.Shrinking.{NodeShrinks}

-- the session of a Create Session Request is pending, and the bearer of a Create Bearer Request is of its session
pub record IsMatched (sessions : FiniteMap Session) (bearers : FiniteMap Bearer) (number : ℕ) (p : PendingRequest) : Type 0 where
  pub waits : (q : CreateSessionRequest) → p.request ≡ Create_session_request q → (s : Session) → get sessions q.control.teid ≡ Some s → s.state ≡ Pending
  pub numbered : (q : CreateSessionRequest) → p.request ≡ Create_session_request q → q.number ≡ number
  pub names_bearer : (r : CreateBearerRequest) → p.request ≡ Create_bearer_request r → p.bearer ≡ Some r.context.user.teid
  pub of_session : (r : CreateBearerRequest) → p.request ≡ Create_bearer_request r → (b : Bearer) → get bearers r.context.user.teid ≡ Some b → p.session ≡ Some b.session

pub IsMatched-shrinks : (old new : Node) → NodeShrinks old new → (number : ℕ) (p : PendingRequest) → IsMatched old.sessions old.bearers number p → IsMatched new.sessions new.bearers number p
IsMatched-shrinks old new shrinks number p m = record {
  waits = λ q is s stands. let was = shrinks.sessions q.control.teid s stands in was.same.waited (m.waits q is was.before was.stood);
  numbered = m.numbered;
  names_bearer = m.names_bearer;
  of_session = λ r is b stands. let was = shrinks.bearers r.context.user.teid b stands in m.of_session r is was.before was.stood ∙ ap (λ k. Some k) (sym was.same.session);
}

-- a session that comes or changes under another TEID
pub IsMatched-session : (sessions : FiniteMap Session) (bearers : FiniteMap Bearer) (key : ℕ) (s : Session) (number : ℕ) (p : PendingRequest)
    → ((q : CreateSessionRequest) → p.request ≡ Create_session_request q → q.control.teid ≢ key) → IsMatched sessions bearers number p
    → IsMatched (insert sessions key s) bearers number p
IsMatched-session sessions bearers key s number p apart m = record {
  waits = λ q is x stands. ⊎_elim (λ same. absurd (apart q is same.0)) (λ old. m.waits q is x old.1) (found-insert sessions key s q.control.teid x stands);
  numbered = m.numbered;
  names_bearer = m.names_bearer;
  of_session = m.of_session;
}

-- a bearer that comes under another TEID, or changes and stays with its session
pub IsMatched-bearer : (sessions : FiniteMap Session) (bearers : FiniteMap Bearer) (key : ℕ) (b : Bearer) (number : ℕ) (p : PendingRequest)
    → ((r : CreateBearerRequest) → p.request ≡ Create_bearer_request r → r.context.user.teid ≡ key → p.session ≡ Some b.session)
    → IsMatched sessions bearers number p → IsMatched sessions (insert bearers key b) number p
IsMatched-bearer sessions bearers key b number p stays m = record {
  waits = m.waits;
  numbered = m.numbered;
  names_bearer = m.names_bearer;
  of_session =
      λ r is x stands. ⊎_elim (λ same. stays r is same.0 ∙ ap (λ (k : Bearer). Some k.session) same.1) (λ old. m.of_session r is x old.1)
      (found-insert bearers key b r.context.user.teid x stands);
}
