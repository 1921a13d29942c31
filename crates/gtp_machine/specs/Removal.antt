-- How sessions and bearers go and close.
use Rattle.std.specs.Prelude.{ℕ, ◌==◌, ◌||◌, Option, Some, None, Bool, false, not}
use Rattle.std.specs.FinMap.{insert, remove}
use Rattle.gtp_values.specs.FiniteMap.{kept, changed}
use Rattle.gtp_machine.specs.Node.{Closing, Session, Bearer, PendingRequest, Node}
pub use Rattle.gtp_tables.specs.Contexts.{is_pending, is_opened}
pub use Rattle.gtp_tables.specs.Identity.{closing_bearer}

-- the test of what a request is about, where it is about something
abbrev pub on : (ℕ → Bool) → Option ℕ → Bool
on goes None = false
on goes (Some t) = goes t

-- Without some sessions and some bearers: bearers go with their session, and requests go with what they are about.
abbrev pub without : (ℕ → Bool) → (ℕ → Bool) → Node → Node
without session_goes bearer_goes node =
    record node {
      sessions = kept (λ t (s : Session). not (session_goes t)) node.sessions;
      bearers = kept (λ t (b : Bearer). not (bearer_goes t || session_goes b.session)) node.bearers;
      pending = kept (λ number (p : PendingRequest). not (on session_goes p.session || on bearer_goes p.bearer)) node.pending;
    }

-- without the session, its bearers and their requests
abbrev pub without_session : Node → ℕ → Node
without_session node session = without (λ t. t == session) (λ t. false) node

-- without the bearer and its requests
abbrev pub without_bearer : Node → ℕ → Node
without_bearer node bearer = without (λ t. false) (λ t. t == bearer) node

-- What a request was about goes, as it is finished: a bearer, else a session, else the request alone.
abbrev pub finished_about : Node → ℕ → Option ℕ → Option ℕ → Node
finished_about node number session (Some bearer) = without_bearer node bearer
finished_about node number (Some session) None = without_session node session
finished_about node number None None = record node { pending = remove node.pending number }

-- the request with this number is finished, and what it was about goes
abbrev pub finished : Node → ℕ → PendingRequest → Node
finished node number p = finished_about node number p.session p.bearer

-- the session, closing
abbrev pub closing_session : Session → Session
closing_session s = record s { state = Closing }

-- the session and its bearers are closing
abbrev pub session_closing : Node → ℕ → Session → Node
session_closing node session s =
    record node {
      sessions = insert node.sessions session (closing_session s);
      bearers = changed (closing_bearer session) node.bearers;
    }
