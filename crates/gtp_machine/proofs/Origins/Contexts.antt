-- What each session and bearer goes back to.
use Rattle.std.proofs.Common.{◌≡◌, ◌≢◌, ◌⊎◌, inl, inr, ⊎_elim, ℕ, List, Some, refl, sym, ◌∙◌, ap, arith}
use Rattle.std.specs.FinMap.{get, insert}
use Rattle.gtp_values.specs.FiniteMap.{FiniteMap, Each}
use Rattle.gtp_machine.specs.Element.{teid_in, address_of}
use Rattle.gtp_machine.specs.Message.{CreateSessionRequest, CreateSessionResponse, CreateBearerRequest, CreateBearerResponse, Create_session_request}
use Rattle.gtp_machine.specs.Message.{Create_session_response, Create_bearer_request, Create_bearer_response, subscriber_of, first_created}
use Rattle.gtp_machine.specs.Message.{first_given, first_returned, first_identity}
use Rattle.gtp_machine.specs.Node.{Serving, Packet, Pending, Active, Closing, Session, Bearer, Default, Dedicated}
use Rattle.gtp_machine.specs.World.{Sent, HasSent}
use Rattle.gtp_machine.specs.Laws.{ClosesWhole}
use Rattle.gtp_machine.proofs.Basics.FiniteMaps.{Each-weaker, found-insert}
use Rattle.gtp_machine.proofs.Origins.Drawing.{Extends}

-- the response that opened a session of the serving gateway
pub record IsOpened (history : List Sent) (t : ℕ) (s : Session) : Type 0 where
  pub answer : CreateSessionResponse
  pub sent : HasSent history Packet (Create_session_response answer)
  pub header : answer.header ≡ t
  pub remote : s.remote ≡ teid_in answer.control
  pub address : s.address ≡ address_of answer.address

-- a session of the serving gateway
pub record IsAsked (history : List Sent) (t : ℕ) (s : Session) : Type 0 where
  pub request : CreateSessionRequest
  pub sent : HasSent history Serving (Create_session_request request)
  pub control : request.control.teid ≡ t
  pub subscriber : s.subscriber ≡ subscriber_of request
  pub opened : (r : ℕ) → s.remote ≡ Some r → IsOpened history t s

-- the response that opened a default bearer of the serving gateway, with its session
pub record IsOpenedWith (history : List Sent) (b : Bearer) (s : Session) : Type 0 where
  pub answer : CreateSessionResponse
  pub sent : HasSent history Packet (Create_session_response answer)
  pub header : answer.header ≡ b.session
  pub control : s.remote ≡ teid_in answer.control
  pub user : b.remote ≡ first_created answer.contexts
  pub not_pending : s.state ≢ Pending

-- a default bearer of the serving gateway
pub record IsAskedWith (history : List Sent) (t : ℕ) (b : Bearer) (s : Session) : Type 0 where
  pub kind : b.kind ≡ Default
  pub request : CreateSessionRequest
  pub sent : HasSent history Serving (Create_session_request request)
  pub user : request.context.user.teid ≡ t
  pub control : request.control.teid ≡ b.session
  pub identity : b.identity ≡ Some request.context.identity
  pub opened : (r : ℕ) → b.remote ≡ Some r → IsOpenedWith history b s

-- a dedicated bearer of the serving gateway
pub record IsGranted (history : List Sent) (t : ℕ) (b : Bearer) (s : Session) : Type 0 where
  pub kind : b.kind ≡ Dedicated
  pub request : CreateBearerRequest
  pub asked : HasSent history Packet (Create_bearer_request request)
  pub remote : b.remote ≡ Some request.context.user.teid
  pub to_session : request.header ≡ b.session
  pub answer : CreateBearerResponse
  pub answered : HasSent history Serving (Create_bearer_response answer)
  pub user : first_given answer.contexts ≡ Some t
  pub echoed : first_returned answer.contexts ≡ Some request.context.user.teid
  pub identity : b.identity ≡ first_identity answer.contexts
  pub header : s.remote ≡ Some answer.header
  pub not_pending : s.state ≢ Pending

-- a bearer, its session, and what both go back to
pub record IsAt (Origin : ℕ → Bearer → Session → Type 0) (sessions : FiniteMap Session) (t : ℕ) (b : Bearer) : Type 0 where
  pub session : Session
  pub stands : get sessions b.session ≡ Some session
  pub origin : Origin t b session

-- a bearer of the serving gateway, and its session
abbrev pub IsAtServing : List Sent → FiniteMap Session → ℕ → Bearer → Type 0
IsAtServing history = IsAt (λ t b s. IsAskedWith history t b s ⊎ IsGranted history t b s)

-- a session of the packet gateway
pub record IsMade (history : List Sent) (t : ℕ) (s : Session) : Type 0 where
  pub request : CreateSessionRequest
  pub asked : HasSent history Serving (Create_session_request request)
  pub answer : CreateSessionResponse
  pub answered : HasSent history Packet (Create_session_response answer)
  pub control : teid_in answer.control ≡ Some t
  pub header : answer.header ≡ request.control.teid
  pub remote : s.remote ≡ Some request.control.teid
  pub subscriber : s.subscriber ≡ subscriber_of request
  pub address : s.address ≡ address_of answer.address

-- a default bearer of the packet gateway
pub record IsMadeWith (history : List Sent) (t : ℕ) (b : Bearer) : Type 0 where
  pub kind : b.kind ≡ Default
  pub request : CreateSessionRequest
  pub asked : HasSent history Serving (Create_session_request request)
  pub answer : CreateSessionResponse
  pub answered : HasSent history Packet (Create_session_response answer)
  pub user : first_created answer.contexts ≡ Some t
  pub control : teid_in answer.control ≡ Some b.session
  pub header : answer.header ≡ request.control.teid
  pub remote : b.remote ≡ Some request.context.user.teid
  pub identity : b.identity ≡ Some request.context.identity

-- the response that opened a dedicated bearer of the packet gateway
pub record IsGivenBack (history : List Sent) (t : ℕ) (b : Bearer) : Type 0 where
  pub answer : CreateBearerResponse
  pub sent : HasSent history Serving (Create_bearer_response answer)
  pub header : answer.header ≡ b.session
  pub echoed : first_returned answer.contexts ≡ Some t
  pub remote : b.remote ≡ first_given answer.contexts
  pub identity : b.identity ≡ first_identity answer.contexts

-- a dedicated bearer of the packet gateway; `made` is the response that made its session
pub record IsWanted (history : List Sent) (t : ℕ) (b : Bearer) : Type 0 where
  pub kind : b.kind ≡ Dedicated
  pub request : CreateBearerRequest
  pub asked : HasSent history Packet (Create_bearer_request request)
  pub user : request.context.user.teid ≡ t
  pub made : CreateSessionResponse
  pub answered : HasSent history Packet (Create_session_response made)
  pub control : teid_in made.control ≡ Some b.session
  pub header : request.header ≡ made.header
  pub opened : (r : ℕ) → b.remote ≡ Some r → IsGivenBack history t b

-- a bearer of the packet gateway, and its session
abbrev pub IsAtPacket : List Sent → FiniteMap Session → ℕ → Bearer → Type 0
IsAtPacket history = IsAt (λ t b s. IsMadeWith history t b ⊎ IsWanted history t b)

-- what holds of the sessions and bearers of the serving gateway
pub record ServingContexts (history : List Sent) (sessions : FiniteMap Session) (bearers : FiniteMap Bearer) : Type 0 where
  pub sessions_asked : Each (IsAsked history) sessions
  pub bearers_asked : Each (IsAtServing history sessions) bearers

-- what holds of the sessions and bearers of the packet gateway
pub record PacketContexts (history : List Sent) (sessions : FiniteMap Session) (bearers : FiniteMap Bearer) : Type 0 where
  pub sessions_made : Each (IsMade history) sessions
  pub bearers_made : Each (IsAtPacket history sessions) bearers

-- what goes back to one goes back to the other
IsAt-weaker : (First Second : ℕ → Bearer → Session → Type 0) → ((t : ℕ) (b : Bearer) (s : Session) → First t b s → Second t b s)
    → (sessions : FiniteMap Session) (bearers : FiniteMap Bearer) → Each (IsAt First sessions) bearers → Each (IsAt Second sessions) bearers
IsAt-weaker First Second goes sessions bearers each t b e = let at = each t b e in record { session = at.session; stands = at.stands; origin = goes t b at.session at.origin }

module _ (before after : List Sent) (extends : Extends before after) where
  IsAsked-later : (t : ℕ) (s : Session) → IsAsked before t s → IsAsked after t s
  IsAsked-later t s a =
      record {
        request = a.request;
        sent = extends.keeps Serving _ a.sent;
        control = a.control;
        subscriber = a.subscriber;
        opened = λ r e. let o = a.opened r e in search (extends.keeps);
      }

  IsAskedWith-later : (t : ℕ) (b : Bearer) (s : Session) → IsAskedWith before t b s → IsAskedWith after t b s
  IsAskedWith-later t b s a =
      record {
        kind = a.kind;
        request = a.request;
        sent = extends.keeps Serving _ a.sent;
        user = a.user;
        control = a.control;
        identity = a.identity;
        opened = λ r e. let o = a.opened r e in search (extends.keeps);
      }

  IsWanted-later : (t : ℕ) (b : Bearer) → IsWanted before t b → IsWanted after t b
  IsWanted-later t b w =
      record {
        kind = w.kind;
        request = w.request;
        asked = extends.keeps Packet _ w.asked;
        user = w.user;
        made = w.made;
        answered = extends.keeps Packet _ w.answered;
        control = w.control;
        header = w.header;
        opened = λ r e. let g = w.opened r e in search (extends.keeps);
      }

  pub ServingContexts-later : (sessions : FiniteMap Session) (bearers : FiniteMap Bearer) → ServingContexts before sessions bearers → ServingContexts after sessions bearers
  ServingContexts-later sessions bearers c = record {
    sessions_asked = Each-weaker (IsAsked before) (IsAsked after) sessions IsAsked-later c.sessions_asked;
    bearers_asked = IsAt-weaker _ _ (λ t b s. ⊎_elim (λ o. inl (IsAskedWith-later t b s o)) (λ o. inr (search (extends.keeps)))) sessions bearers c.bearers_asked;
  }

  pub PacketContexts-later : (sessions : FiniteMap Session) (bearers : FiniteMap Bearer) → PacketContexts before sessions bearers → PacketContexts after sessions bearers
  PacketContexts-later sessions bearers c = record {
    sessions_made = Each-weaker (IsMade before) (IsMade after) sessions (λ t s m. search (extends.keeps)) c.sessions_made;
    bearers_made = IsAt-weaker _ _ (λ t b s. ⊎_elim (λ o. inl (search (extends.keeps))) (λ o. inr (IsWanted-later t b o))) sessions bearers c.bearers_made;
  }

-- the session is as before, but for closing
pub record IsSame (old new : Session) : Type 0 where
  pub remote : new.remote ≡ old.remote
  pub subscriber : new.subscriber ≡ old.subscriber
  pub address : new.address ≡ old.address
  pub waits : new.state ≡ Pending → old.state ≡ Pending
  pub waited : old.state ≡ Pending → new.state ≡ Pending

-- the bearer is as before, but for closing and End Markers
pub record IsSameBearer (old new : Bearer) : Type 0 where
  pub remote : new.remote ≡ old.remote
  pub session : new.session ≡ old.session
  pub identity : new.identity ≡ old.identity
  pub kind : new.kind ≡ old.kind
  pub active : new.state ≡ Active → old.state ≡ Active
  pub closing : old.state ≡ Closing → new.state ≡ Closing

pub record WasSession (old : FiniteMap Session) (t : ℕ) (new : Session) : Type 0 where
  pub before : Session
  pub stood : get old t ≡ Some before
  pub same : IsSame before new

pub record StaysSession (new : FiniteMap Session) (t : ℕ) (old : Session) : Type 0 where
  pub after : Session
  pub stands : get new t ≡ Some after
  pub same : IsSame old after

pub record WasBearer (old : FiniteMap Bearer) (old_sessions new_sessions : FiniteMap Session) (t : ℕ) (new : Bearer) : Type 0 where
  pub before : Bearer
  pub stood : get old t ≡ Some before
  pub same : IsSameBearer before new
  pub session : (s : Session) → get old_sessions before.session ≡ Some s → StaysSession new_sessions before.session s

-- Sessions and bearers go or close, and none comes or opens.
pub record Shrinks (old_sessions : FiniteMap Session) (old_bearers : FiniteMap Bearer) (new_sessions : FiniteMap Session) (new_bearers : FiniteMap Bearer) : Type 0 where
  pub sessions : (t : ℕ) (s : Session) → get new_sessions t ≡ Some s → WasSession old_sessions t s
  pub bearers : (t : ℕ) (b : Bearer) → get new_bearers t ≡ Some b → WasBearer old_bearers old_sessions new_sessions t b
  pub closed : (t : ℕ) (b : Bearer) (s : Session) → get new_bearers t ≡ Some b → get new_sessions b.session ≡ Some s → s.state ≡ Closing
      → (b.state ≡ Closing) ⊎ ((o : Session) × (get old_sessions b.session ≡ Some o) × (o.state ≡ Closing))

pub IsSame-itself : (s : Session) → IsSame s s
IsSame-itself s = record { remote = refl; subscriber = refl; address = refl; waits = λ h. h; waited = λ h. h }

pub IsSameBearer-itself : (b : Bearer) → IsSameBearer b b
IsSameBearer-itself b = record { remote = refl; session = refl; identity = refl; kind = refl; active = λ h. h; closing = λ h. h }

module _ (history : List Sent) (old_sessions : FiniteMap Session) (old_bearers : FiniteMap Bearer) (new_sessions : FiniteMap Session)
    (new_bearers : FiniteMap Bearer) (shrinks : Shrinks old_sessions old_bearers new_sessions new_bearers) where
  asked_same : (t : ℕ) (old new : Session) → IsSame old new → IsAsked history t old → IsAsked history t new
  asked_same t old new same a = record {
    request = a.request;
    sent = a.sent;
    control = a.control;
    subscriber = cc;
    opened = λ r e. opened_same (a.opened r (sym same.remote ∙ e));
  }
    where
      opened_same : IsOpened history t old → IsOpened history t new
      opened_same o = record { answer = o.answer; sent = o.sent; header = o.header; remote = same.remote ∙ o.remote; address = same.address ∙ o.address }

  asked_with_same : (t : ℕ) (old new : Bearer) (s n : Session) → IsSameBearer old new → IsSame s n → IsAskedWith history t old s → IsAskedWith history t new n
  asked_with_same t old new s n bearer session a =
      record {
        kind = cc;
        request = a.request;
        sent = a.sent;
        user = a.user;
        control = cc;
        identity = cc;
        opened = λ r e. let o = a.opened r (sym bearer.remote ∙ e) in grind arith;
      }

  wanted_same : (t : ℕ) (old new : Bearer) → IsSameBearer old new → IsWanted history t old → IsWanted history t new
  wanted_same t old new bearer w =
      record {
        kind = cc;
        request = w.request;
        asked = w.asked;
        user = w.user;
        made = w.made;
        answered = w.answered;
        control = cc;
        header = w.header;
        opened = λ r e. let g = w.opened r (sym bearer.remote ∙ e) in grind arith;
      }

  at_same : (Origin : ℕ → Bearer → Session → Type 0)
      → ((t : ℕ) (old new : Bearer) (s n : Session) → IsSameBearer old new → IsSame s n → Origin t old s → Origin t new n)
      → Each (IsAt Origin old_sessions) old_bearers → Each (IsAt Origin new_sessions) new_bearers
  at_same Origin goes each t b e =
      let was = shrinks.bearers t b e in
      let at = each t was.before was.stood in
      let stays = was.session at.session at.stands in
      record { session = stays.after; stands = ap (λ k. get new_sessions k) was.same.session ∙ stays.stands; origin = goes t was.before b at.session stays.after was.same stays.same at.origin }

  -- what shrinks goes back to the same messages
  pub ServingContexts-shrinks : ServingContexts history old_sessions old_bearers → ServingContexts history new_sessions new_bearers
  ServingContexts-shrinks c = record {
    sessions_asked = λ t s e. let was = shrinks.sessions t s e in asked_same t was.before s was.same (c.sessions_asked t was.before was.stood);
    bearers_asked = at_same _ (λ t old new s n bearer session. ⊎_elim (λ o. inl (asked_with_same t old new s n bearer session o)) (λ o. inr (grind arith))) c.bearers_asked;
  }

  pub PacketContexts-shrinks : PacketContexts history old_sessions old_bearers → PacketContexts history new_sessions new_bearers
  PacketContexts-shrinks c = record {
    sessions_made = λ t s e. let was = shrinks.sessions t s e in let m = c.sessions_made t was.before was.stood in grind arith;
    bearers_made = at_same _ (λ t old new s n bearer session. ⊎_elim (λ o. inl (grind arith)) (λ o. inr (wanted_same t old new bearer o))) c.bearers_made;
  }

-- what shrinks still closes as a whole
pub closes-shrinks : (old_sessions : FiniteMap Session) (old_bearers : FiniteMap Bearer) (new_sessions : FiniteMap Session) (new_bearers : FiniteMap Bearer)
    → Shrinks old_sessions old_bearers new_sessions new_bearers → ClosesWhole old_sessions old_bearers → ClosesWhole new_sessions new_bearers
closes-shrinks old_sessions old_bearers new_sessions new_bearers shrinks whole t b s b_at s_at closing = ⊎_elim
    (λ is. is)
    (λ stood. let was = shrinks.bearers t b b_at in was.same.closing (whole t was.before stood.0 was.stood (ap (λ k. get old_sessions k) (sym was.same.session) ∙ stood.1) stood.2))
    (shrinks.closed t b s b_at s_at closing)

-- a session that is not closing comes, or takes the place of another
pub closes-session : (sessions : FiniteMap Session) (bearers : FiniteMap Bearer) (key : ℕ) (n : Session) → (n.state ≡ Closing → ⊥) → ClosesWhole sessions bearers
    → ClosesWhole (insert sessions key n) bearers
closes-session sessions bearers key n unclosed whole t b s b_at s_at closing = ⊎_elim
    (λ same. absurd (unclosed (ap (λ (k : Session). k.state) same.1 ∙ closing)))
    (λ old. whole t b s b_at old.1 closing)
    (found-insert sessions key n b.session s s_at)

-- a bearer comes, or changes, in a session that is not closing
pub closes-bearer : (sessions : FiniteMap Session) (bearers : FiniteMap Bearer) (key : ℕ) (n : Bearer)
    → ((s : Session) → get sessions n.session ≡ Some s → s.state ≡ Closing → ⊥) → ClosesWhole sessions bearers
    → ClosesWhole sessions (insert bearers key n)
closes-bearer sessions bearers key n unclosed whole t b s b_at s_at closing = ⊎_elim
    (λ same. absurd (unclosed s (ap (λ (k : Bearer). get sessions k.session) same.1 ∙ s_at) closing))
    (λ old. whole t b s old.1 s_at closing)
    (found-insert bearers key n t b b_at)
