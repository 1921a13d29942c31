-- What a step of a gateway leaves, and the steps by which sessions and bearers only go or close.
use Rattle.std.proofs.Common.{◌≡◌, ◌≢◌, inl, inr, ⊎_elim, ℕ, List, [], ◌∷◌, ◌++◌, Option, Some, None, false, refl, sym, ◌∙◌, subst}
use Rattle.std.specs.FinMap.{insert, get}
use Rattle.gtp_values.specs.Counter.{age_of}
use Rattle.gtp_values.specs.declared.counter.Age.{Age}
use Rattle.gtp_values.specs.declared.counter.Age.TheVariants.{Same, Later, Earlier}
use Rattle.gtp_values.specs.declared.address.Endpoint.{Endpoint}
use Rattle.gtp_values.specs.FiniteMap.{FiniteMap, Each, Among}
use Rattle.gtp_machine.specs.Config.{control_end}
use Rattle.gtp_machine.specs.Message.{CreateSessionRequest, CreateBearerRequest, Message, Create_session_request, Create_session_response, Create_bearer_request, Owns, recovery_of}
use Rattle.gtp_machine.specs.Node.{Role, Serving, Packet, Pending, Active, Session, Bearer, PendingRequest, Arrival, Held, Node, holding}
use Rattle.gtp_machine.specs.Input.{Came_to, EventOutcome, Begun, Answered, Effect, nothing, says_all, says, messages, datagrams}
use Rattle.gtp_machine.specs.Choice.{IsFree, counter_of}
use Rattle.gtp_machine.specs.Command.{asks}
use Rattle.gtp_machine.specs.Answer.{answered}
use Rattle.gtp_machine.specs.World.{other, Sent, HasSent, signed}
use Rattle.gtp_machine.specs.Laws.{ClosesWhole}
use Rattle.gtp_machine.proofs.Basics.FiniteMaps.{Each-insert, Each-weaker, get-insert_other, Among-left, Among-one_more}
use Rattle.gtp_machine.proofs.Origins.Drawing.{Extends, Extends-signed, Draws, Draws-nothing, Draws-one, Draws-again, pair_apart, IsMadeNow, by_now}
use Rattle.gtp_machine.proofs.Origins.Contexts.{IsAt, ServingContexts, ServingContexts-later, ServingContexts-shrinks, PacketContexts, PacketContexts-later, PacketContexts-shrinks, closes-shrinks}
use Rattle.gtp_machine.proofs.Changes.Shrinking.{NodeShrinks, Shrunk, Shrunk-itself}
use Rattle.gtp_machine.proofs.Changes.Matching.{IsMatched, IsMatched-shrinks, IsMatched-session, IsMatched-bearer}
use Rattle.gtp_machine.proofs.Changes.Steps.{Logs, Logs-silent, Logs-plain, Logs-repeat, Logs-again, IsPlain, NothingOwns}
use Rattle.gtp_machine.proofs.Basics.Kinds.{is_create_answer}
use Rattle.gtp_machine.proofs.Basics.Datagrams.{IsFew, AreFew, IsSentWhole}
use Rattle.gtp_machine.proofs.Origins.Entries.{Once}
use Rattle.gtp_values.proofs.Outcomes.{none_some}

-- what holds of the sessions and bearers of a gateway
abbrev pub Contexts : Role → List Sent → FiniteMap Session → FiniteMap Bearer → Type 0
Contexts Serving history sessions bearers = ServingContexts history sessions bearers
Contexts Packet history sessions bearers = PacketContexts history sessions bearers

pub Contexts-later : (role : Role) (before after : List Sent) → Extends before after → (sessions : FiniteMap Session) (bearers : FiniteMap Bearer)
    → Contexts role before sessions bearers → Contexts role after sessions bearers
Contexts-later Serving before after extends sessions bearers c = ServingContexts-later before after extends sessions bearers c
Contexts-later Packet before after extends sessions bearers c = PacketContexts-later before after extends sessions bearers c

pub Contexts-shrinks : (role : Role) (history : List Sent) (old new : Node) → NodeShrinks old new → Contexts role history old.sessions old.bearers → Contexts role history new.sessions new.bearers
Contexts-shrinks Serving history old new shrinks c = ServingContexts-shrinks history old.sessions old.bearers new.sessions new.bearers shrinks c
Contexts-shrinks Packet history old new shrinks c = PacketContexts-shrinks history old.sessions old.bearers new.sessions new.bearers shrinks c

-- a pending request was sent, names the session that it is about, and is no response
pub record IsPending (history : List Sent) (role : Role) (number : ℕ) (p : PendingRequest) : Type 0 where
  pub sent : HasSent history role p.request
  pub names : (q : CreateSessionRequest) → p.request ≡ Create_session_request q → p.session ≡ Some q.control.teid
  pub asks : is_create_answer p.request ≡ false

-- a session has a remote once it was opened, by the start of the peer that is known
pub record IsStanding (known : Option ℕ) (t : ℕ) (s : Session) : Type 0 where
  pub current : (r : ℕ) → s.remote ≡ Some r → known ≡ Some (counter_of r)
  pub blank : s.state ≡ Pending → s.remote ≡ None
  pub named : s.state ≢ Pending → (r : ℕ) × (s.remote ≡ Some r)

-- an active bearer has a remote
abbrev pub IsReady : ℕ → Bearer → Type 0
IsReady t b = b.state ≡ Active → (r : ℕ) × (b.remote ≡ Some r)

-- what a gateway has is in what was sent
pub record Knows (role : Role) (history : List Sent) (node : Node) : Type 0 where
  pub contexts : Contexts role history node.sessions node.bearers
  pub drawn : Each (λ t (s : Session). Among t node.drawn) node.sessions
  pub standing : Each (IsStanding node.known) node.sessions
  pub ready : Each IsReady node.bearers
  pub closed : ClosesWhole node.sessions node.bearers
  pub pending : Each (IsPending history role) node.pending
  pub matched : Each (IsMatched node.sessions node.bearers) node.pending
  pub held : (h : Held) → Among h node.held → IsSentWhole history role h.answer

-- what is known after a counter is heard, or none
abbrev pub KnownBy : Age → ℕ → ℕ → Option ℕ → Type 0
KnownBy Same known counter new = new ≡ Some known
KnownBy Later known counter new = new ≡ Some counter
KnownBy Earlier known counter new = new ≡ Some known

abbrev pub KnownAfter : Option ℕ → Option ℕ → Option ℕ → Type 0
KnownAfter old None new = new ≡ old
KnownAfter None (Some counter) new = new ≡ Some counter
KnownAfter (Some known) (Some counter) new = KnownBy (age_of known counter) known counter new

-- the other gateway has told the counter
pub record IsTold (history : List Sent) (role : Role) (counter : ℕ) : Type 0 where
  pub message : Message
  pub sent : HasSent history role message
  pub tells : recovery_of message ≡ Some counter

pub nothing_told : (history : List Sent) (role : Role) (c : ℕ) → ◌≡◌ {A = Option ℕ} None (Some c) → IsTold history role c
nothing_told history role c e = absurd (none_some c e)

-- what a step of a gateway leaves
pub record After (role : Role) (history : List Sent) (taken : Arrival → Message → Type 0) (old : Node) (e : Effect) : Type 0 where
  pub knows : Knows role (history ++ signed role (messages e.out.sent)) e.node
  pub draws : Draws history role old e.node (messages e.out.sent)
  pub known : KnownAfter old.known e.out.heard e.node.known
  pub told : (c : ℕ) → e.out.heard ≡ Some c → IsTold history (other role) c
  pub logs : Logs history role taken old e
  pub few : AreFew (datagrams e.out.sent)

pub IsPending-later : (before after : List Sent) → Extends before after → (role : Role) (number : ℕ) (p : PendingRequest) → IsPending before role number p → IsPending after role number p
IsPending-later before after extends role number p is = record { sent = extends.keeps role p.request is.sent; names = is.names; asks = is.asks }

-- a new TEID is that of no pending request
module _ (history : List Sent) (role : Role) (node : Node) (unowned : NothingOwns history role node) (number : ℕ) (p : PendingRequest)
    (is : IsPending history role number p) (key : ℕ) (free : IsFree node key) where
  new_session : (q : CreateSessionRequest) → p.request ≡ Create_session_request q → q.control.teid ≢ key
  new_session q e same = unowned (Create_session_request q) key (subst (λ m. HasSent history role m) e is.sent) (inl (sym same)) free

  new_bearer : (r : CreateBearerRequest) → p.request ≡ Create_bearer_request r → r.context.user.teid ≢ key
  new_bearer r e same = unowned (Create_bearer_request r) key (subst (λ m. HasSent history role m) e is.sent) (sym same) free

-- pending requests still match once a session or a bearer comes under a new TEID
pub matched_session : (history : List Sent) (role : Role) (node : Node) → NothingOwns history role node → Each (IsPending history role) node.pending
    → (key : ℕ) (s : Session) → IsFree node key → Each (IsMatched node.sessions node.bearers) node.pending
    → Each (IsMatched (insert node.sessions key s) node.bearers) node.pending
matched_session history role node unowned pending key s free each number p e =
    IsMatched-session node.sessions node.bearers key s number p (new_session history role node unowned number p (pending number p e) key free)
    (each number p e)

-- a session that is put under a new TEID leaves each other where it stands
still_stands : (history : List Sent) (role : Role) (node : Node) → Knows role history node → (key : ℕ) (new : Session) → (Among key node.drawn → ⊥)
    → (t : ℕ) (s : Session) → get node.sessions t ≡ Some s → get (insert node.sessions key new) t ≡ Some s
still_stands history role node knows key new undrawn t s stands = get-insert_other node.sessions key new t (λ same. undrawn (subst (λ k. Among k node.drawn) same (knows.drawn t s stands))) ∙ stands

-- a session that comes under a new TEID leaves each bearer with its session
pub with_new_session : (history : List Sent) (role : Role) (node : Node) → Knows role history node → (Origin : ℕ → Bearer → Session → Type 0) (key : ℕ) (new : Session)
    → (Among key node.drawn → ⊥) → Each (IsAt Origin node.sessions) node.bearers → Each (IsAt Origin (insert node.sessions key new)) node.bearers
with_new_session history role node knows Origin key new undrawn each t b e =
    let at = each t b e in
    record { session = at.session; stands = still_stands history role node knows key new undrawn b.session at.session at.stands; origin = at.origin }

pub matched_bearer : (history : List Sent) (role : Role) (node : Node) → NothingOwns history role node → Each (IsPending history role) node.pending
    → (sessions : FiniteMap Session) (key : ℕ) (b : Bearer) → IsFree node key → Each (IsMatched sessions node.bearers) node.pending
    → Each (IsMatched sessions (insert node.bearers key b)) node.pending
matched_bearer history role node unowned pending sessions key b free each number p e =
    IsMatched-bearer sessions node.bearers key b number p
    (λ r is same. absurd (new_bearer history role node unowned number p (pending number p e) key free r is same)) (each number p e)

pub Knows-later : (role : Role) (before after : List Sent) → Extends before after → (node : Node) → Knows role before node → Knows role after node
Knows-later role before after extends node knows = record {
  contexts = Contexts-later role before after extends node.sessions node.bearers knows.contexts;
  drawn = knows.drawn;
  standing = knows.standing;
  ready = knows.ready;
  closed = knows.closed;
  matched = knows.matched;
  pending = Each-weaker (IsPending before role) (IsPending after role) node.pending (IsPending-later before after extends role) knows.pending;
  held = λ h among. let was = knows.held h among in record { few = was.few; each = λ m has. extends.keeps role m (was.each m has) };
}

-- what shrinks stays drawn, standing and ready
pub drawn-shrinks : (old new : Node) → NodeShrinks old new → Each (λ t (s : Session). Among t old.drawn) old.sessions → Each (λ t (s : Session). Among t old.drawn) new.sessions
drawn-shrinks old new shrinks drawn t s e = let was = shrinks.sessions t s e in drawn t was.before was.stood

pub standing-shrinks : (old new : Node) → NodeShrinks old new → Each (IsStanding old.known) old.sessions → Each (IsStanding old.known) new.sessions
standing-shrinks old new shrinks standing t s e =
    let was = shrinks.sessions t s e in
    let at = standing t was.before was.stood in
    record {
      current = λ r is. at.current r (sym was.same.remote ∙ is);
      blank = λ w. was.same.remote ∙ at.blank (was.same.waits w);
      named = λ w. let r = at.named (λ x. w (was.same.waited x)) in (r.0, was.same.remote ∙ r.1);
    }

pub ready-shrinks : (old new : Node) → NodeShrinks old new → Each IsReady old.bearers → Each IsReady new.bearers
ready-shrinks old new shrinks ready t b e active =
    let was = shrinks.bearers t b e in
    let r = ready t was.before was.stood (was.same.active active) in
    (r.0, was.same.remote ∙ r.1)

module _ (role : Role) (history : List Sent) (taken : Arrival → Message → Type 0) (old : Node) (knows : Knows role history old) where
  pub later : (sent : List Message) → Knows role (history ++ signed role sent) old
  later sent = Knows-later role history (history ++ signed role sent) (Extends-signed history role sent) old knows

  -- what shrinks is still in what was sent
  pub knows_shrunk : (sent : List Message) (new : Node) → Shrunk old new → Knows role (history ++ signed role sent) new
  knows_shrunk sent new s = record {
    contexts = Contexts-shrinks role (history ++ signed role sent) old new s.shrinks (later sent).contexts;
    drawn = λ t x e. subst (Among t) (sym s.drawn) (drawn-shrinks old new s.shrinks knows.drawn t x e);
    standing = λ t x e. subst (λ k. IsStanding k t x) (sym s.known) (standing-shrinks old new s.shrinks knows.standing t x e);
    ready = ready-shrinks old new s.shrinks knows.ready;
    closed = closes-shrinks old.sessions old.bearers new.sessions new.bearers s.shrinks knows.closed;
    pending = λ number p e. (later sent).pending number p (s.pending number p e);
    matched = λ number p e. IsMatched-shrinks old new s.shrinks number p (knows.matched number p (s.pending number p e));
    held = λ h among. (later sent).held h (subst (Among h) s.held among);
  }

  -- a step that only shrinks, and sends nothing
  pub shrunk : (new : Node) → Shrunk old new → (gave_up : List ℕ) (outcome : EventOutcome)
      → After role history taken old (record { out = record nothing { gave_up = gave_up }; outcome = outcome; node = new })
  shrunk new s gave_up outcome = record {
    knows = knows_shrunk [] new s;
    known = s.known;
    told = nothing_told history (other role);
    draws = Draws-nothing history role old new s.config s.counter s.drawn;
    logs = Logs-silent history role taken old new outcome (λ h was. subst (Among h) (sym s.held) was) gave_up;
    few = tt;
  }

  -- nothing changes, and nothing is sent
  pub stays : (outcome : EventOutcome) → After role history taken old (record { out = nothing; outcome = outcome; node = old })
  stays outcome = shrunk old (Shrunk-itself old) [] outcome

  -- a step that only shrinks, and sends a message that is made now
  pub speaks : (destination : Endpoint) (m : Message) (outcome : EventOutcome) (new : Node) → Shrunk old new → IsPlain m → IsMadeNow history role old new m
      → After role history taken old (record { out = says destination m; outcome = outcome; node = new })
  speaks destination m outcome new s plain made = record {
    knows = knows_shrunk (m ∷ []) new s;
    known = s.known;
    told = nothing_told history (other role);
    draws = Draws-one history role old new m s.config s.counter s.drawn (inr made);
    logs = Logs-plain history role taken old new outcome (λ h was. subst (Among h) (sym s.held) was) destination m plain;
    few = (tt, tt);
  }

  -- an answer that is held from now on
  pub held_now : (request : Arrival) (answer : List Message) (new : Node) → IsFew answer → Knows role (history ++ signed role answer) new
      → Knows role (history ++ signed role answer) (holding request answer new)
  held_now request answer new few k =
      record {
        contexts = k.contexts;
        drawn = k.drawn;
        standing = k.standing;
        ready = k.ready;
        closed = k.closed;
        pending = k.pending;
        matched = k.matched;
        held = held;
      }
    where
      held : (h : Held) → Among h (new.held ++ (record { request = request; answer = answer } ∷ [])) → IsSentWhole (history ++ signed role answer) role h.answer
      held h among = ⊎_elim (λ there. k.held h there)
          (λ is. subst (λ (k : Held). IsSentWhole (history ++ signed role answer) role k.answer) (sym is) (record { few = few; each = λ m has. by_now history role answer m has }))
          (Among-one_more h (record { request = request; answer = answer }) new.held among)

  -- a step that only shrinks, and gives an answer, which is held
  pub answers : (request : Arrival) (m : Message) (cause : ℕ) (new : Node) → Shrunk old new → IsPlain m
      → IsMadeNow history role old (holding request (m ∷ []) new) m → After role history taken old (answered request m cause new)
  answers request m cause new s plain made = record {
    knows = held_now request (m ∷ []) new tt (knows_shrunk (m ∷ []) new s);
    known = s.known;
    told = nothing_told history (other role);
    draws = Draws-one history role old (holding request (m ∷ []) new) m s.config s.counter s.drawn (inr made);
    logs = Logs-plain history role taken old (holding request (m ∷ []) new) (Came_to (Answered cause)) (λ h was. Among-left h new.held _ (subst (Among h) (sym s.held) was)) request.source m plain;
    few = (tt, tt);
  }

  -- a pending request is added to what only shrinks
  pub asks_plain : (number : ℕ) (p : PendingRequest) (teid : Option ℕ) (new : Node) → Shrunk old new → IsPlain p.request
      → IsMadeNow history role old (record new { pending = insert old.pending number p }) p.request → IsMatched new.sessions new.bearers number p
      → ((q : CreateSessionRequest) → p.request ≡ Create_session_request q → p.session ≡ Some q.control.teid) → is_create_answer p.request ≡ false
      → After role history taken old (asks old number p teid new)
  asks_plain number p teid new s plain made matched names asked =
      let m = p.request in
      let after = history ++ signed role (m ∷ []) in
      let k = knows_shrunk (m ∷ []) new s in
      record {
        knows = record {
          contexts = k.contexts;
          drawn = k.drawn;
          standing = k.standing;
          ready = k.ready;
          closed = k.closed;
          pending = Each-insert (IsPending after role) old.pending number p (record { sent = by_now history role (m ∷ []) m (inl refl); names = names; asks = asked }) (later (m ∷ [])).pending;
          matched =
              Each-insert (IsMatched new.sessions new.bearers) old.pending number p matched
              (Each-weaker (IsMatched old.sessions old.bearers) (IsMatched new.sessions new.bearers) old.pending (IsMatched-shrinks old new s.shrinks)
              knows.matched);
          held = k.held;
        };
        known = s.known;
        told = nothing_told history (other role);
        draws = Draws-one history role old (record new { pending = insert old.pending number p }) m s.config s.counter s.drawn (inr made);
        logs =
            Logs-plain history role taken old (record new { pending = insert old.pending number p }) (Came_to (Begun teid))
            (λ h was. subst (Among h) (sym s.held) was) (control_end old.config.peer.control) m plain;
        few = (tt, tt);
      }

  -- nothing changes, and a message is sent that was sent before
  pub repeated : (destination : Endpoint) (m : Message) (outcome : EventOutcome) → HasSent history role m
      → After role history taken old (record { out = says destination m; outcome = outcome; node = old })
  repeated destination m outcome was = record {
    knows = later (m ∷ []);
    known = refl;
    told = nothing_told history (other role);
    draws = Draws-one history role old old m refl refl refl (inl was);
    logs = Logs-repeat history role taken old old outcome (λ h stood. stood) destination m was;
    few = (tt, tt);
  }

  -- nothing changes, and a datagram is sent again, of messages that were sent before
  pub repeated_whole : (destination : Endpoint) (datagram : List Message) (outcome : EventOutcome) → Once history role → IsSentWhole history role datagram
      → After role history taken old (record { out = says_all destination datagram; outcome = outcome; node = old })
  repeated_whole destination [] outcome once was = absurd was.few
  repeated_whole destination (m ∷ []) outcome once was = repeated destination m outcome (was.each m (inl refl))
  repeated_whole destination (m ∷ n ∷ []) outcome once was = record {
    knows = later (m ∷ n ∷ []);
    known = refl;
    told = nothing_told history (other role);
    draws = Draws-again history role old old (m ∷ n ∷ []) refl refl refl was.each (pair_apart m n was.few none);
    logs = Logs-again history role taken old old outcome (λ h stood. stood) destination (m ∷ n ∷ []) was.each;
    few = (was.few, tt);
  }
    where
      none : (t : ℕ) → Owns m t → Owns n t → ⊥
      none t x y =
          let same : m ≡ n = once m n t (was.each m (inl refl)) (was.each n (inr (inl refl))) x y in
          let never : Create_session_response was.few.answer ≡ Create_bearer_request was.few.request = sym was.few.first ∙ (same ∙ was.few.second) in
          cc never
  repeated_whole destination (m ∷ n ∷ k ∷ rest) outcome once was = absurd was.few
