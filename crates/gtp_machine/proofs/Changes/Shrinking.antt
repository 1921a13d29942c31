-- The changes by which sessions and bearers only go or close.
use Rattle.std.proofs.Common.{◌≡◌, ◌≢◌, ◌⊎◌, inl, inr, ⊎_elim, ℕ, Bool, true, false, not, eqb, cond, ◌||◌, List, [], ◌∷◌, Option, Some, None, refl, sym, ◌∙◌, ap, subst}
use Rattle.std.specs.FinMap.{get, insert}
use Rattle.std.proofs.lemmas.Bool.{cases_eq, eq-eqb}
use Rattle.gtp_values.specs.FiniteMap.{FiniteMap, kept, changed}
use Rattle.gtp_machine.specs.Node.{State, Pending, Active, Closing, Session, Bearer, PendingRequest, Node}
use Rattle.gtp_machine.specs.Removal.{on, without, without_bearer, finished_about, closing_session, closing_bearer, session_closing, is_pending, is_opened}
use Rattle.gtp_machine.specs.Recovery.{peer_restarted}
use Rattle.gtp_machine.specs.Message.{RemovedBearer}
use Rattle.gtp_machine.specs.User.{ended_bearer}
use Rattle.gtp_machine.specs.Serving.{RemovesEach}
use Rattle.gtp_machine.proofs.Basics.FiniteMaps.{found-insert, found-remove, found-kept, found-changed, get-kept, get-insert_same, get-insert_other}
use Rattle.gtp_machine.proofs.Origins.Contexts.{IsSame, IsSameBearer, IsSame-itself, IsSameBearer-itself, WasSession, StaysSession, Shrinks}
use Rattle.gtp_machine.proofs.Basics.Facts.{pending_active, not_or_right}

-- the change of one node into another only shrinks its sessions and bearers
abbrev pub NodeShrinks : Node → Node → Type 0
NodeShrinks old new = Shrinks old.sessions old.bearers new.sessions new.bearers

-- the change shrinks the node's sessions, bearers and pending requests, and leaves the rest
pub record Shrunk (old new : Node) : Type 0 where
  pub shrinks : NodeShrinks old new
  pub config : new.config ≡ old.config
  pub counter : new.counter ≡ old.counter
  pub drawn : new.drawn ≡ old.drawn
  pub known : new.known ≡ old.known
  pub held : new.held ≡ old.held
  pub pending : (number : ℕ) (p : PendingRequest) → get new.pending number ≡ Some p → get old.pending number ≡ Some p

was_itself : (old : FiniteMap Session) (t : ℕ) (s : Session) → get old t ≡ Some s → WasSession old t s
was_itself old t s e = record { before = s; stood = e; same = IsSame-itself s }

stays_itself : (new : FiniteMap Session) (t : ℕ) (s : Session) → get new t ≡ Some s → StaysSession new t s
stays_itself new t s e = record { after = s; stands = e; same = IsSame-itself s }

pub Shrinks-itself : (node : Node) → NodeShrinks node node
Shrinks-itself node = record {
  sessions = λ t s e. was_itself node.sessions t s e;
  bearers = λ t b e. record { before = b; stood = e; same = IsSameBearer-itself b; session = λ s stood. stays_itself node.sessions b.session s stood };
  closed = λ t b s b_at s_at closing. inr (s, s_at, closing);
}

-- sessions and bearers alone change
contexts_shrunk : (node : Node) (sessions : FiniteMap Session) (bearers : FiniteMap Bearer) → Shrinks node.sessions node.bearers sessions bearers
    → Shrunk node (record node { sessions = sessions; bearers = bearers })
contexts_shrunk node sessions bearers shrinks = record { shrinks = shrinks; config = refl; counter = refl; drawn = refl; known = refl; held = refl; pending = λ number p e. e }

pub Shrunk-itself : (node : Node) → Shrunk node node
Shrunk-itself node = contexts_shrunk node node.sessions node.bearers (Shrinks-itself node)

pub Shrinks-without : (session_goes bearer_goes : ℕ → Bool) (node : Node) → NodeShrinks node (without session_goes bearer_goes node)
Shrinks-without session_goes bearer_goes node = record {
  sessions = λ t s e. was_itself node.sessions t s (found-kept stays_session node.sessions t s e).1;
  bearers = λ t b e.
      let found = found-kept (λ k (x : Bearer). not (bearer_goes k || session_goes x.session)) node.bearers t b e in
      record {
        before = b;
        stood = found.1;
        same = IsSameBearer-itself b;
        session =
            λ s stood. stays_itself (kept stays_session node.sessions) b.session s
            (get-kept stays_session node.sessions b.session s stood (ap not (not_or_right (bearer_goes t) (session_goes b.session) found.0)));
      };
  closed = λ t b s b_at s_at closing. inr (s, (found-kept stays_session node.sessions b.session s s_at).1, closing);
}
  where
    stays_session : ℕ → Session → Bool
    stays_session k x = not (session_goes k)

pub Shrunk-without : (session_goes bearer_goes : ℕ → Bool) (node : Node) → Shrunk node (without session_goes bearer_goes node)
Shrunk-without session_goes bearer_goes node = record {
  shrinks = Shrinks-without session_goes bearer_goes node;
  config = refl;
  counter = refl;
  drawn = refl;
  known = refl;
  held = refl;
  pending = λ number p e. (found-kept (λ k (x : PendingRequest). not (on session_goes x.session || on bearer_goes x.bearer)) node.pending number p e).1;
}

-- what a finished request was about goes
pub Shrunk-finished : (node : Node) (number : ℕ) (session bearer : Option ℕ) → Shrunk node (finished_about node number session bearer)
Shrunk-finished node number session (Some bearer) = Shrunk-without (λ t. false) (λ t. eqb t bearer) node
Shrunk-finished node number (Some session) None = Shrunk-without (λ t. eqb t session) (λ t. false) node
Shrunk-finished node number None None =
    record {
      shrinks = Shrinks-itself node;
      config = refl;
      counter = refl;
      drawn = refl;
      known = refl;
      held = refl;
      pending = λ k p e. (found-remove node.pending number k p e).1;
    }

same_then : (a b c : Session) → IsSame a b → IsSame b c → IsSame a c
same_then a b c x y =
    record {
      remote = y.remote ∙ x.remote;
      subscriber = y.subscriber ∙ x.subscriber;
      address = y.address ∙ x.address;
      waits = λ h. x.waits (y.waits h);
      waited = λ h. y.waited (x.waited h);
    }

same_bearer_then : (a b c : Bearer) → IsSameBearer a b → IsSameBearer b c → IsSameBearer a c
same_bearer_then a b c x y =
    record {
      remote = y.remote ∙ x.remote;
      session = y.session ∙ x.session;
      identity = y.identity ∙ x.identity;
      kind = y.kind ∙ x.kind;
      active = λ h. x.active (y.active h);
      closing = λ h. y.closing (x.closing h);
    }

-- one change after the other
Shrinks-then : (a b c : Node) → NodeShrinks a b → NodeShrinks b c → NodeShrinks a c
Shrinks-then a b c first second = record {
  sessions = λ t s e.
      let y = second.sessions t s e in
      let x = first.sessions t y.before y.stood in
      record { before = x.before; stood = x.stood; same = same_then x.before y.before s x.same y.same };
  bearers = λ t e is.
      let y = second.bearers t e is in
      let x = first.bearers t y.before y.stood in
      record {
        before = x.before;
        stood = x.stood;
        same = same_bearer_then x.before y.before e x.same y.same;
        session = λ s stood.
            let m = x.session s stood in
            let n = y.session m.after (ap (λ k. get b.sessions k) x.same.session ∙ m.stands) in
            record { after = n.after; stands = ap (λ k. get c.sessions k) (sym x.same.session) ∙ n.stands; same = same_then s m.after n.after m.same n.same };
      };
  closed = λ t e s e_at s_at closing. ⊎_elim (λ is. inl is) (λ mid. before t e e_at mid.0 mid.1 mid.2) (second.closed t e s e_at s_at closing);
}
  where
    before : (t : ℕ) (e : Bearer) → get c.bearers t ≡ Some e → (o : Session) → get b.sessions e.session ≡ Some o → o.state ≡ Closing
        → (e.state ≡ Closing) ⊎ ((o : Session) × (get a.sessions e.session ≡ Some o) × (o.state ≡ Closing))
    before t e e_at o o_at closing =
        let y = second.bearers t e e_at in
        let key : y.before.session ≡ e.session = sym y.same.session in
        ⊎_elim
        (λ is. inl (y.same.closing is))
        (λ stood. inr (stood.0, ap (λ k. get a.sessions k) (sym key) ∙ stood.1, stood.2))
        (first.closed t y.before o y.stood (ap (λ k. get b.sessions k) key ∙ o_at) closing)

pub Shrunk-then : (a b c : Node) → Shrunk a b → Shrunk b c → Shrunk a c
Shrunk-then a b c x y = record {
  shrinks = Shrinks-then a b c x.shrinks y.shrinks;
  config = y.config ∙ x.config;
  counter = y.counter ∙ x.counter;
  drawn = y.drawn ∙ x.drawn;
  known = y.known ∙ x.known;
  held = y.held ∙ x.held;
  pending = λ number p e. x.pending number p (y.pending number p e);
}

pub Shrinks-restart : (node : Node) (counter : ℕ) → NodeShrinks node (peer_restarted node counter)
Shrinks-restart node counter = Shrinks-without (λ t. is_opened (get node.sessions t)) (λ t. false) (record node { known = Some counter })

pub restart_pending : (node : Node) (counter number : ℕ) (p : PendingRequest) → get (peer_restarted node counter).pending number ≡ Some p → get node.pending number ≡ Some p
restart_pending node counter number p e = (Shrunk-without (λ t. is_opened (get node.sessions t)) (λ t. false) (record node { known = Some counter })).pending number p e

is_pending_is : (state : State) → not (not (is_pending state)) ≡ true → state ≡ Pending
is_pending_is Pending e = refl
is_pending_is Active e = absurd (cc e)
is_pending_is Closing e = absurd (cc e)

-- what is left is pending
pub restart_leaves_pending : (node : Node) (counter t : ℕ) (s : Session) → get (peer_restarted node counter).sessions t ≡ Some s → s.state ≡ Pending
restart_leaves_pending node counter t s e =
    let found = found-kept (λ k (x : Session). not (is_opened (get node.sessions k))) node.sessions t s e in
    is_pending_is s.state (subst (λ o. not (is_opened o) ≡ true) found.1 found.0)

-- a bearer changes, but stays the same
pub Shrunk-bearer : (node : Node) (key : ℕ) (b n : Bearer) → get node.bearers key ≡ Some b → IsSameBearer b n → Shrunk node (record node { bearers = insert node.bearers key n })
Shrunk-bearer node key b n stands same = contexts_shrunk node node.sessions (insert node.bearers key n) (record {
  sessions = λ t s e. was_itself node.sessions t s e;
  bearers = λ t x e. ⊎_elim
      (λ at. record {
        before = b;
        stood = ap (λ k. get node.bearers k) at.0 ∙ stands;
        same = subst (λ y. IsSameBearer b y) at.1 same;
        session = λ s stood. stays_itself node.sessions b.session s stood;
      })
      (λ old. record { before = x; stood = old.1; same = IsSameBearer-itself x; session = λ s stood. stays_itself node.sessions x.session s stood })
      (found-insert node.bearers key n t x e);
  closed = λ t x s x_at s_at closing. inr (s, s_at, closing);
})

pub closing_same : (b : Bearer) → IsSameBearer b (record b { state = Closing })
closing_same b = record { remote = refl; session = refl; identity = refl; kind = refl; active = λ h. absurd (cc h); closing = λ h. refl }

pub ended_same : (b : Bearer) → IsSameBearer b (ended_bearer b)
ended_same b = record { remote = refl; session = refl; identity = refl; kind = refl; active = λ h. h; closing = λ h. h }

closing_waited : (s : Session) → s.state ≡ Active → IsSame s (closing_session s)
closing_waited s active = record { remote = refl; subscriber = refl; address = refl; waits = λ h. absurd (cc h); waited = λ h. absurd (pending_active s.state h active) }

same_if : (test : Bool) (b : Bearer) → IsSameBearer b (cond test (record b { state = Closing }) b)
same_if true b = closing_same b
same_if false b = IsSameBearer-itself b

-- a bearer of the session is closing
closes_if : (b : Bearer) (session : ℕ) → b.session ≡ session → (closing_bearer session b).state ≡ Closing
closes_if b session same = ap (λ t. (cond t (record b { state = Closing }) b).state) (eq-eqb b.session session same)

closed : (node : Node) (session : ℕ) (s : Session) → get node.sessions session ≡ Some s → s.state ≡ Active → (t : ℕ) (x : Session)
    → get node.sessions t ≡ Some x → (t ≡ session) ⊎ (t ≢ session) → StaysSession (insert node.sessions session (closing_session s)) t x
closed node session s stands active t x e (inl same) =
    let is : x ≡ s = cc (ap (λ k. get node.sessions k) same) in
    record {
      after = closing_session s;
      stands = ap (λ k. get (insert node.sessions session (closing_session s)) k) same ∙ get-insert_same node.sessions session (closing_session s);
      same = subst (λ y. IsSame y (closing_session s)) (sym is) (closing_waited s active);
    }
closed node session s stands active t x e (inr different) =
    stays_itself (insert node.sessions session (closing_session s)) t x (get-insert_other node.sessions session (closing_session s) t different ∙ e)

-- an active session and its bearers are closing
pub Shrunk-closing : (node : Node) (session : ℕ) (s : Session) → get node.sessions session ≡ Some s → s.state ≡ Active → Shrunk node (session_closing node session s)
Shrunk-closing node session s stands active = contexts_shrunk node (insert node.sessions session (closing_session s)) (changed (closing_bearer session) node.bearers) (record {
  sessions = λ t x e. elim (found-insert node.sessions session (closing_session s) t x e) [
    | inl same ↦ record { before = s; stood = ap (λ k. get node.sessions k) same.0 ∙ stands; same = subst (λ y. IsSame s y) same.1 (closing_waited s active) }
    | inr old ↦ was_itself node.sessions t x old.1
  ];
  bearers = λ t b e.
      let was = found-changed (closing_bearer session) node.bearers t b e in
      record {
        before = was.before;
        stood = was.stood;
        same = subst (λ y. IsSameBearer was.before y) (sym was.is) (same_if (eqb was.before.session session) was.before);
        session = λ x stood. closed node session s stands active was.before.session x stood (cases_eq was.before.session session);
      };
  closed = λ t b x b_at x_at closing. ⊎_elim
      (λ same.
      let was = found-changed (closing_bearer session) node.bearers t b b_at in
      let here : was.before.session ≡ session = (sym (same_if (eqb was.before.session session) was.before).session ∙ ap (λ (k : Bearer). k.session) (sym was.is)) ∙ same.0 in
      inl (ap (λ (k : Bearer). k.state) was.is ∙ closes_if was.before session here))
      (λ old. inr (x, old.1, closing))
      (found-insert node.sessions session (closing_session s) b.session x x_at);
})

-- bearers that are removed one after the other
pub removes_each : (session : ℕ) (identities : List ℕ) (from : Node) (contexts : List RemovedBearer) (new : Node) → RemovesEach session identities from contexts new → Shrunk from new
removes_each session [] from contexts new r = subst (λ n. Shrunk from n) (sym r.1) (Shrunk-itself from)
removes_each session (identity ∷ rest) from contexts new (others, inl f) = removes_each session rest from others new f.1.1
removes_each session (identity ∷ rest) from contexts new (others, inr (named, h)) =
    Shrunk-then from (without_bearer from named.key) new (Shrunk-without (λ t. false) (λ t. eqb t named.key) from)
    (removes_each session rest (without_bearer from named.key) others new h.1)
