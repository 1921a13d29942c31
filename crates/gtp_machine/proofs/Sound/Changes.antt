-- Each change of a node that a row makes leaves it sound.
use Rattle.std.proofs.Common.{◌≡◌, ◌≢◌, ◌⊎◌, inl, inr, ⊎_elim, ℕ, ◌+◌, ◌≤◌, ◌<◌, eqb, cond, Bool, true, false, not, ◌||◌, List, [], ◌∷◌, length}
use Rattle.std.proofs.Common.{length-append, Option, Some, None, refl, sym, ◌∙◌, ap, subst, arith}
use Rattle.std.proofs.lemmas.Bool.{cases_eq, eq-eqb, ne_eqb}
use Rattle.std.specs.FinMap.{get, insert, remove, len, gets}
use Rattle.gtp_values.specs.FiniteMap.{FiniteMap, Among, kept, changed}
use Rattle.gtp_machine.specs.Config.{Config}
use Rattle.gtp_machine.specs.Message.{Message, Create_session_request, Create_bearer_request, CreateSessionRequest, CreateBearerRequest}
use Rattle.gtp_machine.specs.Node.{Role, Packet, State, Pending, Active, Closing, Kind, Default, Dedicated, Session, Bearer, PendingRequest, Arrival, Node, holding, fresh_node}
use Rattle.gtp_machine.specs.Removal.{on, without, without_session, without_bearer, finished_about, finished, closing_session, closing_bearer, session_closing}
use Rattle.gtp_machine.specs.Choice.{IsFree, IsIdentity}
use Rattle.gtp_machine.specs.Sound.{At, IsInState, IsBearerOf, IsSoundSession, IsSoundBearer, AsksSession, AsksBearer, IsAbout, opened_by, AreSoundRequests, IsSound, IsWithin}
use Rattle.gtp_machine.proofs.Sound.Addresses.{HasNewAddress, apart_session, apart_same, serving_not_packet}
use Rattle.gtp_machine.proofs.Basics.FiniteMaps.{found-remove, found-empty, found-kept, found-changed, get-changed_some, get-kept, Each-insert}
use Rattle.gtp_machine.proofs.Basics.Counting.{len-insert_most, len-insert_same, len-remove_most, len-kept_most}
use Rattle.gtp_machine.proofs.Sound.Parts.{about_opening, default_dedicated, at_here, at_insert, there_insert, Follows, follows_all, requests_follow}
use Rattle.gtp_machine.proofs.Sound.Parts.{requests_fewer, requests_add, opened_drawn, contexts_drawn, contexts_session, contexts_bearer}
use Rattle.gtp_machine.proofs.Sound.Parts.{contexts_same}
use Rattle.gtp_machine.proofs.Basics.Facts.{one_value, pending_active, pending_closing, not_or_right}

module _ (role : Role) where
  pub fresh : (config : Config) (counter : ℕ) → IsSound role (fresh_node config counter)
  fresh config counter = record {
    contexts = record { each_session = λ t s e. absurd (found-empty t s e); each_bearer = λ t s e. absurd (found-empty t s e); apart = λ s t a b i e. absurd (found-empty s a e) };
    requests = record { each = λ t s e. absurd (found-empty t s e); lone = λ m n p q t e. absurd (found-empty m p e) };
    within = record { sessions_few = grind (arith, gets); pending_few = grind (arith, gets); numbers = λ t s e. absurd (found-empty t s e); held_few = omega arith; drawn_few = omega arith };
    addresses = λ packet version s t a b address e. absurd (found-empty s a e);
  }

  not_or_left : (a b : Bool) → not (a || b) ≡ true → a ≡ false
  not_or_left true b e = absurd (cc e)
  not_or_left false b e = refl

  passes_both : (a b : Bool) → a ≡ false → b ≡ false → not (a || b) ≡ true
  passes_both a b x y = ap (λ k. not (k || b)) x ∙ ap not y

  module _ (old : Node) (sound : IsSound role old) where
    -- fewer requests, and no more sessions, are within what is allowed
    within_pending : (sessions : FiniteMap Session) (pending : FiniteMap PendingRequest) → len sessions ≤ len old.sessions → len pending ≤ len old.pending
        → ((m : ℕ) (q : PendingRequest) → get pending m ≡ Some q → get old.pending m ≡ Some q) → IsWithin sessions pending old.held old.drawn
    within_pending sessions pending no_more fewer were =
        record {
          sessions_few = omega (arith, no_more, sound.within.sessions_few);
          pending_few = omega (arith, fewer, sound.within.pending_few);
          numbers = λ m q e. sound.within.numbers m q (were m q e);
          held_few = sound.within.held_few;
          drawn_few = sound.within.drawn_few;
        }

    -- and so are these sessions with these TEIDs
    within_sessions : (sessions : FiniteMap Session) (drawn : List ℕ) → len sessions ≤ 1000 → length drawn ≤ 16777215 → IsWithin sessions old.pending old.held drawn
    within_sessions sessions drawn few less = record { sessions_few = few; pending_few = sound.within.pending_few; numbers = sound.within.numbers; held_few = sound.within.held_few; drawn_few = less }

    -- sessions and bearers go, but no pending default bearer by itself
    pub without_sound : (session_goes bearer_goes : ℕ → Bool)
        → ((t : ℕ) (b : Bearer) → get old.bearers t ≡ Some b → b.kind ≡ Default → b.state ≡ Pending → bearer_goes t ≡ false)
        → IsSound role (without session_goes bearer_goes old)
    without_sound session_goes bearer_goes stays = record {
      contexts = record {
        each_session = λ t s e. sound.contexts.each_session t s (found-kept stays_session old.sessions t s e).1;
        each_bearer = λ t b e.
            let found = found-kept stays_bearer old.bearers t b e in
            let at = sound.contexts.each_bearer t b found.1 in
            record {
              own = at.own;
              of = (
                at.of.0,
                get-kept stays_session old.sessions b.session at.of.0 at.of.1 (ap not (not_or_right (bearer_goes t) (session_goes b.session) found.0)),
              );
              named = at.named;
              blank = at.blank;
              range = at.range;
            };
        apart = λ s t a b i x y. sound.contexts.apart s t a b i (found-kept stays_bearer old.bearers s a x).1 (found-kept stays_bearer old.bearers t b y).1;
      };
      requests =
          requests_follow role old.sessions (kept stays_session old.sessions) old.bearers (kept stays_bearer old.bearers)
          (kept stays_pending old.pending) follows (requests_fewer role old.sessions old.bearers old.pending (kept stays_pending old.pending)
          (λ m q e. (found-kept stays_pending old.pending m q e).1) sound.requests);
      within =
          within_pending (kept stays_session old.sessions) (kept stays_pending old.pending) (len-kept_most stays_session old.sessions)
          (len-kept_most stays_pending old.pending) (λ m q e. (found-kept stays_pending old.pending m q e).1);
      addresses = λ packet version s t a b address x y. sound.addresses packet version s t a b address (found-kept stays_session old.sessions s a x).1 (found-kept stays_session old.sessions t b y).1;
    }
      where
        stays_session : ℕ → Session → Bool
        stays_session t s = not (session_goes t)

        stays_bearer : ℕ → Bearer → Bool
        stays_bearer t b = not (bearer_goes t || session_goes b.session)

        stays_pending : ℕ → PendingRequest → Bool
        stays_pending number p = not (on session_goes p.session || on bearer_goes p.bearer)

        follows : (m : ℕ) (q : PendingRequest) → get (kept stays_pending old.pending) m ≡ Some q → Follows old.sessions (kept stays_session old.sessions) old.bearers (kept stays_bearer old.bearers) q
        follows m q e =
            let test = (found-kept stays_pending old.pending m q e).0 in
            let session_stays : (t : ℕ) → q.session ≡ Some t → session_goes t ≡ false =
            λ t is. ap (on session_goes) (sym is) ∙ not_or_left (on session_goes q.session) (on bearer_goes q.bearer) test in
            let bearer_stays : (t : ℕ) → q.bearer ≡ Some t → bearer_goes t ≡ false = λ t is. ap (on bearer_goes) (sym is) ∙ not_or_right (on session_goes q.session) (on bearer_goes q.bearer) test in
            let session : (t : ℕ) (s : State) → q.session ≡ Some t → At old.sessions t (IsInState s) → At (kept stays_session old.sessions) t (IsInState s) =
            λ t s is at. (at.0, get-kept stays_session old.sessions t at.0 at.1 (ap not (session_stays t is)), at.2) in
            let bearer : (u c : ℕ) (k : Kind) (s : State) → q.session ≡ Some c → (at : At old.bearers u (IsBearerOf c k s)) → bearer_goes u ≡ false →
            At (kept stays_bearer old.bearers) u (IsBearerOf c k s) =
            λ u c k s is at goes. (
              at.0,
              get-kept stays_bearer old.bearers u at.0 at.1
                  (passes_both (bearer_goes u) (session_goes at.0.session) goes (ap session_goes at.2.of ∙ session_stays c is)),
              at.2,
            ) in
            record {
              waits = λ t o is at. session t Pending is at;
              closes = λ t is at. session t Closing is at;
              default = λ s u o is w at. bearer u s Default Pending is at (stays u at.0 at.1 at.2.is_kind at.2.in_state);
              wanted = λ s u o is by at. inl (bearer u s Dedicated Pending is at (bearer_stays u by));
              ends = λ s u is by at. bearer u s Dedicated Closing is at (bearer_stays u by);
            }

    pub without_session_sound : (session : ℕ) → IsSound role (without_session old session)
    without_session_sound session = without_sound (λ t. eqb t session) (λ t. false) (λ t b e k w. refl)

    -- a dedicated bearer goes
    pub without_bearer_sound : (key : ℕ) (b : Bearer) → get old.bearers key ≡ Some b → b.kind ≡ Dedicated → IsSound role (without_bearer old key)
    without_bearer_sound key b stands dedicated =
        without_sound (λ t. false) (λ t. eqb t key) (λ t x e default w. ne_eqb t key (λ same. default_dedicated x.kind default
        (ap (λ (k : Bearer). k.kind) (one_value (get old.bearers key) x b (ap (λ k. get old.bearers k) (sym same) ∙ e) stands) ∙ dedicated)))

    removed_within : (number : ℕ) → IsWithin old.sessions (remove old.pending number) old.held old.drawn
    removed_within number = within_pending old.sessions (remove old.pending number) (omega arith) (len-remove_most old.pending number) (λ m q e. (found-remove old.pending number m q e).1)

    pub removed_sound : (number : ℕ) → IsSound role (record old { pending = remove old.pending number })
    removed_sound number = record {
      contexts = sound.contexts;
      requests = requests_fewer role old.sessions old.bearers old.pending (remove old.pending number) (λ m q e. (found-remove old.pending number m q e).1) sound.requests;
      within = removed_within number;
      addresses = sound.addresses;
    }

    -- a pending request is finished, and what it was about goes
    pub finished_sound : (number : ℕ) (p : PendingRequest) → get old.pending number ≡ Some p → IsSound role (finished old number p)
    finished_sound number p stands = by (sound.requests.each number p stands)
      where
        about : (s b : Option ℕ) → p.session ≡ s → p.bearer ≡ b → IsSound role (finished_about old number s b) → IsSound role (finished old number p)
        about s b session bearer sound_then =
            subst (λ (f : Node). IsSound role f)
            (sym (ap (λ k. finished_about old number p.session k) bearer ∙ ap (λ k. finished_about old number k b) session)) sound_then

        one : (t : ℕ) (b : Bearer) → p.bearer ≡ Some t → get old.bearers t ≡ Some b → b.kind ≡ Dedicated → IsSound role (finished old number p)
        one t b bearer at kind = about p.session (Some t) refl bearer (without_bearer_sound t b at kind)

        by : IsAbout role old.sessions old.bearers number p → IsSound role (finished old number p)
        by (inl e) = about None None e.session e.bearer (removed_sound number)
        by (inr (inl a)) = about (Some a.request.control.teid) None a.session a.bearer (without_session_sound a.request.control.teid)
        by (inr (inr (inl d))) = about (Some d.about) None d.session d.bearer (without_session_sound d.about)
        by (inr (inr (inr (inl a)))) = ⊎_elim (λ w. one a.request.context.user.teid w.0 a.bearer w.1 w.2.is_kind) (λ w. one a.request.context.user.teid w.0.0 a.bearer w.0.1 w.0.2.is_kind) a.wanted
        by (inr (inr (inr (inr d)))) = one d.key d.closes.0 d.bearer d.closes.1 d.closes.2.is_kind

    -- an answer is held
    pub holding_sound : (request : Arrival) (answer : List Message) → length old.held < 4096 → IsSound role (holding request answer old)
    holding_sound request answer room = record {
      contexts = sound.contexts;
      requests = sound.requests;
      within =
          record {
            sessions_few = sound.within.sessions_few;
            pending_few = sound.within.pending_few;
            numbers = sound.within.numbers;
            held_few = omega (arith, length-append old.held (record { request = request; answer = answer } ∷ []), room);
            drawn_few = sound.within.drawn_few;
          };
      addresses = sound.addresses;
    }

    pub known_sound : (counter : Option ℕ) → IsSound role (record old { known = counter })
    known_sound counter = record { contexts = sound.contexts; requests = sound.requests; within = sound.within; addresses = sound.addresses }

    -- a request is added to a node that is sound with the requests that wait
    pub asks_sound : (new : Node) (number : ℕ) (p : PendingRequest) → IsSound role new → new.pending ≡ old.pending → len old.pending < 256 → number ≤ 8388607
        → IsAbout role new.sessions new.bearers number p
        → ((m : ℕ) (q : PendingRequest) (t : ℕ) → get old.pending m ≡ Some q → opened_by q.request ≡ Some t → opened_by p.request ≡ Some t → ⊥)
        → IsSound role (record new { pending = insert old.pending number p })
    asks_sound new number p s same room small about lone = record {
      contexts = s.contexts;
      requests =
          requests_add role new.sessions new.bearers old.pending number p about lone
          (subst (λ (k : FiniteMap PendingRequest). AreSoundRequests role new.sessions new.bearers k) same s.requests);
      within = record {
        sessions_few = s.within.sessions_few;
        pending_few = omega (arith, len-insert_most old.pending number p, room);
        numbers = Each-insert (λ n (x : PendingRequest). n ≤ 8388607) old.pending number p small sound.within.numbers;
        held_few = s.within.held_few;
        drawn_few = s.within.drawn_few;
      };
      addresses = s.addresses;
    }

    -- what is free is neither a context's nor opened by a pending request
    pub free_session : (key t : ℕ) (s : Session) → IsFree old key → get old.sessions t ≡ Some s → t ≢ key
    free_session key t s free e same = free.undrawn (subst (λ k. Among k old.drawn) same (sound.contexts.each_session t s e).own)

    pub free_bearer : (key t : ℕ) (b : Bearer) → IsFree old key → get old.bearers t ≡ Some b → t ≢ key
    free_bearer key t b free e same = free.undrawn (subst (λ k. Among k old.drawn) same (sound.contexts.each_bearer t b e).own)

    pub free_opened : (key m : ℕ) (q : PendingRequest) (t : ℕ) → IsFree old key → get old.pending m ≡ Some q → opened_by q.request ≡ Some t → t ≢ key
    free_opened key m q t free e o same = free.undrawn (subst (λ k. Among k old.drawn) same (opened_drawn role old.drawn old.sessions old.bearers m q t sound.contexts (sound.requests.each m q e) o))

    -- a session comes with its default bearer, under free TEIDs
    pub session_comes : (control user : ℕ) (s : Session) (b : Bearer) → IsFree old control → IsFree old user → b.session ≡ control → len old.sessions < 1000
        → length old.drawn + 2 ≤ 16777215 → IsSoundSession (user ∷ control ∷ old.drawn) control s
        → IsSoundBearer (user ∷ control ∷ old.drawn) (insert old.sessions control s) user b → (role ≡ Packet → HasNewAddress old.sessions s)
        → IsSound role
        (record old { drawn = user ∷ control ∷ old.drawn; sessions = insert old.sessions control s; bearers = insert old.bearers user b })
    session_comes control user s b control_free user_free of room draws at_session at_bearer new = record {
      contexts =
          contexts_bearer (user ∷ control ∷ old.drawn) (insert old.sessions control s) old.bearers user b at_bearer (λ t a i e other same ia ib.
          free_session control a.session (sound.contexts.each_bearer t a e).of.0 control_free (sound.contexts.each_bearer t a e).of.1 (same ∙ of))
          (contexts_session (user ∷ control ∷ old.drawn) old.sessions old.bearers control s at_session
          (contexts_drawn old.drawn (user ∷ control ∷ old.drawn) old.sessions old.bearers (λ t was. inr (inr was)) sound.contexts));
      requests =
          requests_follow role old.sessions (insert old.sessions control s) old.bearers (insert old.bearers user b) old.pending
          (λ m q e. follows_all old.sessions (insert old.sessions control s) old.bearers (insert old.bearers user b) q
          (λ t st n at. at_insert old.sessions control s (IsInState st) t (λ y same e is. absurd (free_session control t y control_free e same)) at)
          (λ t c k st n at. at_insert old.bearers user b (IsBearerOf c k st) t (λ y same e is. absurd (free_bearer user t y user_free e same)) at)) sound.requests;
      within = within_sessions (insert old.sessions control s) (user ∷ control ∷ old.drawn) (omega (arith, len-insert_most old.sessions control s, room)) (omega (arith, draws));
      addresses = λ packet. apart_session old.sessions control s (new packet) (sound.addresses packet);
    }

    -- a dedicated bearer comes under a free TEID
    pub bearer_comes : (user : ℕ) (b : Bearer) → IsFree old user → length old.drawn + 1 ≤ 16777215 → IsSoundBearer (user ∷ old.drawn) old.sessions user b
        → ((t : ℕ) (a : Bearer) (identity : ℕ) → get old.bearers t ≡ Some a → a.session ≡ b.session → a.identity ≡ Some identity
        → b.identity ≡ Some identity → ⊥) → IsSound role (record old { drawn = user ∷ old.drawn; bearers = insert old.bearers user b })
    bearer_comes user b free draws at unused = record {
      contexts =
          contexts_bearer (user ∷ old.drawn) old.sessions old.bearers user b at (λ t a i e other. unused t a i e)
          (contexts_drawn old.drawn (user ∷ old.drawn) old.sessions old.bearers (λ t was. inr was) sound.contexts);
      requests =
          requests_follow role old.sessions old.sessions old.bearers (insert old.bearers user b) old.pending
          (λ m q e. follows_all old.sessions old.sessions old.bearers (insert old.bearers user b) q
          (λ t st n at. at)
          (λ t c k st n at. at_insert old.bearers user b (IsBearerOf c k st) t (λ y same e is. absurd (free_bearer user t y free e same)) at)) sound.requests;
      within = within_sessions old.sessions (user ∷ old.drawn) sound.within.sessions_few (omega (arith, draws));
      addresses = sound.addresses;
    }

    -- an active bearer is replaced by one of its session, kind and identity, with its remote, in any state but pending
    pub bearer_changes : (key : ℕ) (b n : Bearer) → get old.bearers key ≡ Some b → b.state ≡ Active → n.session ≡ b.session → n.identity ≡ b.identity → n.kind ≡ b.kind
        → n.remote ≡ b.remote → n.state ≢ Pending → IsSound role (record old { bearers = insert old.bearers key n })
    bearer_changes key b n stands active session identity kind remote not_pending =
        let at = sound.contexts.each_bearer key b stands in
        record {
          contexts = contexts_same old.drawn old.sessions old.bearers key b n stands session identity (record {
            own = at.own;
            of = (at.of.0, ap (λ k. get old.sessions k) session ∙ at.of.1);
            named = λ a. let r = at.named active in (r.0, remote ∙ r.1);
            blank = λ w. absurd (not_pending w);
            range = λ i e. at.range i (sym identity ∙ e);
          }) sound.contexts;
          requests =
              requests_follow role old.sessions old.sessions old.bearers (insert old.bearers key n) old.pending
              (λ m q e. follows_all old.sessions old.sessions old.bearers (insert old.bearers key n) q
              (λ t st no at. at)
              (λ t c k st no at. at_insert old.bearers key n (IsBearerOf c k st) t
              (λ y same e is. absurd (no (sym is.in_state ∙
              (ap (λ (k : Bearer). k.state) (one_value (get old.bearers key) y b (ap (λ k. get old.bearers k) (sym same) ∙ e) stands) ∙ active))))
              at)) sound.requests;
          within = sound.within;
          addresses = sound.addresses;
        }

    -- an active session and its bearers are closing
    pub closing_sound : (session : ℕ) (s : Session) → get old.sessions session ≡ Some s → s.state ≡ Active → IsSound role (session_closing old session s)
    closing_sound session s stands active = record {
      contexts = record {
        each_session = Each-insert (IsSoundSession old.drawn) old.sessions session (closing_session s) closed_session sound.contexts.each_session;
        each_bearer = λ t b e.
            let was = found-changed (closing_bearer session) old.bearers t b e in
            subst (λ k. IsSoundBearer old.drawn (insert old.sessions session (closing_session s)) t k) (sym was.is)
            (closed_bearer (eqb was.before.session session) t was.before (sound.contexts.each_bearer t was.before was.stood));
        apart = λ m n a b i x y same ia ib.
            let first = found-changed (closing_bearer session) old.bearers m a x in
            let second = found-changed (closing_bearer session) old.bearers n b y in
            let one = unmoved (eqb first.before.session session) first.before in
            let two = unmoved (eqb second.before.session session) second.before in
            sound.contexts.apart m n first.before second.before i first.stood second.stood
            (sym (ap (λ (k : Bearer). k.session) first.is ∙ one.0) ∙ (same ∙ (ap (λ (k : Bearer). k.session) second.is ∙ two.0)))
            (sym (ap (λ (k : Bearer). k.identity) first.is ∙ one.1) ∙ ia)
            (sym (ap (λ (k : Bearer). k.identity) second.is ∙ two.1) ∙ ib);
      };
      requests =
          requests_follow role old.sessions (insert old.sessions session (closing_session s)) old.bearers
          (changed (closing_bearer session) old.bearers) old.pending (λ m q e. follows q) sound.requests;
      within =
          within_sessions (insert old.sessions session (closing_session s)) old.drawn
          (omega (arith, len-insert_same old.sessions session (closing_session s) s stands, sound.within.sessions_few)) sound.within.drawn_few;
      addresses = λ packet. apart_same old.sessions session s (closing_session s) stands refl (sound.addresses packet);
    }
      where
        closed_session : IsSoundSession old.drawn session (closing_session s)
        closed_session = let at = sound.contexts.each_session session s stands in record { own = at.own; named = λ n. at.named (λ w. pending_active s.state w active); blank = λ w. absurd (cc w) }

        closed_bearer : (test : Bool) (t : ℕ) (x : Bearer) → IsSoundBearer old.drawn old.sessions t x
            → IsSoundBearer old.drawn (insert old.sessions session (closing_session s)) t (cond test (record x { state = Closing }) x)
        closed_bearer true t x at =
            record {
              own = at.own;
              of = there_insert old.sessions session (closing_session s) x.session at.of;
              named = λ a. absurd (cc a);
              blank = λ w. absurd (cc w);
              range = at.range;
            }
        closed_bearer false t x at = record { own = at.own; of = there_insert old.sessions session (closing_session s) x.session at.of; named = at.named; blank = at.blank; range = at.range }

        unmoved : (test : Bool) (x : Bearer) → ((cond test (record x { state = Closing }) x).session ≡ x.session) × ((cond test (record x { state = Closing }) x).identity ≡ x.identity)
        unmoved true x = (refl, refl)
        unmoved false x = (refl, refl)

        stays_pending : (test : Bool) (x : Bearer) (c : ℕ) (k : Kind) → test ≡ false → IsBearerOf c k Pending x → IsBearerOf c k Pending (cond test (record x { state = Closing }) x)
        stays_pending true x c k is at = absurd (cc is)
        stays_pending false x c k is at = at

        is_closing : (test : Bool) (x : Bearer) (c : ℕ) (k : Kind) (st : State) → (test ≡ true) ⊎ (st ≡ Closing) → IsBearerOf c k st x
            → IsBearerOf c k Closing (cond test (record x { state = Closing }) x)
        is_closing true x c k st is at = record { of = at.of; is_kind = at.is_kind; in_state = refl }
        is_closing false x c k st (inl is) at = absurd (cc is)
        is_closing false x c k st (inr is) at = record { of = at.of; is_kind = at.is_kind; in_state = at.in_state ∙ is }

        here : (t : ℕ) (y : Session) → t ≡ session → get old.sessions t ≡ Some y → y.state ≡ Active
        here t y same e = ap (λ (k : Session). k.state) (one_value (get old.sessions session) y s (ap (λ k. get old.sessions k) (sym same) ∙ e) stands) ∙ active

        follows : (q : PendingRequest) → Follows old.sessions (insert old.sessions session (closing_session s)) old.bearers (changed (closing_bearer session) old.bearers) q
        follows q = record {
          waits = λ t o is at. at_insert old.sessions session (closing_session s) (IsInState Pending) t (λ y same e w. absurd (pending_active y.state w (here t y same e))) at;
          closes = λ t is at. at_insert old.sessions session (closing_session s) (IsInState Closing) t (λ y same e w. refl) at;
          default = λ c u o is w at.
              let other : c ≢ session = λ same. pending_active w.0.state w.2 (here c w.0 same w.1) in (
                closing_bearer session at.0,
                get-changed_some (closing_bearer session) old.bearers u at.0 at.1,
                stays_pending (eqb at.0.session session) at.0 c Default (ne_eqb at.0.session session (λ same. other (sym at.2.of ∙ same))) at.2,
              );
          wanted = λ c u o is by at. ⊎_elim
              (λ same. inr (
                (
                  closing_bearer session at.0,
                  get-changed_some (closing_bearer session) old.bearers u at.0 at.1,
                  is_closing (eqb at.0.session session) at.0 c Dedicated Pending (inl (eq-eqb at.0.session session (at.2.of ∙ same))) at.2,
                ),
                at_here old.sessions session (closing_session s) (IsInState Closing) c same refl,
              ))
              (λ other. inl (
                closing_bearer session at.0,
                get-changed_some (closing_bearer session) old.bearers u at.0 at.1,
                stays_pending (eqb at.0.session session) at.0 c Dedicated (ne_eqb at.0.session session (λ same. other (sym at.2.of ∙ same))) at.2,
              ))
              (cases_eq c session);
          ends =
              λ c u is by at. (
                closing_bearer session at.0,
                get-changed_some (closing_bearer session) old.bearers u at.0 at.1,
                is_closing (eqb at.0.session session) at.0 c Dedicated Closing (inr refl) at.2,
              );
        }

    -- what a pending Create Session Request is about
    pub is_session : (number : ℕ) (p : PendingRequest) (q : CreateSessionRequest) → get old.pending number ≡ Some p → p.request ≡ Create_session_request q
        → (a : AsksSession role old.sessions old.bearers number p) × (a.request ≡ q)
    is_session number p q stands asked = ⊎_elim
        (λ a. (a, let same : a.request ≡ q = cc (a.asked, asked) in same))
        (λ a. absurd (cc (a.asked, asked)))
        (about_opening role old.sessions old.bearers number p q.control.teid (ap opened_by asked) (sound.requests.each number p stands))

    -- what a pending Create Bearer Request is about
    pub is_bearer : (number : ℕ) (p : PendingRequest) (r : CreateBearerRequest) → get old.pending number ≡ Some p → p.request ≡ Create_bearer_request r
        → (a : AsksBearer role old.sessions old.bearers number p) × (a.request ≡ r)
    is_bearer number p r stands asked = ⊎_elim
        (λ a. absurd (cc (a.asked, asked)))
        (λ a. (a, let same : a.request ≡ r = cc (a.asked, asked) in same))
        (about_opening role old.sessions old.bearers number p r.context.user.teid (ap opened_by asked) (sound.requests.each number p stands))

    -- a pending session opens with its default bearer, and its request is finished
    pub session_opens : (number : ℕ) (p : PendingRequest) (a : AsksSession role old.sessions old.bearers number p) → get old.pending number ≡ Some p
        → (now : Session) (opened : Bearer) → now.state ≡ Active → (r : ℕ) × (now.remote ≡ Some r) → opened.session ≡ a.default.0.session
        → opened.identity ≡ a.default.0.identity → opened.kind ≡ a.default.0.kind → opened.state ≡ Active → (r : ℕ) × (opened.remote ≡ Some r)
        → IsSound role
        (record old {
          sessions = insert old.sessions a.request.control.teid now;
          bearers = insert old.bearers a.request.context.user.teid opened;
          pending = remove old.pending number;
        })
    session_opens number p a stands now opened active remote session identity kind opened_active opened_remote =
        let c = a.request.control.teid in
        let u = a.request.context.user.teid in
        let at = sound.contexts.each_bearer u a.default.0 a.default.1 in
        record {
          contexts = contexts_same old.drawn (insert old.sessions c now) old.bearers u a.default.0 opened a.default.1 session identity
              (record {
                own = at.own;
                of = there_insert old.sessions c now opened.session (at.of.0, ap (λ k. get old.sessions k) session ∙ at.of.1);
                named = λ x. opened_remote;
                blank = λ w. absurd (pending_active opened.state w opened_active);
                range = λ i e. at.range i (sym identity ∙ e);
              })
              (contexts_session old.drawn old.sessions old.bearers c now
              (record {
                own = (sound.contexts.each_session c a.waits.0 a.waits.1).own;
                named = λ n. remote;
                blank = λ w. absurd (pending_active now.state w active);
              }) sound.contexts);
          requests =
              requests_follow role old.sessions (insert old.sessions c now) old.bearers (insert old.bearers u opened) (remove old.pending number)
              (λ m q e. follows m q (found-remove old.pending number m q e))
              (requests_fewer role old.sessions old.bearers old.pending (remove old.pending number)
              (λ m q e. (found-remove old.pending number m q e).1) sound.requests);
          within =
              within_pending (insert old.sessions c now) (remove old.pending number)
              (omega (arith, len-insert_same old.sessions c now a.waits.0 a.waits.1)) (len-remove_most old.pending number)
              (λ m q e. (found-remove old.pending number m q e).1);
          addresses = λ packet. absurd (serving_not_packet (sym a.by ∙ packet));
        }
      where
        follows : (m : ℕ) (q : PendingRequest) → (m ≢ number) × (get old.pending m ≡ Some q)
            → Follows old.sessions (insert old.sessions a.request.control.teid now) old.bearers
            (insert old.bearers a.request.context.user.teid opened) q
        follows m q found =
            let apart : (t : ℕ) → opened_by q.request ≡ Some t → t ≢ a.request.control.teid =
            λ t o same. found.0 (sound.requests.lone m number q p t found.1 stands o (ap opened_by a.asked ∙ ap (λ k. Some k) (sym same))) in
            let is_default : (t : ℕ) (y : Bearer) → t ≡ a.request.context.user.teid → get old.bearers t ≡ Some y → y ≡ a.default.0 =
            λ t y same e.
            one_value (get old.bearers a.request.context.user.teid) y a.default.0 (ap (λ k. get old.bearers k) (sym same) ∙ e) a.default.1 in
            record {
              waits = λ t o is at. at_insert old.sessions a.request.control.teid now (IsInState Pending) t (λ y same e w. absurd (apart t o same)) at;
              closes =
                  λ t is at. at_insert old.sessions a.request.control.teid now (IsInState Closing) t
                  (λ y same e w. absurd (pending_closing y.state (ap (λ (k : Session). k.state)
                  (one_value (get old.sessions a.request.control.teid) y a.waits.0 (ap (λ k. get old.sessions k) (sym same) ∙ e) a.waits.1)
                  ∙ a.waits.2) w)) at;
              default =
                  λ s t o is w at. at_insert old.bearers a.request.context.user.teid opened (IsBearerOf s Default Pending) t
                  (λ y same e b. absurd (apart s o (sym b.of ∙ (ap (λ (k : Bearer). k.session) (is_default t y same e) ∙ a.default.2.of)))) at;
              wanted =
                  λ s t o is by at. inl (at_insert old.bearers a.request.context.user.teid opened (IsBearerOf s Dedicated Pending) t (λ y same e b.
                  absurd (default_dedicated y.kind (ap (λ (k : Bearer). k.kind) (is_default t y same e) ∙ a.default.2.is_kind) b.is_kind)) at);
              ends =
                  λ s t is by at. at_insert old.bearers a.request.context.user.teid opened (IsBearerOf s Dedicated Closing) t (λ y same e b.
                  absurd (default_dedicated y.kind (ap (λ (k : Bearer). k.kind) (is_default t y same e) ∙ a.default.2.is_kind) b.is_kind)) at;
            }

    -- a pending dedicated bearer opens, and its request is finished
    pub bearer_opens : (number : ℕ) (p : PendingRequest) (r : CreateBearerRequest) (b n : Bearer) → get old.pending number ≡ Some p
        → p.request ≡ Create_bearer_request r → get old.bearers r.context.user.teid ≡ Some b → b.kind ≡ Dedicated → b.state ≡ Pending
        → n.session ≡ b.session → n.kind ≡ b.kind → n.state ≡ Active → (t : ℕ) × (n.remote ≡ Some t) → ((i : ℕ) → n.identity ≡ Some i → IsIdentity i)
        → ((t : ℕ) (a : Bearer) (i : ℕ) → get old.bearers t ≡ Some a → a.session ≡ n.session → a.identity ≡ Some i → n.identity ≡ Some i → ⊥)
        → IsSound role (record old { bearers = insert old.bearers r.context.user.teid n; pending = remove old.pending number })
    bearer_opens number p r b n stands asked at dedicated waits session kind active remote range unused =
        let u = r.context.user.teid in
        let was = sound.contexts.each_bearer u b at in
        record {
          contexts = contexts_bearer old.drawn old.sessions old.bearers u n (record {
            own = was.own;
            of = (was.of.0, ap (λ k. get old.sessions k) session ∙ was.of.1);
            named = λ x. remote;
            blank = λ w. absurd (pending_active n.state w active);
            range = range;
          }) (λ t a i e other. unused t a i e) sound.contexts;
          requests =
              requests_follow role old.sessions old.sessions old.bearers (insert old.bearers u n) (remove old.pending number)
              (λ m q e. follows m q (found-remove old.pending number m q e))
              (requests_fewer role old.sessions old.bearers old.pending (remove old.pending number)
              (λ m q e. (found-remove old.pending number m q e).1) sound.requests);
          within = removed_within number;
          addresses = sound.addresses;
        }
      where
        is_it : (t : ℕ) (y : Bearer) → t ≡ r.context.user.teid → get old.bearers t ≡ Some y → y ≡ b
        is_it t y same e = one_value (get old.bearers r.context.user.teid) y b (ap (λ k. get old.bearers k) (sym same) ∙ e) at

        follows : (m : ℕ) (q : PendingRequest) → (m ≢ number) × (get old.pending m ≡ Some q) → Follows old.sessions old.sessions old.bearers (insert old.bearers r.context.user.teid n) q
        follows m q found = record {
          waits = λ t o is w. w;
          closes = λ t is w. w;
          default =
              λ s t o is w x. at_insert old.bearers r.context.user.teid n (IsBearerOf s Default Pending) t
              (λ y same e k. absurd (default_dedicated y.kind k.is_kind (ap (λ (z : Bearer). z.kind) (is_it t y same e) ∙ dedicated))) x;
          wanted =
              λ s t o is by x. inl (at_insert old.bearers r.context.user.teid n (IsBearerOf s Dedicated Pending) t (λ y same e k.
              absurd (found.0 (sound.requests.lone m number q p t found.1 stands o (ap opened_by asked ∙ ap (λ z. Some z) (sym same))))) x);
          ends =
              λ s t is by x. at_insert old.bearers r.context.user.teid n (IsBearerOf s Dedicated Closing) t
              (λ y same e k. absurd (pending_closing y.state (ap (λ (z : Bearer). z.state) (is_it t y same e) ∙ waits) k.in_state)) x;
        }
