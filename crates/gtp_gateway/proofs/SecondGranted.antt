-- A bearer that is made for the second message of a datagram before the first is applied.
use Rattle.std.proofs.Common.{◌≡◌, ◌≢◌, ⊎_elim, ◌<◌, ◌≤◌, ◌+◌, ℕ, Bool, true, false, ◌∷◌, length, Option, Some, None, refl, sym, ◌∙◌, ap, subst, arith}
use Rattle.std.specs.Prelude.{not, ◌==◌, ◌||◌, ◌↔◌, IsSome}
use Rattle.std.specs.FinMap.{get, insert, same_map, gets, nat_cmp-IsAntisymmetric}
use Rattle.std.specs.Cmp.{nat_cmp_total}
use Rattle.std.proofs.lemmas.Bool.Decides.{nat_tests}
use Rattle.gtp_values.specs.FiniteMap.{FiniteMap, Among}
use Rattle.gtp_values.proofs.Tests.{same_number, unequal}
use Rattle.gtp_tables.specs.Contexts.{is_opened}
use Rattle.gtp_tables.specs.Identity.{HasIdentity, IsLowestUnused, HasAll}
use Rattle.gtp_machine.specs.Choice.{HasDraws}
use Rattle.gtp_machine.specs.Node.{Session, Bearer, Node}
use Rattle.gtp_machine.specs.Removal.{finished_about}
use Rattle.gtp_machine.proofs.Basics.FiniteMaps.{found-insert, found-kept, get-kept, get-insert_same, get-insert_other}
use Rattle.gtp_machine.proofs.Basics.Facts.{one_value}
use Rattle.gtp_gateway.specs.declared.tables.teids.OneDrawn.{OneDrawn}
use Rattle.gtp_gateway.specs.declared.receive.restart_counter.Heard.{Heard}
use Rattle.gtp_gateway.specs.declared.receive.restart_counter.Heard.TheVariants as heards
use Rattle.gtp_gateway.specs.declared.tables.opening.ResponseVerdict.{ResponseVerdict}
use Rattle.gtp_gateway.specs.declared.tables.opening.ResponseVerdict.TheVariants.{Drops, Finishes, OpensSession, OpensBearer}
use Rattle.gtp_gateway.specs.tables.Change.{IsAbove}
use Rattle.gtp_gateway.specs.tables.Teids.{IsOneDrawn}
use Rattle.gtp_gateway.specs.declared.receive.create_bearer_request.judge.BearerGrant.{BearerGrant}
use Rattle.gtp_gateway.specs.receive.CreateBearerRequest.{IsGrant, StandsWith}
use Rattle.gtp_gateway.specs.receive.RestartCounter.{node_heard}
use Rattle.gtp_gateway.specs.receive.Piggybacked.{node_after_first, IsSpared, IsBeside, MayStand}
use Rattle.gtp_gateway.specs.command.Purpose.{session_of, bearer_of}
use Rattle.gtp_gateway.specs.receive.CreateSessionResponse.{IsOfSession}
use Rattle.gtp_gateway.specs.tables.Opening.{node_by, IsOpenedAt, CanApply}
use Rattle.gtp_gateway.proofs.Opened.{kept_insert, bearer_stood}
use Rattle.gtp_gateway.proofs.BeforeSecond.{finished_session, is_one, settled_counter, settled_drawn, settled_session}

-- ---- a bearer that is put in before

with_bearer : Node → ℕ → Bearer → Node
with_bearer n t b = record n { bearers = insert n.bearers t b }

not_itself : (n : ℕ) → n < n → ⊥
not_itself n less = omega (arith, less)

module _ (n : Node) (t : ℕ) (b : Bearer) where
  abbrev more : Node
  more = record n { bearers = insert n.bearers t b }

  -- it stays as the counter is heard
  pub heard_more : (heard : Heard) → IsSpared heard b.session n.sessions → node_heard heard more ≡ record (node_heard heard n) { bearers = insert (node_heard heard n).bearers t b }
  heard_more (heards.Later counter) spared =
      λ i. record (node_heard (heards.Later counter) n) { bearers = kept_insert (λ (k : ℕ) (x : Bearer). not (false || is_opened (get n.sessions x.session))) n.bearers t b (ap not spared) i }
  heard_more heard spared = refl

  swapped : (at : ℕ) (bearer : Bearer) → t ≢ at → insert (insert n.bearers t b) at bearer ≡ insert (insert n.bearers at bearer) t b
  swapped at bearer other =
      same_map nat_cmp_total nat_cmp-IsAntisymmetric _ _ (λ q.
      let it : get (insert (insert n.bearers t b) at bearer) q ≡ get (insert (insert n.bearers at bearer) t b) q = grind (arith, gets, nat_tests, other) in
      it)

  finished_more : (number : ℕ) (session bearer : Option ℕ) → bearer ≡ None → ((about : ℕ) → session ≡ Some about → b.session ≢ about)
      → finished_about more number session bearer
      ≡ record (finished_about n number session bearer) { bearers = insert (finished_about n number session bearer).bearers t b }
  finished_more number session (Some at) none other = absurd cc
  finished_more number None None none other = refl
  finished_more number (Some gone) None none other =
      λ i. record (finished_about n number (Some gone) None) { bearers = kept_insert (λ (k : ℕ) (x : Bearer). not (false || (x.session == gone))) n.bearers t b (stays (b.session == gone) refl) i }
    where
      stays : (same : Bool) → (b.session == gone) ≡ same → not (false || same) ≡ true
      stays true is = absurd (other gone refl (same_number b.session gone is))
      stays false is = refl

  -- and as the response is applied
  by_more : (v : ResponseVerdict) (number : ℕ) → IsBeside v t b → node_by v number more ≡ record (node_by v number n) { bearers = insert (node_by v number n).bearers t b }
  by_more (Drops why) number beside = refl
  by_more (Finishes purpose outcome) number beside = finished_more number (session_of purpose) (bearer_of purpose) beside.0 beside.1
  by_more (OpensSession session opened at bearer) number beside = λ i. record (node_by (OpensSession session opened at bearer) number n) { bearers = swapped at bearer beside i }
  by_more (OpensBearer at bearer) number beside = λ i. record (node_by (OpensBearer at bearer) number n) { bearers = swapped at bearer beside i }

  opened_more : (at : ℕ) (opened : Bearer) → t ≢ at → IsOpenedAt n.bearers at opened → IsOpenedAt (insert n.bearers t b) at opened
  opened_more at opened other is = record { bearer = is.bearer; stands = get-insert_other n.bearers t b at (λ same. other (sym same)) ∙ is.stands; blank = is.blank; of = is.of }

  -- the response can still be applied
  can_more : (v : ResponseVerdict) → IsBeside v t b → CanApply v n → CanApply v more
  can_more (OpensSession session opened at bearer) beside can = (can.0, opened_more at bearer beside can.1)
  can_more (OpensBearer at bearer) beside can = opened_more at bearer beside can
  can_more v beside can = tt

-- so both may be done in either order
pub settled_more : (heard : Heard) (v : ResponseVerdict) (number : ℕ) (n : Node) (t : ℕ) (b : Bearer) → MayStand heard v t b n
    → node_after_first heard v number (record n { bearers = insert n.bearers t b }) ≡ record (node_after_first heard v number n) { bearers = insert (node_after_first heard v number n).bearers t b }
settled_more heard v number n t b may = ap (node_by v number) (heard_more n t b heard may.spared) ∙ by_more (node_heard heard n) t b v number may.beside

pub can_settle_more : (heard : Heard) (v : ResponseVerdict) (n : Node) (t : ℕ) (b : Bearer) → MayStand heard v t b n → CanApply v (node_heard heard n)
    → CanApply v (node_heard heard (record n { bearers = insert n.bearers t b }))
can_settle_more heard v n t b may can = subst (CanApply v) (sym (heard_more n t b heard may.spared)) (can_more (node_heard heard n) t b v may.beside can)

-- ---- a bearer of a session that is active then may be put in before

spared : (heard : Heard) (n : Node) (t : ℕ) (x : Session) → get (node_heard heard n).sessions t ≡ Some x → IsSpared heard t n.sessions
spared (heards.Later counter) n t x is = by (is_opened (get n.sessions t)) (found-kept (λ k (s : Session). not (is_opened (get n.sessions k))) n.sessions t x is).0
  where
    by : (b : Bool) → not b ≡ true → b ≡ false
    by true is = absurd (cc is)
    by false is = refl
spared heard n t x is = tt

beside : (v : ResponseVerdict) (number : ℕ) (heard : Heard) (n : Node) (t : ℕ) (b : Bearer) (s : Session) → IsOfSession v (node_heard heard n)
    → CanApply v (node_heard heard n) → IsAbove n.bearers t → get (node_after_first heard v number n).sessions b.session ≡ Some s → IsBeside v t b
beside (Drops why) number heard n t b s of can above is = tt
beside (Finishes purpose outcome) number heard n t b s of can above is = (of, (finished_session (node_heard heard n) number (session_of purpose) (bearer_of purpose) of b.session s is).1)
beside (OpensSession session opened at bearer) number heard n t b s of can above is = λ same.
    let low : at < t = above at can.1.bearer (bearer_stood heard n at can.1.bearer can.1.stands) in
    absurd (not_itself t (subst (λ k. k < t) (sym same) low))
beside (OpensBearer at bearer) number heard n t b s of can above is = absurd of

pub may_stand : (heard : Heard) (v : ResponseVerdict) (number : ℕ) (n : Node) (t : ℕ) (b : Bearer) (s : Session) → IsOfSession v (node_heard heard n)
    → CanApply v (node_heard heard n) → IsAbove n.bearers t → get (node_after_first heard v number n).sessions b.session ≡ Some s
    → MayStand heard v t b n
may_stand heard v number n t b s of can above is =
    let stood = settled_session (node_heard heard n) number v of can b.session s is in
    record { spared = spared heard n b.session stood.0 stood.1; beside = beside v number heard n t b s of can above is }

-- ---- the bearers of a session that stands then

module _ (n : Node) (number : ℕ) (t : ℕ) where
  abbrev Has : Node → ℕ → Type 0
  Has x identity = HasIdentity x.bearers t identity

  finished_has : (session bearer : Option ℕ) → bearer ≡ None → (s : Session) → get (finished_about n number session bearer).sessions t ≡ Some s → (identity : ℕ)
      → Has n identity ↔ Has (finished_about n number session bearer) identity
  finished_has session (Some b) none s is identity = absurd cc
  finished_has None None none s is identity = (
    λ h. record { teid = h.teid; bearer = h.bearer; stands = h.stands; of = h.of; has = h.has },
    λ h. record { teid = h.teid; bearer = h.bearer; stands = h.stands; of = h.of; has = h.has },
  )
  finished_has (Some gone) None none s is identity = (
    λ h. record { teid = h.teid; bearer = h.bearer; stands = get-kept test n.bearers h.teid h.bearer h.stands (stays h.bearer h.of (h.bearer.session == gone) refl); of = h.of; has = h.has },
    λ h. record { teid = h.teid; bearer = h.bearer; stands = (found-kept test n.bearers h.teid h.bearer h.stands).1; of = h.of; has = h.has },
  )
    where
      test : ℕ → Bearer → Bool
      test k x = not (false || (x.session == gone))

      stays : (x : Bearer) → x.session ≡ t → (same : Bool) → (x.session == gone) ≡ same → not (false || same) ≡ true
      stays x of true same = absurd ((finished_session n number (Some gone) None refl t s is).1 gone refl (sym of ∙ same_number x.session gone same))
      stays x of false same = refl

  opened_has : (at : ℕ) (opened : Bearer) → IsOpenedAt n.bearers at opened → ((b : Bearer) → get n.bearers at ≡ Some b → opened.identity ≡ b.identity)
      → (identity : ℕ) → HasIdentity n.bearers t identity ↔ HasIdentity (insert n.bearers at opened) t identity
  opened_has at opened can keeps identity = (λ h. into h (h.teid == at) refl, out)
    where
      into : (h : HasIdentity n.bearers t identity) (same : Bool) → (h.teid == at) ≡ same → HasIdentity (insert n.bearers at opened) t identity
      into h true is =
          let here : h.teid ≡ at = same_number h.teid at is in
          let stood : get n.bearers at ≡ Some h.bearer = ap (get n.bearers) (sym here) ∙ h.stands in
          let one : can.bearer ≡ h.bearer = one_value (get n.bearers at) can.bearer h.bearer can.stands stood in
          record { teid = at; bearer = opened; stands = get-insert_same n.bearers at opened; of = can.of ∙ (ap (λ (x : Bearer). x.session) one ∙ h.of); has = keeps h.bearer stood ∙ h.has }
      into h false is = record { teid = h.teid; bearer = h.bearer; stands = get-insert_other n.bearers at opened h.teid (unequal h.teid at is) ∙ h.stands; of = h.of; has = h.has }

      out : HasIdentity (insert n.bearers at opened) t identity → HasIdentity n.bearers t identity
      out h = ⊎_elim
          (λ here. record {
            teid = at;
            bearer = can.bearer;
            stands = can.stands;
            of = sym can.of ∙ (ap (λ (x : Bearer). x.session) here.1 ∙ h.of);
            has = sym (keeps can.bearer can.stands) ∙ (ap (λ (x : Bearer). x.identity) here.1 ∙ h.has);
          })
          (λ other. record { teid = h.teid; bearer = h.bearer; stands = other.1; of = h.of; has = h.has })
          (found-insert n.bearers at opened h.teid h.bearer h.stands)

  by_has : (v : ResponseVerdict) → IsOfSession v n → CanApply v n → (s : Session) → get (node_by v number n).sessions t ≡ Some s → (identity : ℕ) → Has n identity ↔ Has (node_by v number n) identity
  by_has (Drops why) of can s is identity = (λ h. h, λ h. h)
  by_has (Finishes purpose outcome) of can s is identity = finished_has (session_of purpose) (bearer_of purpose) of s is identity
  by_has (OpensSession session opened at bearer) of can s is identity = opened_has at bearer can.1 of identity
  by_has (OpensBearer at bearer) of can s is identity = absurd of

-- a bearer that stands then stood before
finished_stood : (n : Node) (number : ℕ) (session bearer : Option ℕ) → bearer ≡ None → (t : ℕ) (b : Bearer) → get (finished_about n number session bearer).bearers t ≡ Some b → get n.bearers t ≡ Some b
finished_stood n number session (Some at) none t b is = absurd cc
finished_stood n number None None none t b is = is
finished_stood n number (Some gone) None none t b is = (found-kept (λ (k : ℕ) (x : Bearer). not (false || (x.session == gone))) n.bearers t b is).1

by_stood : (n : Node) (number : ℕ) (v : ResponseVerdict) → IsOfSession v n → CanApply v n → (t : ℕ) (b : Bearer)
    → get (node_by v number n).bearers t ≡ Some b → (c : Bearer) × (get n.bearers t ≡ Some c)
by_stood n number (Drops why) of can t b is = (b, is)
by_stood n number (Finishes purpose outcome) of can t b is = (b, finished_stood n number (session_of purpose) (bearer_of purpose) of t b is)
by_stood n number (OpensSession session opened at bearer) of can t b is = ⊎_elim
    (λ here. (can.1.bearer, ap (get n.bearers) here.0 ∙ can.1.stands))
    (λ other. (b, other.1))
    (found-insert n.bearers at bearer t b is)
by_stood n number (OpensBearer at bearer) of can t b is = absurd of

-- so the applied node is judged by what is known before it is applied
pub settled_stands : (heard : Heard) (v : ResponseVerdict) (number : ℕ) (n : Node) (t : ℕ) (found : Option Session) (bearers : FiniteMap Bearer)
    → IsOfSession v (node_heard heard n) → CanApply v (node_heard heard n) → found ≡ get (node_after_first heard v number n).sessions t
    → bearers ≡ (node_heard heard n).bearers
    → StandsWith t found bearers n (node_after_first heard v number n)
settled_stands heard v number n t found bearers of can is same =
    let left = node_heard heard n in
    record {
      session = sym is;
      identities = λ some identity.
          let stands = is_one found some in
          subst (λ (bs : FiniteMap Bearer). HasIdentity bs t identity ↔ HasIdentity (node_after_first heard v number n).bearers t identity) (sym same)
          (by_has left number t v of can stands.0 (sym is ∙ stands.1) identity);
      drawn = settled_drawn heard v number n;
      counter = settled_counter heard v number n;
      stood = λ k b stands. let before = by_stood left number v of can k b stands in (before.0, bearer_stood heard n k before.0 before.1);
    }

-- ---- what is granted there

pub drawn_there : (t : ℕ) (found : Option Session) (bearers : FiniteMap Bearer) (old node : Node) (d : OneDrawn) → StandsWith t found bearers old node → IsOneDrawn d old → IsOneDrawn d node
drawn_there t found bearers old node d with_it drawn = record {
  left = record { left = subst (λ ts. length ts + 1 ≤ 16777215) (sym with_it.drawn) drawn.left.left };
  are = record { counter = drawn.are.counter ∙ sym with_it.counter; drawn = drawn.are.drawn ∙ (λ i. d.teid ∷ sym with_it.drawn i) };
  free = record { counted = drawn.free.counted ∙ sym with_it.counter; numbered = drawn.free.numbered; undrawn = subst (λ ts. Among d.teid ts → ⊥) (sym with_it.drawn) drawn.free.undrawn };
  above = λ key b stands. let before = with_it.stood key b stands in drawn.above key before.0 before.1;
}

pub draws_there : (t : ℕ) (found : Option Session) (bearers : FiniteMap Bearer) (old node : Node) → StandsWith t found bearers old node → HasDraws node 1 → HasDraws old 1
draws_there t found bearers old node with_it has = record { left = subst (λ ts. length ts + 1 ≤ 16777215) with_it.drawn has.left }

pub lowest_there : (t : ℕ) (bearers others : FiniteMap Bearer) (identity : ℕ) → ((i : ℕ) → HasIdentity bearers t i ↔ HasIdentity others t i)
    → IsLowestUnused bearers t identity → IsLowestUnused others t identity
lowest_there t bearers others identity same lowest = record {
  range = lowest.range;
  unused = λ k b stands of has. let h = (same identity).1 (record { teid = k; bearer = b; stands = stands; of = of; has = has }) in lowest.unused h.teid h.bearer h.stands h.of h.has;
  lower = λ i low less. (same i).0 (lowest.lower i low less);
}

pub all_there : (t : ℕ) (bearers others : FiniteMap Bearer) → ((i : ℕ) → HasIdentity bearers t i ↔ HasIdentity others t i) → HasAll bearers t → HasAll others t
all_there t bearers others same all i range = (same i).0 (all i range)

pub granted_there : (t : ℕ) (found : Option Session) (bearers : FiniteMap Bearer) (old node : Node) (g : BearerGrant) → StandsWith t found bearers old node
    → IsSome found → IsLowestUnused bearers t g.identity → IsOneDrawn g.drawn old → IsGrant t g node
granted_there t found bearers old node g with_it some lowest drawn = record {
  identity = lowest_there t bearers node.bearers g.identity (with_it.identities some) lowest;
  drawn = drawn_there t found bearers old node g.drawn with_it drawn;
}

-- a node stands with what it has itself
pub stands_itself : (n : Node) (t : ℕ) (found : Option Session) (bearers : FiniteMap Bearer) → found ≡ get n.sessions t → bearers ≡ n.bearers → StandsWith t found bearers n n
stands_itself n t found bearers is same = record {
  session = sym is;
  identities = λ some identity. subst (λ (bs : FiniteMap Bearer). HasIdentity bs t identity ↔ HasIdentity n.bearers t identity) (sym same) (λ h. h, λ h. h);
  drawn = refl;
  counter = refl;
  stood = λ k b stands. (b, stands);
}
