-- Sessions that are granted at a gateway that has heard a counter.
use Rattle.std.proofs.Common.{◌≡◌, ◌≢◌, ◌⊎◌, inl, inr, nat_eq, ◌<◌, ◌≤◌, ◌+◌, ℕ, Bool, true, false, List, [], ◌∷◌, length, Option, Some, None, refl, sym, ◌∙◌, ap, subst, arith}
use Rattle.std.specs.Prelude.{not, ◌||◌}
use Rattle.std.specs.Cmp.Lexicographic.{pointwise, same_text}
use Rattle.std.specs.List.{list_any}
use Rattle.std.specs.FinMap.{get, insert, remove, same_map, gets, nat_cmp-IsAntisymmetric}
use Rattle.std.specs.Cmp.{nat_cmp_total}
use Rattle.std.proofs.lemmas.Bool.Decides.{nat_tests}
use Rattle.std.proofs.Math.Bool.{or-true}
use Rattle.gtp_values.specs.FiniteMap.{FiniteMap, Among}
use Rattle.gtp_values.specs.PdnAddress.{PdnAddress}
use Rattle.gtp_tables.specs.Contexts.{is_opened}
use Rattle.gtp_tables.specs.declared.pool.Pools.{Pools}
use Rattle.gtp_tables.specs.declared.pool.IpVersion.{IpVersion}
use Rattle.gtp_tables.specs.declared.pool.IpVersion.TheVariants.{V4, V6}
use Rattle.gtp_tables.specs.Free.{count_of, address_at, IsLowestFree, IsUsedUp, IsLowestPart, IsLowestGiven, AreUsedUp}
use Rattle.gtp_machine.specs.Choice.{IsFree, HasDraws, IsFreeAddress, HasFreeAddress, asked_by, IsPart, IsGiven, CanGive, HasHeldRoom}
use Rattle.gtp_machine.specs.Node.{Session, Bearer, Node, Arrival}
use Rattle.gtp_machine.proofs.Basics.FiniteMaps.{found-insert}
use Rattle.gtp_gateway.specs.declared.receive.restart_counter.Heard.{Heard}
use Rattle.gtp_gateway.specs.declared.receive.restart_counter.Heard.TheVariants as heards
use Rattle.gtp_gateway.specs.tables.Change.{IsAbove}
use Rattle.gtp_gateway.specs.receive.RestartCounter.{node_heard}
use Rattle.gtp_gateway.proofs.RestartCounters.{counter_stays, drawn_stays}
use Rattle.gtp_gateway.proofs.Opened.{none_where, kept_insert, session_stood}
use Rattle.gtp_gateway.proofs.Templates.{same_octets}
use Rattle.gtp_machine.specs.Config.{Template, template_asked}
use Rattle.gtp_machine.specs.Input.{Effect}
use Rattle.gtp_machine.specs.Message.{CreateSessionRequest, CreateSessionResponse}
use Rattle.gtp_machine.specs.Packet.{AnswersWith, session_cause, session_response, made_session, session_made, SessionJudged, CreateSessionAsked}
use Rattle.gtp_gateway.specs.receive.Allocations.{SendsOrOpens, AlwaysSendsOrOpens}
use Rattle.gtp_gateway.proofs.Rules.{follows}
use Rattle.gtp_gateway.proofs.Allocations.{sends, sends_answer}

-- with a template's bearer or without
answered_with : (template : Option Template) (request : Arrival) (a : CreateSessionResponse) (cause session : ℕ) (s : Session) (made : Node) (e : Effect)
    → AnswersWith template request a cause session s made e → SendsOrOpens e
answered_with None request a cause session s made e is = sends (λ none. cc) is
answered_with (Some t) request a cause session s made e (inl alone) = sends (λ none. cc) alone.1
answered_with (Some t) request a cause session s made e (inr (can, adds)) = sends (λ none. cc) adds.gives

session_judged : (request : Arrival) (q : CreateSessionRequest) (old : Node) (e : Effect) → SessionJudged request q old e → SendsOrOpens e
session_judged request q old e r =
    follows (sends_answer request old) (λ one.
    follows (sends_answer request old) (λ identity.
    follows (sends_answer request old) (λ configured. follows (sends_answer request old) (λ served. follows (sends_answer request old) (λ few. follows (sends_answer request old) (λ can makes.
    answered_with (template_asked old.config q.access_point) request (session_response old q makes.control makes.user makes.address) (session_cause q.pdn makes.address) makes.control
    (made_session q makes.address) (session_made old q makes.control makes.user makes.address) e makes.gives)))))) r

pub create_session_asked : (request : Arrival) (q : CreateSessionRequest) (old : Node) → HasHeldRoom old → AlwaysSendsOrOpens (CreateSessionAsked request q) old
create_session_asked request q old room e r = follows (λ full is. absurd (full room)) (λ few. session_judged request q old e) r

-- ---- what hearing leaves as it was

pub draws_left : (heard : Heard) (n : Node) (k : ℕ) → HasDraws n k → HasDraws (node_heard heard n) k
draws_left heard n k has = record { left = subst (λ (ts : List ℕ). length ts + k ≤ 16777215) (sym (drawn_stays heard n)) has.left }

pub still_free : (heard : Heard) (n : Node) (t : ℕ) → IsFree n t → IsFree (node_heard heard n) t
still_free heard n t free =
    record {
      counted = free.counted ∙ sym (counter_stays heard n);
      numbered = free.numbered;
      undrawn = subst (λ (ts : List ℕ). Among t ts → ⊥) (sym (drawn_stays heard n)) free.undrawn;
    }

pub still_above : (heard : Heard) (n : Node) (t : ℕ) → IsAbove n.sessions t → IsAbove (node_heard heard n).sessions t
still_above heard n t above key s is = above key s (session_stood heard n key s is)

below_itself : (n : ℕ) → n < n → ⊥
below_itself n h = omega (arith, h)

-- under a TEID above all others nothing stands
pub none_above : {X : Type 0} (table : FiniteMap X) (t : ℕ) → IsAbove table t → get table t ≡ None
none_above table t above = none_where (get table t) (λ x is. below_itself t (above t x is))

-- a TEID above all others is above one more below it
pub above_one : {X : Type 0} (table : FiniteMap X) (u t : ℕ) (x : X) → IsAbove table t → u < t → IsAbove (insert table u x) t
above_one table u t x above less key y is = by (found-insert table u x key y is)
  where
    by : ((key ≡ u) × (x ≡ y)) ⊎ ((key ≢ u) × (get table key ≡ Some y)) → key < t
    by (inl (same, it)) = omega (arith, same, less)
    by (inr (other, there)) = above key y there

-- what is put where nothing stands is taken back
pub taken_back : {X : Type 0} (table : FiniteMap X) (t : ℕ) (x : X) → get table t ≡ None → remove (insert table t x) t ≡ table
taken_back table t x none = same_map nat_cmp_total nat_cmp-IsAntisymmetric _ _ (λ q. let it : get (remove (insert table t x) t) q ≡ get table q = grind (arith, gets, nat_tests, none) in it)

-- ---- a bearer that is made before the counter is heard

abbrev with_bearer : Node → ℕ → Bearer → Node
with_bearer n t b = record n { bearers = insert n.bearers t b }

-- it stays, where its session is not there yet
pub heard_with : (heard : Heard) (n : Node) (t : ℕ) (b : Bearer) → get n.sessions b.session ≡ None → node_heard heard (with_bearer n t b) ≡ with_bearer (node_heard heard n) t b
heard_with (heards.Later counter) n t b none =
    let stays = ap (λ (o : Option Session). not (false || is_opened o)) none in
    λ i. record (node_heard (heards.Later counter) n) { bearers = kept_insert (λ (k : ℕ) (x : Bearer). not (false || is_opened (get n.sessions x.session))) n.bearers t b stays i }
heard_with heard n t b none = refl

-- ---- addresses

module _ (n : Node) (sessions : FiniteMap Session) (pools : Pools) (same : sessions ≡ n.sessions) (of : pools ≡ n.config.pools) where
  free_address : (version : IpVersion) (address : List ℕ) → IsLowestFree version sessions pools address → IsFreeAddress n version address
  free_address version address lowest =
      record {
        place = lowest.place;
        in_pool = subst (λ (p : Pools). lowest.place < count_of p version) of lowest.in_pool;
        is = lowest.is ∙ ap (λ (p : Pools). address_at p version lowest.place) of;
        unused = λ t s stands. lowest.unused t s (ap (λ (m : FiniteMap Session). get m t) same ∙ stands);
      }

  no_address : (version : IpVersion) → IsUsedUp version sessions pools → HasFreeAddress n version → ⊥
  no_address version used has =
      let free = has.free in
      let at = used free.place (subst (λ (p : Pools). free.place < count_of p version) (sym of) free.in_pool) in
      free.unused at.teid at.session (ap (λ (m : FiniteMap Session). get m at.teid) (sym same) ∙ at.stands)
      (at.has ∙ ap (λ (k : List ℕ). Some k) (ap (λ (p : Pools). address_at p version free.place) of ∙ sym free.is))

  -- the lowest that is free is one that may be given, and so is none where there is none
  part_given : (pdn : ℕ) (version : IpVersion) (part : Option (List ℕ)) → IsLowestPart sessions pools (asked_by pdn) version part → IsPart n pdn version part
  part_given pdn version None none = λ h. no_address version (none h.0) h.1
  part_given pdn version (Some address) lowest = (lowest.0, free_address version address lowest.1)

  pub lowest_given : (pdn : ℕ) (address : PdnAddress) → IsLowestGiven sessions pools (asked_by pdn) address → IsGiven n pdn address
  lowest_given pdn address lowest =
      record {
        v4 = part_given pdn V4 address.v4 lowest.v4;
        v6 = part_given pdn V6 address.v6 lowest.v6;
        some_part = lowest.some_part;
      }

  pub none_given : (pdn : ℕ) → AreUsedUp sessions pools (asked_by pdn) → CanGive n pdn → ⊥
  none_given pdn used can = no_address can.version (used can.version can.asked) can.free

-- ---- access points

pub any_among : (x : List ℕ) (xs : List (List ℕ)) → list_any (λ y. pointwise nat_eq y x) xs ≡ true → Among x xs
any_among x [] is = absurd cc
any_among x (y ∷ ys) is = by (pointwise nat_eq y x) refl is (any_among x ys)
  where
    by : (b : Bool) → pointwise nat_eq y x ≡ b → (b || list_any (λ z. pointwise nat_eq z x) ys) ≡ true → (list_any (λ z. pointwise nat_eq z x) ys ≡ true → Among x ys) → (x ≡ y) ⊎ Among x ys
    by true same is later = inl (sym (same_text y x (sym same)))
    by false other is later = inr (later is)

pub among_any : (x : List ℕ) (xs : List (List ℕ)) → Among x xs → list_any (λ y. pointwise nat_eq y x) xs ≡ true
among_any x [] among = absurd among
among_any x (y ∷ ys) (inl is) = ap (λ (b : Bool). b || list_any (λ z. pointwise nat_eq z x) ys) (subst (λ (z : List ℕ). pointwise nat_eq z x ≡ true) is (same_octets x))
among_any x (y ∷ ys) (inr later) = ap (λ (b : Bool). pointwise nat_eq y x || b) (among_any x ys later) ∙ or-true (pointwise nat_eq y x)
