-- What goes with an Error Indication.
use Rattle.std.proofs.Common.{◌≡◌, ◌<◌, ◌≤◌, ◌↔◌, ℕ, ◌&&◌, Bool, true, false, cond, IsTrue, Option, Some, None, refl, sym, ◌∙◌, ap, subst, nat_eq, arith}
use Rattle.std.specs.Prelude.{◌==◌, ◌||◌, not, nat_lt, IfSome, IfNone}
use Rattle.std.specs.FinMap.{get, remove, same_map, nat_cmp-IsAntisymmetric}
use Rattle.std.specs.Cmp.{nat_cmp_total}
use Rattle.gtp_values.specs.FiniteMap.{FiniteMap, kept}
use Rattle.gtp_values.specs.Number.{is_number}
use Rattle.std.proofs.lemmas.Bool.Decides.{nat_tests}
use Rattle.gtp_values.specs.declared.identifiers.Teid.{Teid}
use Rattle.gtp_tables.specs.Index.{HasDefault, HasRemote, IsUnnamed, is_default, default_of, names}
use Rattle.gtp_tables.proofs.Defaults.{kind_is}
use Rattle.gtp_tables.proofs.BySession.{is_passed}
use Rattle.gtp_tables.proofs.Kept.{passing, get_kept}
use Rattle.gtp_machine.specs.Node.{Session, Bearer, Kind, Default, Dedicated}
use Rattle.gtp_machine.specs.User.{is_default_to, default_among}
use Rattle.gtp_machine.proofs.Basics.FiniteMaps.{found-kept, get-kept}
use Rattle.gtp_machine.proofs.Sound.Broken.{breaks_by_default}
use Rattle.std.proofs.lemmas.Bool.{and_from, and_right, or_from, or_left, or_parts, or_right}
use Rattle.gtp_values.proofs.Tests.{same_number, itself, number_is, both}
use Rattle.gtp_gateway.proofs.Removed.{all_kept, one_removed}

three : (a b c : Bool) → (a && b && c) ≡ true → (a ≡ true) × (b ≡ true) × (c ≡ true)
three true true true h = (refl, refl, refl)
three a b c h = absurd cc

module _ (m : FiniteMap Bearer) (remote session : ℕ) where
  among : HasDefault m remote session → default_among remote session m ≡ true
  among d =
      let b = d.at.bearer in
      let is : is_default_to remote session b ≡ true =
      ap (λ (k : Kind). is_default k && is_number remote b.remote && (b.session == session)) d.default
      ∙ (ap (λ (o : Option ℕ). true && is_number remote o && (b.session == session)) d.at.has
      ∙ (ap (λ (n : ℕ). true && (remote == remote) && (n == session)) d.of
      ∙ (ap (λ (c : Bool). true && c && (session == session)) (itself remote) ∙ itself session))) in
      (breaks_by_default remote session m).1 (d.teid, b, d.at.stands, is)

  has : default_among remote session m ≡ true → HasDefault m remote session
  has is =
      let at = (breaks_by_default remote session m).0 is in
      let b : Bearer = at.1 in
      let parts = three (is_default b.kind) (is_number remote b.remote) (b.session == session) at.3 in
      record { teid = at.0; at = record { bearer = b; stands = at.2; has = number_is remote b.remote parts.1 }; default = kind_is b.kind parts.0; of = same_number b.session session parts.2 }

  -- a session goes where its default bearer has the remote
  pub default_same : (r : Bool) → IsTrue r ↔ HasDefault m remote session → r ≡ default_among remote session m
  default_same true test = sym (among (test.0 refl))
  default_same false test = by (default_among remote session m) refl
    where
      by : (d : Bool) → default_among remote session m ≡ d → false ≡ d
      by true is = test.1 (has is)
      by false is = refl

-- tests that agree on what is there keep the same
pub kept_same : {X : Type 0} (f g : ℕ → X → Bool) (m : FiniteMap X) → ((q : ℕ) (x : X) → get m q ≡ Some x → f q x ≡ g q x) → kept f m ≡ kept g m
kept_same {X} f g m each = same_map nat_cmp_total nat_cmp-IsAntisymmetric (kept f m) (kept g m) (λ q. get_kept f m q ∙ (by q (get m q) refl ∙ sym (get_kept g m q)))
  where
    by : (q : ℕ) (o : Option X) → get m q ≡ o → passing f q o ≡ passing g q o
    by q None is = refl
    by q (Some x) is = ap (λ (c : Bool). cond c (Some x) None) (each q x is)

-- of what was kept by one test, what another keeps
pub kept_after : {X : Type 0} (f g h : ℕ → X → Bool) (m : FiniteMap X) → ((q : ℕ) (x : X) → get m q ≡ Some x → (g q x && f q x) ≡ h q x) → kept f (kept g m) ≡ kept h m
kept_after {X} f g h m each =
    same_map nat_cmp_total nat_cmp-IsAntisymmetric (kept f (kept g m)) (kept h m)
    (λ q. get_kept f (kept g m) q ∙ (ap (passing f q) (get_kept g m q) ∙ (by q (get m q) refl ∙ sym (get_kept h m q))))
  where
    twice : (a b : Bool) (q : ℕ) (x : X) → g q x ≡ a → f q x ≡ b → passing f q (cond (g q x) (Some x) None) ≡ cond (a && b) (Some x) None
    twice true true q x is also = rw (is, also) refl
    twice true false q x is also = rw (is, also) refl
    twice false b q x is also = rw is refl

    by : (q : ℕ) (o : Option X) → get m q ≡ o → passing f q (passing g q o) ≡ passing h q o
    by q None is = refl
    by q (Some x) is = twice (g q x) (f q x) q x refl refl ∙ ap (λ (c : Bool). cond c (Some x) None) (each q x is)

-- each of two tests is true where the other is
alike : (a b : Bool) → (a ≡ true → b ≡ true) → (b ≡ true → a ≡ true) → a ≡ b
alike true true to from = refl
alike true false to from = sym (to refl)
alike false true to from = from refl
alike false false to from = refl

neither : (a b : Bool) → (not a && not b) ≡ not (a || b)
neither true b = refl
neither false b = refl

first_of_three : (n g d : Bool) → (not (n || g) && not d) ≡ not (n || (g || d))
first_of_three true g d = refl
first_of_three false g d = neither g d

absorbed : (a b : Bool) → (a ≡ true → b ≡ true) → (a || b) ≡ b
absorbed true b then = sym (then refl)
absorbed false b then = refl

-- ---- the bearers of a remote in turn

-- the bearers before the one that comes next
abbrev pub before : Option Teid → FiniteMap Bearer → FiniteMap Bearer
before next m = kept (λ t _. is_passed t next) m

-- sessions that have gone so far: that of each default bearer of the remote before the next one
abbrev pub has_gone : FiniteMap Bearer → ℕ → Option Teid → ℕ → Bool
has_gone m remote next session = default_among remote session (before next m)

-- and bearers that have gone: those of the remote before the next one, and those of the sessions
abbrev pub is_gone : FiniteMap Bearer → ℕ → Option Teid → ℕ → Bearer → Bool
is_gone m remote next t b = (is_passed t next && is_number remote b.remote) || has_gone m remote next b.session

-- what is left so far
abbrev pub sessions_left : FiniteMap Bearer → FiniteMap Session → ℕ → Option Teid → FiniteMap Session
sessions_left m sessions remote next = kept (λ t _. not (has_gone m remote next t)) sessions

abbrev pub bearers_left : FiniteMap Bearer → ℕ → Option Teid → FiniteMap Bearer
bearers_left m remote next = kept (λ t b. not (is_gone m remote next t b)) m

-- what goes with one bearer of the remote
abbrev pub without_sessions_of : Option Bearer → FiniteMap Session → FiniteMap Session
without_sessions_of at sessions = kept (λ t _. not (default_of t at)) sessions

abbrev pub without_bearers_of : ℕ → Option Bearer → FiniteMap Bearer → FiniteMap Bearer
without_bearers_of teid at bearers = kept (λ t b. not (nat_eq teid t || default_of b.session at)) bearers

module _ (m : FiniteMap Bearer) (remote : ℕ) where
  -- a default bearer of the remote that was passed
  record Passed (next : Option Teid) (session : ℕ) : Type 0 where
    key : ℕ
    bearer : Bearer
    stands : get m key ≡ Some bearer
    passed : is_passed key next ≡ true
    is : is_default_to remote session bearer ≡ true

  has_passed : (next : Option Teid) (session : ℕ) → has_gone m remote next session ≡ true → Passed next session
  has_passed next session is =
      let at = (breaks_by_default remote session (before next m)).0 is in
      let passes = found-kept (λ t (b : Bearer). is_passed t next) m at.0 at.1 at.2 in
      record { key = at.0; bearer = at.1; stands = passes.1; passed = passes.0; is = at.3 }

  goes_so_far : (next : Option Teid) (session : ℕ) → Passed next session → has_gone m remote next session ≡ true
  goes_so_far next session p = (breaks_by_default remote session (before next m)).1 (p.key, p.bearer, get-kept (λ t (b : Bearer). is_passed t next) m p.key p.bearer p.stands p.passed, p.is)

  -- ---- at first

  unpassed : (next : Option Teid) → IfSome next (λ teid. (t : ℕ) → HasRemote m remote t → teid ≤ t) → IfNone next (IsUnnamed m remote)
      → (t : ℕ) (b : Bearer) → get m t ≡ Some b → (is_passed t next && is_number remote b.remote) ≡ false
  unpassed next lowest none t b stands = by next (is_passed t next) (is_number remote b.remote) refl refl lowest none
    where
      by : (o : Option Teid) (p n : Bool) → is_passed t o ≡ p → is_number remote b.remote ≡ n
          → IfSome o (λ teid. (k : ℕ) → HasRemote m remote k → teid ≤ k) → IfNone o (IsUnnamed m remote) → (p && n) ≡ false
      by o false n passed named lowest none = refl
      by o true false passed named lowest none = refl
      by None true true passed named lowest none = absurd (none t b stands (number_is remote b.remote named))
      by (Some teid) true true passed named lowest none =
          let from : teid ≤ t = lowest t (record { bearer = b; stands = stands; has = number_is remote b.remote named }) in
          let less : nat_lt t teid ≡ true = passed in
          grind (arith, nat_tests)

  remote_named : (session : ℕ) (b : Bearer) → is_default_to remote session b ≡ true → is_number remote b.remote ≡ true
  remote_named session b is = (three (is_default b.kind) (is_number remote b.remote) (b.session == session) is).1

  none_gone : (next : Option Teid) → ((t : ℕ) (b : Bearer) → get m t ≡ Some b → (is_passed t next && is_number remote b.remote) ≡ false) → (session : ℕ) → has_gone m remote next session ≡ false
  none_gone next none session = by (has_gone m remote next session) refl
    where
      by : (g : Bool) → has_gone m remote next session ≡ g → g ≡ false
      by false is = refl
      by true is =
          let p = has_passed next session is in
          let wrong : true ≡ false = sym (and_from (is_passed p.key next) (is_number remote p.bearer.remote) p.passed (remote_named session p.bearer p.is)) ∙ none p.key p.bearer p.stands in
          absurd cc

  pub all_left : (next : Option Teid) → IfSome next (λ teid. (t : ℕ) → HasRemote m remote t → teid ≤ t) → IfNone next (IsUnnamed m remote) → m ≡ bearers_left m remote next
  all_left next lowest none =
      let unnamed = unpassed next lowest none in
      all_kept (λ t b. true) m (λ t b. refl) ∙ sym (kept_same (λ t b. not (is_gone m remote next t b)) (λ t b. true) m (λ t b stands. rw (unnamed t b stands, none_gone next unnamed b.session) refl))

  pub sessions_all_left : (next : Option Teid) (sessions : FiniteMap Session) → IfSome next (λ teid. (t : ℕ) → HasRemote m remote t → teid ≤ t)
      → IfNone next (IsUnnamed m remote) → sessions ≡ sessions_left m sessions remote next
  sessions_all_left next sessions lowest none = all_kept (λ t _. not (has_gone m remote next t)) sessions (λ t s. ap not (none_gone next (unpassed next lowest none) t))

  -- ---- at the end

  pub sessions_at_end : (sessions : FiniteMap Session) → sessions_left m sessions remote None ≡ kept (λ t _. not (default_among remote t m)) sessions
  sessions_at_end sessions = ap (λ (b : FiniteMap Bearer). kept (λ t (_ : Session). not (default_among remote t b)) sessions) (sym (all_kept (λ t (_ : Bearer). true) m (λ t b. refl)))

  pub bearers_at_end : bearers_left m remote None ≡ kept (λ t b. not (names remote (get m t) || default_among remote b.session m)) m
  bearers_at_end = kept_same (λ t b. not (is_gone m remote None t b)) (λ t b. not (names remote (get m t) || default_among remote b.session m)) m (λ t b stands.
      ap (λ (all : FiniteMap Bearer). not (is_number remote b.remote || default_among remote b.session all)) (sym (all_kept (λ k (_ : Bearer). true) m (λ k x. refl)))
      ∙ ap (λ (o : Option Bearer). not (names remote o || default_among remote b.session m)) (sym stands))

  -- ---- one after the other

  module _ (teid : Teid) (at : Bearer) (stands : get m teid ≡ Some at) (named : is_number remote at.remote ≡ true) (next : Option Teid) (after : IfSome next (λ n. teid < n)) where
    -- whether a session has gone once that of this bearer has
    abbrev then_gone : ℕ → Bool
    then_gone session = has_gone m remote (Some teid) session || default_of session (Some at)

    upto_it : (o : ℕ) → o ≤ teid → is_passed o next ≡ true
    upto_it o upto = by next after
      where
        by : (n : Option Teid) → IfSome n (λ k. teid < k) → is_passed o n ≡ true
        by None more = refl
        by (Some n) more = let less : teid < n = more in grind (arith, nat_tests)

    it_is : (t : ℕ) (b : Bearer) → get m t ≡ Some b → nat_eq teid t ≡ true → Some b ≡ Some at
    it_is t b there same = sym there ∙ (ap (get m) (sym (same_number teid t same)) ∙ stands)

    kind_of : (session : ℕ) (b : Bearer) → is_default_to remote session b ≡ true → default_of session (Some b) ≡ true
    kind_of session b is = let parts = three (is_default b.kind) (is_number remote b.remote) (b.session == session) is in and_from (is_default b.kind) (nat_eq b.session session) parts.0 parts.2

    -- each later one before the next has gone with its session
    module _ (ended : (t : ℕ) (b : Bearer) → get m t ≡ Some b → teid < t → is_passed t next ≡ true → is_number remote b.remote ≡ true → then_gone b.session ≡ true) where
      goes_on : (session : ℕ) → has_gone m remote next session ≡ true → then_gone session ≡ true
      goes_on session is = by (nat_lt p.key teid) (nat_eq teid p.key) refl refl
        where
          p : Passed next session
          p = has_passed next session is

          of : p.bearer.session ≡ session
          of = same_number p.bearer.session session (three (is_default p.bearer.kind) (is_number remote p.bearer.remote) (p.bearer.session == session) p.is).2

          by : (l e : Bool) → nat_lt p.key teid ≡ l → nat_eq teid p.key ≡ e → then_gone session ≡ true
          by true e less here = or_left _ _ (goes_so_far (Some teid) session (record { key = p.key; bearer = p.bearer; stands = p.stands; passed = less; is = p.is }))
          by false true less here = or_right _ _ (ap (default_of session) (sym (it_is p.key p.bearer p.stands here)) ∙ kind_of session p.bearer p.is)
          by false false less here =
              let more : teid < p.key = grind (arith, nat_tests) in
              subst (λ (k : ℕ). then_gone k ≡ true) of (ended p.key p.bearer p.stands more p.passed (remote_named session p.bearer p.is))

      goes_back : (session : ℕ) → then_gone session ≡ true → has_gone m remote next session ≡ true
      goes_back session is = by (has_gone m remote (Some teid) session) refl is
        where
          by : (g : Bool) → has_gone m remote (Some teid) session ≡ g → (g || default_of session (Some at)) ≡ true → has_gone m remote next session ≡ true
          by true before_it any =
              let p = has_passed (Some teid) session before_it in
              let upto : p.key ≤ teid = (let less : nat_lt p.key teid ≡ true = p.passed in grind (arith, nat_tests)) in
              goes_so_far next session (record { key = p.key; bearer = p.bearer; stands = p.stands; passed = upto_it p.key upto; is = p.is })
          by false before_it here =
              let parts = both (is_default at.kind) (nat_eq at.session session) here in
              goes_so_far next session (record {
                key = teid;
                bearer = at;
                stands = stands;
                passed = upto_it teid (omega arith);
                is = and_from (is_default at.kind && is_number remote at.remote) (at.session == session)
                    (and_from (is_default at.kind) (is_number remote at.remote) parts.left named) parts.right;
              })

      gone_then : (session : ℕ) → has_gone m remote next session ≡ then_gone session
      gone_then session = alike (has_gone m remote next session) (then_gone session) (goes_on session) (goes_back session)

      pub next_sessions : (sessions : FiniteMap Session) → without_sessions_of (Some at) (sessions_left m sessions remote (Some teid)) ≡ sessions_left m sessions remote next
      next_sessions sessions = kept_after (λ t _. not (default_of t (Some at))) (λ t _. not (has_gone m remote (Some teid) t)) (λ t _. not (has_gone m remote next t)) sessions (λ t s there.
          neither (has_gone m remote (Some teid) t) (default_of t (Some at)) ∙ ap not (sym (gone_then t)))

      bearer_gone : (t : ℕ) (b : Bearer) → get m t ≡ Some b → (not (is_gone m remote (Some teid) t b) && not (nat_eq teid t || default_of b.session (Some at))) ≡ not (is_gone m remote next t b)
      bearer_gone t b there = by (nat_lt t teid) (nat_eq teid t) refl refl ∙ ap (λ (g : Bool). not ((is_passed t next && is_number remote b.remote) || g)) (sym (gone_then b.session))
        where
          by : (l e : Bool) → nat_lt t teid ≡ l → nat_eq teid t ≡ e
              → (not ((nat_lt t teid && is_number remote b.remote) || has_gone m remote (Some teid) b.session) && not
              (nat_eq teid t || default_of b.session (Some at))) ≡ not ((is_passed t next && is_number remote b.remote) || then_gone b.session)
          by true true less here =
              let under : t < teid = (let lt : nat_lt t teid ≡ true = less in grind (arith, nat_tests)) in
              let it : teid ≡ t = same_number teid t here in absurd (omega (arith, under, it))
          by true false less here =
              let p : is_passed t next ≡ true = upto_it t (let lt : nat_lt t teid ≡ true = less in grind (arith, nat_tests)) in
              rw (less, here, p) (first_of_three (is_number remote b.remote) (has_gone m remote (Some teid) b.session) (default_of b.session (Some at)))
          by false true less here =
              let it : teid ≡ t = same_number teid t here in
              let p : is_passed t next ≡ true = upto_it t (omega (arith, it)) in
              let n : is_number remote b.remote ≡ true = ap (names remote) (it_is t b there here) ∙ named in
              rw (less, here, p, n) (and_right (not (has_gone m remote (Some teid) b.session)) false refl)
          by false false less here =
              rw (less, here) (neither (has_gone m remote (Some teid) b.session) (default_of b.session (Some at)) ∙ ap not
              (sym (absorbed (is_passed t next && is_number remote b.remote) (then_gone b.session) (λ is.
              let parts = both (is_passed t next) (is_number remote b.remote) is in
              let more : teid < t = grind (arith, nat_tests) in
              ended t b there more parts.left parts.right))))

      pub next_bearers : without_bearers_of teid (Some at) (bearers_left m remote (Some teid)) ≡ bearers_left m remote next
      next_bearers = kept_after (λ t b. not (nat_eq teid t || default_of b.session (Some at))) (λ t b. not (is_gone m remote (Some teid) t b)) (λ t b. not (is_gone m remote next t b)) m bearer_gone

    -- as the index says what comes next
    module _ (lowest : IfSome next (λ n. (t : ℕ) → teid < t → HasRemote (without_bearers_of teid (Some at) (bearers_left m remote (Some teid))) remote t → n ≤ t))
        (none : IfNone next ((t : ℕ) → teid < t → HasRemote (without_bearers_of teid (Some at) (bearers_left m remote (Some teid))) remote t → ⊥)) where
      not_next : (t : ℕ) → teid < t → is_passed t next ≡ true → HasRemote (without_bearers_of teid (Some at) (bearers_left m remote (Some teid))) remote t → ⊥
      not_next t more passed has = by next passed lowest none
        where
          by : (n : Option Teid) → is_passed t n ≡ true → IfSome n (λ k. (q : ℕ) → teid < q → HasRemote (without_bearers_of teid (Some at) (bearers_left m remote (Some teid))) remote q → k ≤ q)
              → IfNone n ((q : ℕ) → teid < q → HasRemote (without_bearers_of teid (Some at) (bearers_left m remote (Some teid))) remote q → ⊥) → ⊥
          by None before_it low never = never t more has
          by (Some k) before_it low never = let from : k ≤ t = low t more has in let less : nat_lt t k ≡ true = before_it in grind (arith, nat_tests)

      pub has_ended : (t : ℕ) (b : Bearer) → get m t ≡ Some b → teid < t → is_passed t next ≡ true → is_number remote b.remote ≡ true → then_gone b.session ≡ true
      has_ended t b there more passed is = by (then_gone b.session) refl
        where
          by : (g : Bool) → then_gone b.session ≡ g → g ≡ true
          by true goes = refl
          by false goes =
              let parts = or_parts (has_gone m remote (Some teid) b.session) (default_of b.session (Some at)) goes in
              let later : nat_lt t teid ≡ false = grind (arith, nat_tests) in
              let other : nat_eq teid t ≡ false = grind (arith, nat_tests) in
              let kept_before : not (is_gone m remote (Some teid) t b) ≡ true = rw (later, parts.0) refl in
              let kept_now : not (nat_eq teid t || default_of b.session (Some at)) ≡ true = rw (other, parts.1) refl in
              absurd (not_next t more passed (record {
                bearer = b;
                stands =
                    get-kept (λ k (x : Bearer). not (nat_eq teid k || default_of x.session (Some at))) (bearers_left m remote (Some teid)) t b
                    (get-kept (λ k (x : Bearer). not (is_gone m remote (Some teid) k x)) m t b there kept_before) kept_now;
                has = number_is remote b.remote is;
              }))

-- what stands among those that are left stood before
pub stood : (m : FiniteMap Bearer) (remote : ℕ) (next : Option Teid) (t : ℕ) (b : Bearer) → get (bearers_left m remote next) t ≡ Some b → get m t ≡ Some b
stood m remote next t b stands = (found-kept (λ k (x : Bearer). not (is_gone m remote next k x)) m t b stands).1

-- what is left once one more bearer of the remote has gone
module _ (m : FiniteMap Bearer) (sessions : FiniteMap Session) (remote : ℕ) (teid : Teid) (now : FiniteMap Bearer)
    (left : now ≡ bearers_left m remote (Some teid)) (has : HasRemote now remote teid) (next : Option Teid) (after : IfSome next (λ n. teid < n))
    (lowest : IfSome next (λ n. (t : ℕ) → teid < t → HasRemote (without_bearers_of teid (get now teid) now) remote t → n ≤ t))
    (none : IfNone next ((t : ℕ) → teid < t → HasRemote (without_bearers_of teid (get now teid) now) remote t → ⊥)) where
  there : get m teid ≡ Some has.bearer
  there = stood m remote (Some teid) teid has.bearer (ap (λ (x : FiniteMap Bearer). get x teid) (sym left) ∙ has.stands)

  named_so : is_number remote has.bearer.remote ≡ true
  named_so = ap (is_number remote) has.has ∙ itself remote

  same_left : without_bearers_of teid (get now teid) now ≡ without_bearers_of teid (Some has.bearer) (bearers_left m remote (Some teid))
  same_left = ap (λ (o : Option Bearer). without_bearers_of teid o now) has.stands ∙ ap (without_bearers_of teid (Some has.bearer)) left

  ended : (t : ℕ) (b : Bearer) → get m t ≡ Some b → teid < t → is_passed t next ≡ true → is_number remote b.remote ≡ true
      → (has_gone m remote (Some teid) b.session || default_of b.session (Some has.bearer)) ≡ true
  ended = has_ended m remote teid has.bearer there named_so next after
      (subst (λ (x : FiniteMap Bearer). IfSome next (λ n. (t : ℕ) → teid < t → HasRemote x remote t → n ≤ t)) same_left lowest)
      (subst (λ (x : FiniteMap Bearer). IfNone next ((t : ℕ) → teid < t → HasRemote x remote t → ⊥)) same_left none)

  pub bearers_after : without_bearers_of teid (get now teid) now ≡ bearers_left m remote next
  bearers_after = same_left ∙ next_bearers m remote teid has.bearer there named_so next after ended

  pub sessions_after : (now_sessions : FiniteMap Session) → now_sessions ≡ sessions_left m sessions remote (Some teid)
      → without_sessions_of (get now teid) now_sessions ≡ sessions_left m sessions remote next
  sessions_after now_sessions is =
      ap (λ (o : Option Bearer). without_sessions_of o now_sessions) has.stands
      ∙ (ap (without_sessions_of (Some has.bearer)) is ∙ next_sessions m remote teid has.bearer there named_so next after ended sessions)

-- ---- what goes with one bearer

turned : (a b : ℕ) → nat_eq a b ≡ nat_eq b a
turned a b = grind (arith, nat_tests)

module _ (teid : ℕ) (b : Bearer) where
  -- a default bearer goes with its session
  pub sessions_of_default : (sessions : FiniteMap Session) → b.kind ≡ Default → remove sessions b.session ≡ without_sessions_of (Some b) sessions
  sessions_of_default sessions is = one_removed (λ t _. not (default_of t (Some b))) sessions b.session
      (λ q s same. ap not (its q ∙ (turned b.session q ∙ same))) (λ q s other. ap not (its q ∙ (turned b.session q ∙ other)))
    where
      its : (q : ℕ) → default_of q (Some b) ≡ nat_eq b.session q
      its q = ap (λ (k : Kind). is_default k && nat_eq b.session q) is

  pub bearers_of_default : (m : FiniteMap Bearer) → get m teid ≡ Some b → b.kind ≡ Default → kept (λ _ x. not (nat_eq x.session b.session)) m ≡ without_bearers_of teid (Some b) m
  bearers_of_default m stands is =
      kept_same (λ _ x. not (nat_eq x.session b.session)) (λ t x. not (nat_eq teid t || default_of x.session (Some b))) m
      (λ t x there. ap not (by t x there (nat_eq teid t) refl))
    where
      its : (x : Bearer) → default_of x.session (Some b) ≡ nat_eq x.session b.session
      its x = ap (λ (k : Kind). is_default k && nat_eq b.session x.session) is ∙ turned b.session x.session

      same : (t : ℕ) (x : Bearer) → get m t ≡ Some x → nat_eq teid t ≡ true → nat_eq x.session b.session ≡ true
      same t x there here =
          let one : Some x ≡ Some b = sym there ∙ (ap (get m) (sym (same_number teid t here)) ∙ stands) in
          let it : x ≡ b = cc in ap (λ (y : Bearer). nat_eq y.session b.session) it ∙ itself b.session

      by : (t : ℕ) (x : Bearer) → get m t ≡ Some x → (e : Bool) → nat_eq teid t ≡ e → nat_eq x.session b.session ≡ (nat_eq teid t || default_of x.session (Some b))
      by t x there true here = same t x there here ∙ sym (or_left (nat_eq teid t) (default_of x.session (Some b)) here)
      by t x there false here = rw here (sym (its x))

  -- another goes alone
  pub sessions_of_dedicated : (sessions : FiniteMap Session) → b.kind ≡ Dedicated → sessions ≡ without_sessions_of (Some b) sessions
  sessions_of_dedicated sessions is = all_kept (λ t _. not (default_of t (Some b))) sessions (λ t s. ap (λ (k : Kind). not (is_default k && nat_eq b.session t)) is)

  pub bearers_of_dedicated : (m : FiniteMap Bearer) → b.kind ≡ Dedicated → remove m teid ≡ without_bearers_of teid (Some b) m
  bearers_of_dedicated m is = one_removed (λ t x. not (nat_eq teid t || default_of x.session (Some b))) m teid
      (λ q x same. ap not (or_left (nat_eq teid q) (default_of x.session (Some b)) (turned teid q ∙ same)))
      (λ q x other. ap not (or_from (nat_eq teid q) (default_of x.session (Some b)) (turned teid q ∙ other) (ap (λ (k : Kind). is_default k && nat_eq b.session x.session) is)))

-- and where none stands, nothing goes
pub sessions_of_none : (sessions : FiniteMap Session) → sessions ≡ without_sessions_of None sessions
sessions_of_none sessions = all_kept (λ t _. true) sessions (λ t s. refl)

pub bearers_of_none : (teid : ℕ) (m : FiniteMap Bearer) → get m teid ≡ None → m ≡ without_bearers_of teid None m
bearers_of_none teid m none = all_kept (λ t b. true) m (λ t b. refl) ∙ sym (kept_same (λ t b. not (nat_eq teid t || false)) (λ t b. true) m (λ t b there. by t b there (nat_eq teid t) refl))
  where
    by : (t : ℕ) (b : Bearer) → get m t ≡ Some b → (e : Bool) → nat_eq teid t ≡ e → not (nat_eq teid t || false) ≡ true
    by t b there true here = let wrong : None ≡ Some b = sym none ∙ (ap (get m) (same_number teid t here) ∙ there) in absurd cc
    by t b there false here = rw here refl
