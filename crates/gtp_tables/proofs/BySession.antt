-- Bearers by their session: the index after a change, and what is done to each bearer of a session in turn.
use Rattle.std.proofs.Common.{◌≡◌, ◌<◌, ◌≤◌, ℕ, ◌&&◌, Bool, true, false, cond, Option, Some, None, refl, sym, ap, ◌∙◌, nat_eq, arith}
use Rattle.std.specs.Prelude.{not, nat_lt, is_some, option_map, IfSome, IfNone, if◌then◌else◌}
use Rattle.std.specs.FinMap.{get, same_map, nat_cmp-IsAntisymmetric}
use Rattle.std.specs.Cmp.{nat_cmp_total}
use Rattle.std.proofs.lemmas.Bool.Decides.{nat_tests}
use Rattle.gtp_values.specs.declared.identifiers.Teid.{Teid}
use Rattle.gtp_values.specs.FiniteMap.{FiniteMap, kept, changed}
use Rattle.gtp_values.specs.Number.{is_number}
use Rattle.gtp_values.proofs.Tests.{both, same_number, number_is}
use Rattle.gtp_tables.specs.declared.context.Bearer.{Bearer}
use Rattle.gtp_tables.specs.declared.context.State.TheVariants.{Closing}
use Rattle.gtp_tables.specs.Identity.{has_number, closing_bearer, IsUnused, IsBearerWith}
use Rattle.gtp_tables.specs.BySession.{is_of, with_number, shut}
use Rattle.gtp_tables.proofs.Kept.{passing, get_kept}
use Rattle.gtp_tables.proofs.Named.{get_changed}
use Rattle.gtp_tables.proofs.Defaults.{IsAhead}
use Rattle.gtp_tables.proofs.Identities.{has_it}

-- after a bearer is put where there was none
pub joined : (own s o : ℕ) (b : Bearer) (there : Option Bearer) → (nat_eq own o ≡ true → there ≡ None)
    → cond (nat_eq b.session s && nat_eq own o) true (is_of s there) ≡ is_of s (cond (nat_eq own o) (Some b) there)
joined own s o b there none = by (nat_eq b.session s) (nat_eq own o) refl refl
  where
    by : (x y : Bool) → nat_eq b.session s ≡ x → nat_eq own o ≡ y → cond (x && y) true (is_of s there) ≡ is_of s (cond y (Some b) there)
    by true true e f = sym e
    by false true e f = ap (is_of s) (none f) ∙ sym e
    by true false e f = refl
    by false false e f = refl

-- after a bearer is put in the place of one of the same session
pub rejoined : (own s o : ℕ) (b : Bearer) (there : Option Bearer) → (nat_eq own o ≡ true → is_of s there ≡ nat_eq b.session s) → is_of s there ≡ is_of s (cond (nat_eq own o) (Some b) there)
rejoined own s o b there is = by (nat_eq own o) refl
  where
    by : (y : Bool) → nat_eq own o ≡ y → is_of s there ≡ is_of s (cond y (Some b) there)
    by true f = is f
    by false f = refl

-- after a bearer is taken out
pub parted : (own s o : ℕ) (at there : Option Bearer) → (nat_eq own o ≡ true → there ≡ at) → cond (is_of s at && nat_eq own o) false (is_of s there) ≡ is_of s (cond (nat_eq own o) None there)
parted own s o at there same = by (is_of s at) (nat_eq own o) refl refl
  where
    by : (x y : Bool) → is_of s at ≡ x → nat_eq own o ≡ y → cond (x && y) false (is_of s there) ≡ is_of s (cond y None there)
    by true true e f = refl
    by false true e f = ap (is_of s) (same f) ∙ e
    by true false e f = refl
    by false false e f = refl

-- after a name is taken back that was given just before, where there was none
pub taken_back : (a b : Bool) → (a ≡ true → b ≡ false) → cond a false (cond a true b) ≡ b
taken_back true b none = sym (none refl)
taken_back false b none = refl

-- after those are kept that pass a test
pub kept_of : (test : ℕ → Bearer → Bool) (m : FiniteMap Bearer) (s o : ℕ) → (is_some (get (kept test m) o) && is_of s (get m o)) ≡ is_of s (get (kept test m) o)
kept_of test m s o = ap (λ (x : Option Bearer). is_some x && is_of s (get m o)) (get_kept test m o) ∙ (by (get m o) ∙ ap (is_of s) (sym (get_kept test m o)))
  where
    by : (x : Option Bearer) → (is_some (passing test o x) && is_of s x) ≡ is_of s (passing test o x)
    by None = refl
    by (Some b) = elim (test o b) as (λ c. (is_some (cond c (Some b) None) && is_of s (Some b)) ≡ is_of s (cond c (Some b) None)) [ true ↦ refl | false ↦ refl ]

-- ---- the bearer that has an identity

-- it is not before the one that is looked at
abbrev pub IsAheadOf : FiniteMap Bearer → ℕ → ℕ → Option Teid → Type 0
IsAheadOf m session identity next = (t : ℕ) (b : Bearer) → get m t ≡ Some b → has_number session identity b ≡ true → IsAhead next t

module _ (m : FiniteMap Bearer) (session identity : ℕ) where
  of_session : (t : ℕ) (b : Bearer) → get m t ≡ Some b → has_number session identity b ≡ true → is_of session (get m t) ≡ true
  of_session t b stands is = ap (is_of session) stands ∙ (both (nat_eq b.session session) (is_number identity b.identity) is).left

  pub ahead_first : (o : Option Teid) → IfSome o (λ teid. (k : ℕ) → is_of session (get m k) ≡ true → teid ≤ k) → IfNone o ((k : ℕ) → is_of session (get m k) ≡ false) → IsAheadOf m session identity o
  ahead_first None lowest none t b stands is = let wrong : true ≡ false = sym (of_session t b stands is) ∙ none t in absurd cc
  ahead_first (Some teid) lowest none t b stands is = lowest t (of_session t b stands is)

  past : (t : ℕ) (b : Bearer) → get m t ≡ Some b → has_number session identity b ≡ true → (k : ℕ) → k ≤ t → with_number session identity (get m k) ≡ false → k < t
  past t b stands is k upto other =
      let apart : k ≡ t → ⊥ =
      λ here.
      (let wrong : true ≡ false = sym (ap (with_number session identity) stands ∙ is) ∙ (ap (λ (n : ℕ). with_number session identity (get m n)) (sym here) ∙ other) in
      cc) in
      omega (arith, upto, apart)

  pub ahead_next : (k : Teid) (o : Option Teid) → IsAheadOf m session identity (Some k) → with_number session identity (get m k) ≡ false
      → IfSome o (λ teid. (n : ℕ) → k < n → is_of session (get m n) ≡ true → teid ≤ n) → IfNone o ((n : ℕ) → k < n → is_of session (get m n) ≡ false)
      → IsAheadOf m session identity o
  ahead_next k None ahead other next none t b stands is = let wrong : true ≡ false = sym (of_session t b stands is) ∙ none t (past t b stands is k (ahead t b stands is) other) in absurd cc
  ahead_next k (Some teid) ahead other next none t b stands is = next t (past t b stands is k (ahead t b stands is) other) (of_session t b stands is)

  pub bearer_with : (teid : Teid) → IsAheadOf m session identity (Some teid) → with_number session identity (get m teid) ≡ true → IsBearerWith m session identity teid
  bearer_with teid ahead h = by (get m teid) refl h
    where
      by : (o : Option Bearer) → get m teid ≡ o → with_number session identity o ≡ true → IsBearerWith m session identity teid
      by None is h = absurd cc
      by (Some b) is h =
          let parts = both (nat_eq b.session session) (is_number identity b.identity) h in
          record {
            bearer = b;
            stands = is;
            of = same_number b.session session parts.left;
            has = number_is identity b.identity parts.right;
            lowest = λ t c stands of has. ahead t c stands (has_it session identity c of has);
          }

  pub unused : IsAheadOf m session identity None → IsUnused m session identity
  unused ahead t b stands of has = ahead t b stands (has_it session identity b of has)

-- ---- each bearer of a session in turn

-- whether a TEID is before the one that comes next
abbrev pub is_passed : ℕ → Option Teid → Bool
is_passed o None = true
is_passed o (Some next) = nat_lt o next

-- what was done so far: to each bearer before the next one
abbrev pub IsSoFar : (Option Bearer → Option Bearer) → FiniteMap Bearer → FiniteMap Bearer → Option Teid → Type 0
IsSoFar f old now next = (o : ℕ) → get now o ≡ cond (is_passed o next) (f (get old o)) (get old o)

module _ (session : ℕ) (f : Option Bearer → Option Bearer) (same : (x : Option Bearer) → is_of session x ≡ false → f x ≡ x) where
  not_of : (x : Option Bearer) → (is_of session x ≡ true → ⊥) → is_of session x ≡ false
  not_of x never = by (is_of session x) refl
    where
      by : (c : Bool) → is_of session x ≡ c → c ≡ false
      by true is = absurd (never is)
      by false is = refl

  pub from_first : (old : FiniteMap Bearer) (next : Option Teid) → IfSome next (λ teid. (k : ℕ) → is_of session (get old k) ≡ true → teid ≤ k)
      → IfNone next ((k : ℕ) → is_of session (get old k) ≡ false) → IsSoFar f old old next
  from_first old None lowest none k = sym (same (get old k) (none k))
  from_first old (Some teid) lowest none k = by (nat_lt k teid) refl
    where
      by : (b : Bool) → nat_lt k teid ≡ b → get old k ≡ cond b (f (get old k)) (get old k)
      by true less = sym (same (get old k) (not_of (get old k) (λ is. (let from : teid ≤ k = lowest k is in grind (arith, nat_tests)))))
      by false less = refl

  module _ (old now new : FiniteMap Bearer) (teid : Teid) (so_far : IsSoFar f old now (Some teid)) (put : (o : ℕ) → get new o ≡ cond (nat_eq teid o) (f (get now teid)) (get now o)) where
    passes : (o : ℕ) (next : Option Teid) → IfSome next (λ n. teid < n) → o ≤ teid → is_passed o next ≡ true
    passes o None after upto = refl
    passes o (Some n) after upto = let less : teid < n = after in grind (arith, nat_tests)

    later : (o : ℕ) (next : Option Teid) → IfSome next (λ n. (k : ℕ) → teid < k → is_of session (get new k) ≡ true → n ≤ k) → IfNone next ((k : ℕ) → teid < k → is_of session (get new k) ≡ false)
        → teid < o → get new o ≡ get old o → get new o ≡ cond (is_passed o next) (f (get old o)) (get old o)
    later o None lowest none more is = is ∙ sym (same (get old o) (ap (is_of session) (sym is) ∙ none o more))
    later o (Some n) lowest none more is = by (nat_lt o n) refl
      where
        by : (b : Bool) → nat_lt o n ≡ b → get new o ≡ cond b (f (get old o)) (get old o)
        by false less = is
        by true less = is ∙ sym (same (get old o) (not_of (get old o) (λ of. (let from : n ≤ o = lowest o more (ap (is_of session) is ∙ of) in grind (arith, nat_tests)))))

    pub step : (next : Option Teid) → IfSome next (λ n. teid < n) → IfSome next (λ n. (k : ℕ) → teid < k → is_of session (get new k) ≡ true → n ≤ k)
        → IfNone next ((k : ℕ) → teid < k → is_of session (get new k) ≡ false) → IsSoFar f old new next
    step next after lowest none o = by (nat_eq teid o) (nat_lt o teid) refl refl
      where
        before : (b : Bool) → nat_lt o teid ≡ b → get now o ≡ cond b (f (get old o)) (get old o)
        before b is = so_far o ∙ ap (λ (c : Bool). cond c (f (get old o)) (get old o)) is

        passed : o ≤ teid → f (get old o) ≡ cond (is_passed o next) (f (get old o)) (get old o)
        passed upto = sym (ap (λ (c : Bool). cond c (f (get old o)) (get old o)) (passes o next after upto))

        written : (b : Bool) → nat_eq teid o ≡ b → get new o ≡ cond b (f (get now teid)) (get now o)
        written b is = put o ∙ ap (λ (c : Bool). cond c (f (get now teid)) (get now o)) is

        at_it : get now teid ≡ get old teid
        at_it = let not_before : nat_lt teid teid ≡ false = grind (arith, nat_tests) in so_far teid ∙ ap (λ (c : Bool). cond c (f (get old teid)) (get old teid)) not_before

        by : (e l : Bool) → nat_eq teid o ≡ e → nat_lt o teid ≡ l → get new o ≡ cond (is_passed o next) (f (get old o)) (get old o)
        by true l here less =
            let it : teid ≡ o = same_number teid o here in
            written true here ∙ (ap f (at_it ∙ ap (get old) it) ∙ passed (omega (arith, it)))
        by false true here less = written false here ∙ (before true less ∙ passed (let under : o < teid = grind (arith, nat_tests) in omega (arith, under)))
        by false false here less = later o next lowest none (grind (arith, nat_tests)) (written false here ∙ before false less)

-- ---- what is left without the bearers of a session

abbrev pub without : ℕ → Option Bearer → Option Bearer
without session x = cond (is_of session x) None x

pub without_same : (session : ℕ) (x : Option Bearer) → is_of session x ≡ false → without session x ≡ x
without_same session x is = ap (λ (c : Bool). cond c None x) is

pub without_of : (session : ℕ) (x : Option Bearer) → is_of session x ≡ true → without session x ≡ None
without_of session x is = ap (λ (c : Bool). cond c None x) is

pub all_gone : (session : ℕ) (old now : FiniteMap Bearer) → IsSoFar (without session) old now None → now ≡ kept (λ _ b. not (nat_eq b.session session)) old
all_gone session old now so_far =
    same_map nat_cmp_total nat_cmp-IsAntisymmetric now (kept (λ _ b. not (nat_eq b.session session)) old)
    (λ q. so_far q ∙ (by q (get old q) ∙ sym (get_kept (λ _ b. not (nat_eq b.session session)) old q)))
  where
    by : (q : ℕ) (x : Option Bearer) → without session x ≡ passing (λ _ b. not (nat_eq b.session session)) q x
    by q None = refl
    by q (Some b) = elim (nat_eq b.session session) as (λ (c : Bool). cond c None (Some b) ≡ cond (not c) (Some b) None) [ true ↦ refl | false ↦ refl ]

-- ---- and with them closing

abbrev pub closed : ℕ → Option Bearer → Option Bearer
closed session x = option_map (closing_bearer session) x

pub closed_same : (session : ℕ) (x : Option Bearer) → is_of session x ≡ false → closed session x ≡ x
closed_same session None is = refl
closed_same session (Some b) is = ap (λ (c : Bool). Some (if c then record b { state = Closing } else b)) is

pub closed_of : (session : ℕ) (x : Option Bearer) → is_of session x ≡ true → closed session x ≡ option_map shut x
closed_of session None is = refl
closed_of session (Some b) is = ap (λ (c : Bool). Some (if c then record b { state = Closing } else b)) is

pub all_closed : (session : ℕ) (old now : FiniteMap Bearer) → IsSoFar (closed session) old now None → now ≡ changed (closing_bearer session) old
all_closed session old now so_far = same_map nat_cmp_total nat_cmp-IsAntisymmetric now (changed (closing_bearer session) old) (λ q. so_far q ∙ sym (get_changed (closing_bearer session) old q))
