-- The index by remote TEID after a change.
use Rattle.std.proofs.Common.{◌≡◌, ◌<◌, ◌≤◌, ℕ, ◌&&◌, Bool, true, false, cond, Option, Some, None, refl, sym, ap, ◌∙◌, nat_eq, arith}
use Rattle.std.specs.declared.cmp.Ordering.TheVariants.{Less}
use Rattle.std.specs.Ordering.{nat_cmp, eq_by_cmp, ordering_then, is_eq, is_gt}
use Rattle.std.specs.BTreeMap.Range.{IsLeBy, IsLtBy}
use Rattle.std.specs.Prelude.{◌==◌, List, [], ◌∷◌, map, is_some, option_map, if◌then◌else◌}
use Rattle.std.specs.FinMap.{find, get, insert, remove, entries, get-insert, get-remove, get-from_entries, get-entries}
use Rattle.std.specs.Cmp.{nat_cmp_total}
use Rattle.std.proofs.lemmas.Bool.Decides.{nat_tests}
use Rattle.gtp_tables.specs.declared.context.Bearer.{Bearer}
use Rattle.gtp_tables.specs.declared.context.State.TheVariants.{Closing}
use Rattle.gtp_values.specs.FiniteMap.{FiniteMap, kept, changed, with_value}
use Rattle.gtp_values.specs.Number.{is_number}
use Rattle.gtp_values.proofs.Tests.{same_number, number_is}
use Rattle.gtp_tables.specs.Identity.{closing_bearer}
use Rattle.gtp_tables.proofs.Kept.{passing, get_kept}
use Rattle.gtp_tables.proofs.Rows.{turned}
use Rattle.std.specs.Prelude.{IfNone}
use Rattle.gtp_tables.specs.Index.{pair_cmp, remote_at, names, HasRemote, IsUnnamed}

then_tied : (a b c d : ℕ) → is_eq (ordering_then (nat_cmp a b) (nat_cmp c d)) ≡ (nat_eq a b && nat_eq c d)
then_tied a b c d = grind (arith, nat_tests)

pub pair_tied : (p q : ℕ × ℕ) → is_eq (pair_cmp p q) ≡ (nat_eq p.0 q.0 && nat_eq p.1 q.1)
pair_tied p q = then_tied p.0 q.0 p.1 q.1

pub get_inserted : (m : FiniteMap Bearer) (k : ℕ) (b : Bearer) (q : ℕ) → get (insert m k b) q ≡ cond (nat_eq k q) (Some b) (get m q)
get_inserted m k b q = get-insert nat_cmp_total m k b q ∙ (λ i. cond (turned q k i) (Some b) (get m q))

pub get_removed : (m : FiniteMap Bearer) (k q : ℕ) → get (remove m k) q ≡ cond (nat_eq k q) None (get m q)
get_removed m k q = get-remove nat_cmp_total m k q ∙ (λ i. cond (turned q k i) None (get m q))

-- after a bearer is put where there was none with a remote
pub named : (own r o : ℕ) (b : Bearer) (there : Option Bearer) → (nat_eq own o ≡ true → remote_at there ≡ None)
    → cond (is_number r b.remote && nat_eq own o) true (names r there) ≡ names r (cond (nat_eq own o) (Some b) there)
named own r o b there blank = by (is_number r b.remote) (nat_eq own o) refl refl
  where
    unnamed : (x : Option Bearer) → remote_at x ≡ None → names r x ≡ false
    unnamed None h = refl
    unnamed (Some x) h = ap (is_number r) h

    by : (x y : Bool) → is_number r b.remote ≡ x → nat_eq own o ≡ y → cond (x && y) true (names r there) ≡ names r (cond y (Some b) there)
    by true true e f = sym e
    by false true e f = unnamed there (blank f) ∙ sym e
    by true false e f = refl
    by false false e f = refl

-- after a bearer is put in the place of one with the same remote
pub renamed : (own r o : ℕ) (b : Bearer) (there : Option Bearer) → (nat_eq own o ≡ true → names r there ≡ is_number r b.remote) → names r there ≡ names r (cond (nat_eq own o) (Some b) there)
renamed own r o b there is = by (nat_eq own o) refl
  where
    by : (y : Bool) → nat_eq own o ≡ y → names r there ≡ names r (cond y (Some b) there)
    by true f = is f
    by false f = refl

-- after a bearer is taken out
pub unnamed : (own r o : ℕ) (at there : Option Bearer) → (nat_eq own o ≡ true → there ≡ at)
    → cond (is_number r (remote_at at) && nat_eq own o) false (names r there) ≡ names r (cond (nat_eq own o) None there)
unnamed own r o at there same = by (is_number r (remote_at at)) (nat_eq own o) refl refl
  where
    named : (x : Option Bearer) → names r x ≡ is_number r (remote_at x)
    named None = refl
    named (Some b) = refl

    by : (x y : Bool) → is_number r (remote_at at) ≡ x → nat_eq own o ≡ y → cond (x && y) false (names r there) ≡ names r (cond y None there)
    by true true e f = refl
    by false true e f = ap (names r) (same f) ∙ (named at ∙ e)
    by true false e f = refl
    by false false e f = refl

-- ---- the pairs of a remote in the order

pub at_start : (remote o : ℕ) → IsLeBy pair_cmp (remote, 0) (remote, o)
at_start remote o = grind (arith, nat_tests)

pub squeezed : (x : ℕ × ℕ) (remote o : ℕ) → IsLeBy pair_cmp (remote, 0) x → IsLeBy pair_cmp x (remote, o) → (x.0 ≡ remote → ⊥) → ⊥
squeezed x remote o low high other = by x.0 x.1 remote o low high other
  where
    by : (a b r k : ℕ) → is_gt (ordering_then (nat_cmp r a) (nat_cmp 0 b)) ≡ false → is_gt (ordering_then (nat_cmp a r) (nat_cmp b k)) ≡ false → (a ≡ r → ⊥) → ⊥
    by a b r k low high other = grind (arith, nat_tests)

pub own_after : (remote own o : ℕ) → IsLeBy pair_cmp (remote, own) (remote, o) → own ≤ o
own_after remote own o high = by high
  where
    by : is_gt (ordering_then (nat_cmp remote remote) (nat_cmp own o)) ≡ false → own ≤ o
    by high = grind (arith, nat_tests)

-- ---- the same after a pair

pub past : (remote after o : ℕ) → after < o → IsLtBy pair_cmp (remote, after) (remote, o)
past remote after o less = grind (arith, nat_tests, less)

pub squeezed_past : (x : ℕ × ℕ) (remote after o : ℕ) → IsLtBy pair_cmp (remote, after) x → IsLeBy pair_cmp x (remote, o) → (x.0 ≡ remote → ⊥) → ⊥
squeezed_past x remote after o low high other = by x.0 x.1 remote after o low high other
  where
    by : (a b r s k : ℕ) → ordering_then (nat_cmp r a) (nat_cmp s b) ≡ Less → is_gt (ordering_then (nat_cmp a r) (nat_cmp b k)) ≡ false → (a ≡ r → ⊥) → ⊥
    by a b r s k low high other = grind (arith, nat_tests)

pub own_past : (remote : ℕ) (x : ℕ × ℕ) (after : ℕ) → IsLtBy pair_cmp (remote, after) x → x.0 ≡ remote → after < x.1
own_past remote x after low is = by x.0 x.1 remote after low is
  where
    by : (a b r s : ℕ) → ordering_then (nat_cmp r a) (nat_cmp s b) ≡ Less → a ≡ r → s < b
    by a b r s low is = grind (arith, nat_tests)

-- ---- what is found

pub named_by : (m : FiniteMap Bearer) (remote teid : ℕ) → HasRemote m remote teid → names remote (get m teid) ≡ true
named_by m remote teid h =
    let itself : nat_eq remote remote ≡ true = grind (arith, nat_tests) in
    ap (names remote) h.stands ∙ (ap (is_number remote) h.has ∙ itself)

pub has_remote : (m : FiniteMap Bearer) (remote teid : ℕ) → names remote (get m teid) ≡ true → HasRemote m remote teid
has_remote m remote teid h = by (get m teid) refl h
  where
    by : (o : Option Bearer) → get m teid ≡ o → names remote o ≡ true → HasRemote m remote teid
    by None is h = absurd cc
    by (Some b) is h = record { bearer = b; stands = is; has = number_is remote b.remote h }

pub is_unnamed : (m : FiniteMap Bearer) (remote : ℕ) → ((o : ℕ) → names remote (get m o) ≡ false) → IsUnnamed m remote
is_unnamed m remote none t b stands has =
    let not_named : is_number remote b.remote ≡ false = ap (names remote) (sym stands) ∙ none t in
    let self : nat_eq remote remote ≡ false = ap (is_number remote) (sym has) ∙ not_named in
    grind (arith, nat_tests)

-- nothing stands under a TEID above all that are there
pub none_above : (m : FiniteMap Bearer) (k : ℕ) → ((q : ℕ) (b : Bearer) → get m q ≡ Some b → q < k) → get m k ≡ None
none_above m k below = by (get m k) refl
  where
    by : (o : Option Bearer) → get m k ≡ o → o ≡ None
    by None is = refl
    by (Some b) is = let less : k < k = below k b is in absurd (omega arith)

-- ---- bearers that stay, and bearers that are changed

pub kept_named : (test : ℕ → Bearer → Bool) (m : FiniteMap Bearer) (r o : ℕ) → (is_some (get (kept test m) o) && names r (get m o)) ≡ names r (get (kept test m) o)
kept_named test m r o = ap (λ (x : Option Bearer). is_some x && names r (get m o)) (get_kept test m o) ∙ (by (get m o) ∙ ap (names r) (sym (get_kept test m o)))
  where
    by : (x : Option Bearer) → (is_some (passing test o x) && names r x) ≡ names r (passing test o x)
    by None = refl
    by (Some b) = elim (test o b) as (λ c. (is_some (cond c (Some b) None) && names r (Some b)) ≡ names r (cond c (Some b) None)) [ true ↦ refl | false ↦ refl ]

find_changed : (f : Bearer → Bearer) (es : List (ℕ × Bearer)) (o : ℕ) → find nat_cmp o (map (with_value f) es) ≡ option_map f (find nat_cmp o es)
find_changed f [] o = refl
find_changed f (e ∷ es) o =
    elim (eq_by_cmp nat_cmp o e.0) as
    (λ c. cond c (Some (f e.1)) (find nat_cmp o (map (with_value f) es)) ≡ option_map f (cond c (Some e.1) (find nat_cmp o es)))
    [ true ↦ refl | false ↦ find_changed f es o ]

pub get_changed : (f : Bearer → Bearer) (m : FiniteMap Bearer) (o : ℕ) → get (changed f m) o ≡ option_map f (get m o)
get_changed f m o = get-from_entries nat_cmp_total (map (with_value f) (entries m)) o ∙ (find_changed f (entries m) o ∙ ap (option_map f) (sym (get-entries m o)))

pub closed_named : (session r o : ℕ) (m : FiniteMap Bearer) → names r (get m o) ≡ names r (get (changed (closing_bearer session) m) o)
closed_named session r o m = by (get m o) ∙ ap (names r) (sym (get_changed (closing_bearer session) m o))
  where
    by : (x : Option Bearer) → names r x ≡ names r (option_map (closing_bearer session) x)
    by None = refl
    by (Some b) = elim (b.session == session) as (λ c. is_number r b.remote ≡ is_number r (if c then record b { state = Closing } else b).remote) [ true ↦ refl | false ↦ refl ]

-- a pair that is found is the one that was looked for
pub pair_of : (r o : ℕ) (k : ℕ × ℕ) → is_eq (pair_cmp (r, o) k) ≡ true → o ≡ k.1
pair_of r o k h = by (nat_eq r k.0) (nat_eq o k.1) refl (sym (pair_tied (r, o) k) ∙ h)
  where
    by : (x y : Bool) → nat_eq o k.1 ≡ y → (x && y) ≡ true → o ≡ k.1
    by x true e h = same_number o k.1 e
    by true false e h = absurd cc
    by false false e h = absurd cc

-- what follows from what a clause says where there is no value
pub IfNone_then : {X : Type 0} (r : Option X) {P Q : Type 0} → IfNone r P → (P → Q) → IfNone r Q
IfNone_then None p by = by p
IfNone_then (Some x) p by = tt
