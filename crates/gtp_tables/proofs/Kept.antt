-- Rows that pass a test, as a finite map.
use Rattle.std.proofs.Common.{◌≡◌, ℕ, Bool, true, false, cond, List, [], ◌∷◌, Some, None, Option, refl, sym, ◌∙◌, ap, nat_eq, T, arith}
use Rattle.std.specs.Prelude.{filter}
use Rattle.std.specs.Map.{lookup}
use Rattle.std.specs.FinMap.{get, from_entries, get-retain_keys, is_sorted, nat_cmp-IsAntisymmetric}
use Rattle.std.specs.FinMap.Entries.{below_all}
use Rattle.std.specs.Ordering.{nat_cmp}
use Rattle.std.proofs.lemmas.Bool.Decides.{nat_tests}
use Rattle.gtp_values.specs.FiniteMap.{FiniteMap, passes, kept}
use Rattle.gtp_values.proofs.Tests.{apart_by_cmp}
use Rattle.gtp_tables.proofs.Rows.{same_rows, get_row, first, second}

-- what stands there, where it passes
abbrev pub passing : {X : Type 0} → (ℕ → X → Bool) → ℕ → Option X → Option X
passing test q o = cond (passes test q o) o None

pub get_kept : {X : Type 0} (test : ℕ → X → Bool) (m : FiniteMap X) (q : ℕ) → get (kept test m) q ≡ passing test q (get m q)
get_kept test m q = let p : ℕ → Bool = λ key. passes test key (get m key) in get-retain_keys m p q (λ x t. ap p (sym (nat_cmp-IsAntisymmetric q x t)))

not_found : {X : Type 0} (q : ℕ) (p : ℕ × X → Bool) (rows : List (ℕ × X)) → T (below_all nat_cmp q rows) → lookup (nat_eq q) (filter p rows) ≡ None
not_found q p [] h = refl
not_found {X} q p (e ∷ es) h = by (p e) (not_found q p es (second _ _ h))
  where
    by : (b : Bool) → lookup (nat_eq q) (filter p es) ≡ None → lookup (nat_eq q) (cond b (e ∷ filter p es) (filter p es)) ≡ None
    by true rest = rw (apart_by_cmp q e.0 (first _ _ h)) rest
    by false rest = rest

lookup_filter : {X : Type 0} (test : ℕ → X → Bool) (rows : List (ℕ × X)) (q : ℕ) → T (is_sorted nat_cmp rows)
    → lookup (nat_eq q) (filter (λ e. test e.0 e.1) rows) ≡ passing test q (lookup (nat_eq q) rows)
lookup_filter test [] q d = refl
lookup_filter {X} test (e ∷ es) q d = by (nat_eq q e.0) (test e.0 e.1) refl refl (lookup_filter test es q (second _ _ d))
  where
    same_key : nat_eq q e.0 ≡ true → q ≡ e.0
    same_key h = grind (arith, nat_tests)

    by : (here keep : Bool) → nat_eq q e.0 ≡ here → test e.0 e.1 ≡ keep → lookup (nat_eq q) (filter (λ x. test x.0 x.1) es) ≡ passing test q (lookup (nat_eq q) es)
        → lookup (nat_eq q) (cond keep (e ∷ filter (λ x. test x.0 x.1) es) (filter (λ x. test x.0 x.1) es)) ≡ passing test q (cond here (Some e.1) (lookup (nat_eq q) es))
    by true true is keeps rest =
        let same : test q e.1 ≡ true = ap (λ (k : ℕ). test k e.1) (same_key is) ∙ keeps in
        rw (is, same) refl
    by true false is drops rest =
        let same : test q e.1 ≡ false = ap (λ (k : ℕ). test k e.1) (same_key is) ∙ drops in
        let none : lookup (nat_eq q) (filter (λ x. test x.0 x.1) es) ≡ None =
        ap (λ (k : ℕ). lookup (nat_eq k) (filter (λ x. test x.0 x.1) es)) (same_key is) ∙ not_found e.0 (λ x. test x.0 x.1) es (first _ _ d) in
        none ∙ sym (ap (λ (b : Bool). cond b (Some e.1) None) same)
    by false true is keeps rest = rw is rest
    by false false is drops rest = rest

pub table_kept : {X : Type 0} (test : ℕ → X → Bool) (rows : List (ℕ × X)) → T (is_sorted nat_cmp rows) → from_entries {R = nat_cmp} (filter (λ e. test e.0 e.1) rows) ≡ kept test (from_entries rows)
table_kept {X} test rows up = same_rows (filter (λ e. test e.0 e.1) rows) (kept test (from_entries rows)) (λ q.
    lookup_filter test rows q up
    ∙ (ap (passing test q) (sym (get_row rows q))
    ∙ sym (get_kept test (from_entries rows) q)))
