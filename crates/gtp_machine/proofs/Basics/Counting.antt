-- How many entries a table has after a change, and what is free where few are taken.
use Rattle.std.proofs.Common.{◌≡◌, ℕ, ◌+◌, ◌≤◌, Bool, true, false, cond, List, [], ◌∷◌, length, Option, Some, None, refl, sym, ◌∙◌, ap, arith}
use Rattle.std.specs.Prelude.{filter}
use Rattle.std.specs.FinMap.{get, insert, remove, len, find, from_entries, entries, len-entries, get-entries, get-from_entries, get-retain_keys, same_map, gets, nat_cmp-IsAntisymmetric}
use Rattle.std.specs.Ordering.{nat_cmp, eq_by_cmp}
use Rattle.std.specs.Cmp.{nat_cmp_total}
use Rattle.std.proofs.lemmas.Bool.Decides.{nat_tests}
use Rattle.std.proofs.lemmas.List.Sums.{length-filter, count_by-le-length}
use Rattle.gtp_values.specs.FiniteMap.{FiniteMap, kept, passes}

pub tied : (q k : ℕ) → eq_by_cmp nat_cmp q k ≡ true → q ≡ k
tied q k h = grind (arith, nat_tests)

module _ {X : Type 0} where
  find-by_key : (p : ℕ → Bool) (es : List (ℕ × X)) (q : ℕ) → find nat_cmp q (filter (λ e. p e.0) es) ≡ cond (p q) (find nat_cmp q es) None
  find-by_key p [] q = none (p q)
    where
      none : (b : Bool) → ◌≡◌ {A = Option X} None (cond b None None)
      none true = refl
      none false = refl
  find-by_key p (e ∷ es) q = by_tests (eq_by_cmp nat_cmp q e.0) (p e.0) refl refl (find-by_key p es q)
    where
      by_tests : (here keep : Bool) → eq_by_cmp nat_cmp q e.0 ≡ here → p e.0 ≡ keep → find nat_cmp q (filter (λ x. p x.0) es) ≡ cond (p q) (find nat_cmp q es) None
          → find nat_cmp q (cond keep (e ∷ filter (λ x. p x.0) es) (filter (λ x. p x.0) es)) ≡ cond (p q) (cond here (Some e.1) (find nat_cmp q es)) None
      by_tests true true is keeps rest = let same : p q ≡ true = ap p (tied q e.0 is) ∙ keeps in rw (is, same) refl
      by_tests true false is drops rest = let same : p q ≡ false = ap p (tied q e.0 is) ∙ drops in rest ∙ rw same refl
      by_tests false true is keeps rest = rw is rest
      by_tests false false is drops rest = rest

  pub len-insert_most : (table : FiniteMap X) (key : ℕ) (x : X) → len (insert table key x) ≤ len table + 1
  len-insert_most table key x = grind (arith, gets)

  -- what stands is replaced
  pub len-insert_same : (table : FiniteMap X) (key : ℕ) (x y : X) → get table key ≡ Some y → len (insert table key x) ≡ len table
  len-insert_same table key x y e = grind (arith, gets)

  pub len-remove_most : (table : FiniteMap X) (key : ℕ) → len (remove table key) ≤ len table
  len-remove_most table key = grind (arith, gets)

  len-from_entries : (es : List (ℕ × X)) → len (from_entries {R = nat_cmp} es) ≤ length es
  len-from_entries [] = grind (arith, gets)
  len-from_entries (e ∷ es) = omega (arith, len-insert_most (from_entries es) e.0 e.1, len-from_entries es)

  pub len-kept_most : (test : ℕ → X → Bool) (table : FiniteMap X) → len (kept test table) ≤ len table
  len-kept_most test table =
      let p : ℕ → Bool = λ key. passes test key (get table key) in
      let same : kept test table ≡ from_entries {R = nat_cmp} (filter (λ e. p e.0) (entries table)) =
      same_map nat_cmp_total nat_cmp-IsAntisymmetric _ _ (λ q.
      get-retain_keys table p q (λ x t. ap p (sym (nat_cmp-IsAntisymmetric q x t)))
      ∙ (ap (λ o. cond (p q) o None) (get-entries table q)
      ∙ (sym (find-by_key p (entries table) q)
      ∙ sym (get-from_entries nat_cmp_total (filter (λ e. p e.0) (entries table)) q)))) in
      omega (arith, ap len same, len-from_entries (filter (λ e. p e.0) (entries table)), length-filter (λ e. p e.0) (entries table), count_by-le-length (λ e. p e.0) (entries table), len-entries table)
