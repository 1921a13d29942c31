-- Rows after a write by index.
use Rattle.std.proofs.Common.{◌≡◌, ℕ, zero, suc, ◌+◌, List, [], ◌∷◌, ◌++◌, map, take, drop, add-one, Some, sym, ap, ◌∙◌}
use Rattle.std.specs.Prelude.{slice_get}
use Rattle.std.specs.Map.{values_of}
use Rattle.indexmap.specs.IndexMap.{set_value_at}

-- ---- a loop by index that writes each value

module _ {K X : Type 0} (f : X → X) where
  abbrev written : K × X → K × X
  written e = (e.0, f e.1)

  set_next : (es : List (K × X)) (i : ℕ) (x : X) → slice_get (values_of (map written (take i es) ++ drop i es)) i ≡ Some x
      → set_value_at (map written (take i es) ++ drop i es) i (f x) ≡ map written (take (suc i) es) ++ drop (suc i) es
  set_next [] zero x h = absurd cc
  set_next [] (suc i) x h = absurd cc
  set_next (e ∷ es) zero x h = let same : e.1 ≡ x = cc in ap (λ (v : X). (e.0, f v) ∷ es) (sym same)
  set_next (e ∷ es) (suc i) x h = ap (λ (l : List (K × X)). written e ∷ l) (set_next es i x h)

  pub written_next : (es now : List (K × X)) (i : ℕ) (x y : X) → now ≡ map (λ e. (e.0, f e.1)) (take i es) ++ drop i es → slice_get (values_of now) i ≡ Some x
      → y ≡ f x → set_value_at now i y ≡ map (λ e. (e.0, f e.1)) (take (i + 1) es) ++ drop (i + 1) es
  written_next es now i x y so_far at is =
      let there : slice_get (values_of (map written (take i es) ++ drop i es)) i ≡ Some x = ap (λ (l : List (K × X)). slice_get (values_of l) i) (sym so_far) ∙ at in
      ap (λ (l : List (K × X)). set_value_at l i y) so_far ∙ (ap (λ (v : X). set_value_at (map written (take i es) ++ drop i es) i v) is
      ∙ (set_next es i x there ∙ ap (λ (n : ℕ). map written (take n es) ++ drop n es) (sym (add-one i))))
