-- What is left of a list, from a place on.
use Rattle.std.proofs.Common.{◌≡◌, ◌+◌, ℕ, zero, suc, drop, slice_get, List, [], ◌∷◌, Some, None, refl, ◌∙◌, ap, arith}

drop_suc : {X : Type 0} (xs : List X) (i : ℕ) (x : X) → slice_get xs i ≡ Some x → drop i xs ≡ x ∷ drop (suc i) xs
drop_suc [] i x is = absurd cc
drop_suc (y ∷ xs) zero x is = let same : y ≡ x = cc in λ j. same j ∷ xs
drop_suc (y ∷ xs) (suc i) x is = drop_suc xs i x is

one_more : (n : ℕ) → suc n ≡ n + 1
one_more n = omega arith

-- from a place on, where something stands there
pub drop_at : {X : Type 0} (xs : List X) (i : ℕ) (x : X) → slice_get xs i ≡ Some x → drop i xs ≡ x ∷ drop (i + 1) xs
drop_at xs i x is = drop_suc xs i x is ∙ ap (λ n. x ∷ drop n xs) (one_more i)

pub drop_none : {X : Type 0} (xs : List X) (i : ℕ) → slice_get xs i ≡ None → drop i xs ≡ []
drop_none [] zero none = refl
drop_none [] (suc i) none = refl
drop_none (y ∷ xs) zero none = absurd cc
drop_none (y ∷ xs) (suc i) none = drop_none xs i none
