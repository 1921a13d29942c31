-- The first places of the keys of a list, where a key is added behind it or the last one taken away.
use Rattle.std.proofs.Common.{◌≡◌, ◌<◌, ℕ, suc, Bool, true, false, cond, List, [], ◌∷◌, ◌++◌, length, Option, Some, None, refl, sym, ap, subst, ◌∙◌, arith}
use Rattle.std.specs.Prelude.{option_map, IsSome, IfSome}
use Rattle.std.proofs.lemmas.Option.{same_Some}
use Rattle.std.specs.Cmp.{IsEquivalence}
use Rattle.gtp_node.specs.Places.{first_by}

-- the first place, or that behind the list where the key added there equals
abbrev or_last : Option ℕ → Bool → ℕ → Option ℕ
or_last (Some p) b n = Some p
or_last None true n = Some n
or_last None false n = None

next_last : (f : Option ℕ) (b : Bool) (n : ℕ) → option_map (λ k. suc k) (or_last f b n) ≡ or_last (option_map (λ k. suc k) f) b (suc n)
next_last (Some p) b n = refl
next_last None true n = refl
next_last None false n = refl

no_last : (f : Option ℕ) (n : ℕ) → or_last f false n ≡ f
no_last (Some p) n = refl
no_last None n = refl

next_within : (f : Option ℕ) (n : ℕ) → IfSome f (λ p. p < n) → IfSome (option_map (λ k. suc k) f) (λ p. p < suc n)
next_within (Some p) n few = omega (arith, few)
next_within None n few = few

module _ {K : Type 0} (eq : K → K → Bool) where
  within : (k : K) (xs : List K) → IfSome (first_by eq k xs) (λ p. p < length xs)
  within k [] = tt
  within k (x ∷ xs) = by (eq k x) (next_within (first_by eq k xs) (length xs) (within k xs))
    where
      by : (b : Bool) → IfSome (option_map (λ n. suc n) (first_by eq k xs)) (λ p. p < length (x ∷ xs))
          → IfSome (cond b (Some 0) (option_map (λ n. suc n) (first_by eq k xs))) (λ p. p < length (x ∷ xs))
      by true few = omega arith
      by false few = few

  first_last : (k x : K) (xs : List K) → first_by eq k (xs ++ x ∷ []) ≡ or_last (first_by eq k xs) (eq k x) (length xs)
  first_last k x [] = one (eq k x)
    where
      one : (b : Bool) → cond b (Some 0) None ≡ or_last None b 0
      one true = refl
      one false = refl
  first_last k x (y ∷ ys) = two (eq k y) (ap (option_map (λ n. suc n)) (first_last k x ys) ∙ next_last (first_by eq k ys) (eq k x) (length ys))
    where
      two : (b : Bool) → option_map (λ n. suc n) (first_by eq k (ys ++ x ∷ [])) ≡ or_last (option_map (λ n. suc n) (first_by eq k ys)) (eq k x) (length (y ∷ ys))
          → cond b (Some 0) (option_map (λ n. suc n) (first_by eq k (ys ++ x ∷ []))) ≡ or_last (cond b (Some 0) (option_map (λ n. suc n) (first_by eq k ys))) (eq k x) (length (y ∷ ys))
      two true e = refl
      two false e = e

  module _ (alike : IsEquivalence eq) where
    first_alike : (k q : K) → eq k q ≡ true → (xs : List K) → first_by eq k xs ≡ first_by eq q xs
    first_alike k q e [] = refl
    first_alike k q e (x ∷ xs) =
        ap (λ b. cond b (Some 0) (option_map (λ n. suc n) (first_by eq k xs))) (alike.congr k q x e)
        ∙ ap (λ f. cond (eq q x) (Some 0) (option_map (λ n. suc n) f)) (first_alike k q e xs)

    -- of a key that does not equal the last one, the first place is among the others
    not_last : (x q : K) (xs : List K) → eq x q ≡ false → first_by eq q (xs ++ x ∷ []) ≡ first_by eq q xs
    not_last x q xs is =
        first_last q x xs ∙ ap (λ c. or_last (first_by eq q xs) c (length xs)) (alike.symm q x ∙ is) ∙ no_last (first_by eq q xs) (length xs)

    -- of one that equals it, that of the last one among the others, or the last place
    as_last : (x q : K) (xs : List K) → eq x q ≡ true → first_by eq q (xs ++ x ∷ []) ≡ or_last (first_by eq x xs) true (length xs)
    as_last x q xs is =
        first_last q x xs ∙ ap (λ c. or_last (first_by eq q xs) c (length xs)) (alike.symm q x ∙ is)
        ∙ ap (λ f. or_last f true (length xs)) (sym (first_alike x q is xs))

    module _ (at at' : K → Option ℕ) (x : K) (xs : List K) where
      -- a key is added: what stood at keys stays, and where none stood at this one, there is its place now
      pub push_keeps : ((q : K) → at q ≡ first_by eq q xs) → (IsSome (at x) → (q : K) → at' q ≡ at q)
          → (at x ≡ None → (q : K) → at' q ≡ cond (eq x q) (Some (length xs)) (at q)) → (q : K) → at' q ≡ first_by eq q (xs ++ x ∷ [])
      push_keeps was present absent q = by (at x) refl (eq x q) refl
        where
          by : (o : Option ℕ) → at x ≡ o → (b : Bool) → eq x q ≡ b → at' q ≡ first_by eq q (xs ++ x ∷ [])
          by (Some p) has true is =
              present (subst IsSome (sym has) refl) q ∙ was q ∙ sym (first_alike x q is xs) ∙ sym (was x) ∙ has
              ∙ sym (as_last x q xs is ∙ ap (λ f. or_last f true (length xs)) (sym (was x) ∙ has))
          by (Some p) has false is = present (subst IsSome (sym has) refl) q ∙ was q ∙ sym (not_last x q xs is)
          by None has true is =
              absent has q ∙ ap (λ c. cond c (Some (length xs)) (at q)) is ∙ sym (as_last x q xs is ∙ ap (λ f. or_last f true (length xs)) (sym (was x) ∙ has))
          by None has false is = absent has q ∙ ap (λ c. cond c (Some (length xs)) (at q)) is ∙ was q ∙ sym (not_last x q xs is)

      -- the last key is taken away, and its place with it where it is the first
      pub pop_keeps : ((q : K) → at q ≡ first_by eq q (xs ++ x ∷ [])) → at x ≡ Some (length xs)
          → ((q : K) → at' q ≡ cond (eq x q) None (at q)) → (q : K) → at' q ≡ first_by eq q xs
      pop_keeps was here taken q = by (first_by eq x xs) refl (eq x q) refl
        where
          last : or_last (first_by eq x xs) true (length xs) ≡ Some (length xs)
          last = sym (as_last x x xs (alike.refl x)) ∙ sym (was x) ∙ here

          by : (f : Option ℕ) → first_by eq x xs ≡ f → (b : Bool) → eq x q ≡ b → at' q ≡ first_by eq q xs
          by (Some p) first b is =
              let few : p < length xs = subst (λ (o : Option ℕ). IfSome o (λ p. p < length xs)) first (within x xs) in
              let same : p ≡ length xs = same_Some p (length xs) (ap (λ f. or_last f true (length xs)) (sym first) ∙ last) in
              absurd (omega (arith, few, same))
          by None first true is = taken q ∙ ap (λ c. cond c None (at q)) is ∙ sym (sym (first_alike x q is xs) ∙ first)
          by None first false is = taken q ∙ ap (λ c. cond c None (at q)) is ∙ was q ∙ not_last x q xs is

      -- and nothing where it is not
      pub pop_stays : ((q : K) → at q ≡ first_by eq q (xs ++ x ∷ [])) → (at x ≡ Some (length xs) → ⊥) → (q : K) → at q ≡ first_by eq q xs
      pop_stays was other q = by (first_by eq x xs) refl (eq x q) refl
        where
          by : (f : Option ℕ) → first_by eq x xs ≡ f → (b : Bool) → eq x q ≡ b → at q ≡ first_by eq q xs
          by (Some p) first true is =
              was q ∙ as_last x q xs is ∙ ap (λ f. or_last f true (length xs)) first ∙ sym (sym (first_alike x q is xs) ∙ first)
          by (Some p) first false is = was q ∙ not_last x q xs is
          by None first b is = absurd (other (was x ∙ as_last x x xs (alike.refl x) ∙ ap (λ f. or_last f true (length xs)) first))
