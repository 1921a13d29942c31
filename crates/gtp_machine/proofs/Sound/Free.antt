-- What may be chosen is there, where few are taken.
use Rattle.std.proofs.Common.{◌≡◌, ◌≢◌, ◌⊎◌, inl, inr, ⊎_elim, ℕ, zero, suc, ◌+◌, ◌*◌, ◌/◌, ◌%◌, ◌^◌, ◌≤◌, ◌<◌, eqb, Bool, true, false, not, cond}
use Rattle.std.proofs.Common.{◌||◌, List, [], ◌∷◌, length, Option, Some, None, is_some, refl, sym, ◌∙◌, ap, subst, arith}
use Rattle.std.specs.Prelude.{filter}
use Rattle.std.specs.List.{list_any}
use Rattle.std.specs.FinMap.{get, len, entries, len-entries, keys, contains_key-keys}
use Rattle.std.specs.Ordering.{nat_cmp, eq_by_cmp}
use Rattle.std.proofs.lemmas.Bool.{cases_eq, eq-eqb, ne_eqb}
use Rattle.std.proofs.lemmas.List.{length-map}
use Rattle.std.proofs.lemmas.List.Sums.{length-filter, count_by-le-length}
use Rattle.gtp_values.specs.FiniteMap.{FiniteMap, Among}
use Rattle.gtp_machine.proofs.Basics.Counting.{tied}

decides : (x : ℕ) (xs : List ℕ) → Among x xs ⊎ (Among x xs → ⊥)
decides x [] = inr (λ none. none)
decides x (y ∷ ys) = ⊎_elim (λ here. inl (inl here)) (λ other. ⊎_elim (λ there. inl (inr there)) (λ none. inr (λ among. ⊎_elim other none among)) (decides x ys)) (cases_eq x y)

abbrev others : ℕ → List ℕ → List ℕ
others x xs = filter (λ y. not (eqb y x)) xs

fewer_others : (x : ℕ) (xs : List ℕ) → Among x xs → length (others x xs) < length xs
fewer_others x [] none = absurd none
fewer_others x (y ∷ ys) (inl here) =
    subst (λ b. length (cond b (y ∷ others x ys) (others x ys)) < length (y ∷ ys)) (sym (ap not (eq-eqb y x (sym here))))
    (omega (arith, length-filter (λ y. not (eqb y x)) ys, count_by-le-length (λ y. not (eqb y x)) ys))
fewer_others x (y ∷ ys) (inr there) = by_test (not (eqb y x)) (fewer_others x ys there)
  where
    by_test : (b : Bool) → length (others x ys) < length ys → length (cond b (y ∷ others x ys) (others x ys)) < length (y ∷ ys)
    by_test true rest = omega (arith, rest)
    by_test false rest = omega (arith, rest)

still_among : (x z : ℕ) (xs : List ℕ) → z ≢ x → Among z xs → Among z (others x xs)
still_among x z [] other none = none
still_among x z (y ∷ ys) other (inl here) = subst (λ b. Among z (cond b (y ∷ others x ys) (others x ys))) (sym (ap not (ne_eqb y x (λ same. other (here ∙ same))))) (inl here)
still_among x z (y ∷ ys) other (inr there) = by_test (not (eqb y x)) (still_among x z ys other there)
  where
    by_test : (b : Bool) → Among z (others x ys) → Among z (cond b (y ∷ others x ys) (others x ys))
    by_test true rest = inr rest
    by_test false rest = rest

-- a list of fewer than n numbers lacks one of each n that follow each other
pub unused : (base : ℕ) (n : ℕ) (xs : List ℕ) → length xs < n → (k : ℕ) × (k < n) × (Among (base + k) xs → ⊥)
unused base zero xs few = absurd (omega (arith, few))
unused base (suc n) xs few = ⊎_elim
    (λ there.
    let r = unused base n (others (base + n) xs) (omega (arith, fewer_others (base + n) xs there, few)) in
    (r.0, omega (arith, r.1), λ among. r.2 (still_among (base + n) (base + r.0) xs (λ same. omega (arith, r.1, same)) among)))
    (λ none. (n, omega arith, none))
    (decides (base + n) xs)

pub free_teid : (counter : ℕ) (drawn : List ℕ) → length drawn < 16777215 → (t : ℕ) × (t / 2 ^ 24 ≡ counter) × (0 < t % 2 ^ 24) × (Among t drawn → ⊥)
free_teid counter drawn few =
    let r = unused (counter * 16777216 + 1) 16777215 drawn few in
    (counter * 16777216 + 1 + r.0, omega (arith, r.1), omega (arith, r.1), r.2)

any_among : (q : ℕ) (ks : List ℕ) → list_any (eq_by_cmp nat_cmp q) ks ≡ true → Among q ks
any_among q [] e = absurd (cc e)
any_among q (k ∷ ks) e = by_test (eq_by_cmp nat_cmp q k) refl (λ h. any_among q ks h) e
  where
    by_test : (b : Bool) → eq_by_cmp nat_cmp q k ≡ b → (list_any (eq_by_cmp nat_cmp q) ks ≡ true → Among q ks) → (b || list_any (eq_by_cmp nat_cmp q) ks) ≡ true → Among q (k ∷ ks)
    by_test true is rest h = inl (tied q k is)
    by_test false is rest h = inr (rest h)

pub free_key : {X : Type 0} (table : FiniteMap X) → len table < 256 → (n : ℕ) × (n ≤ 8388607) × (get table n ≡ None)
free_key {X} table few =
    let r = unused 0 256 (keys table) (omega (arith, few, length-map (entries table) (λ e. e.0), len-entries table)) in
    (0 + r.0, omega (arith, r.1), none (0 + r.0) r.2 (get table (0 + r.0)) refl)
  where
    none : (q : ℕ) → (Among q (keys table) → ⊥) → (o : Option X) → get table q ≡ o → get table q ≡ None
    none q not_there None e = e
    none q not_there (Some x) e = absurd (not_there (any_among q (keys table) (sym (contains_key-keys table q) ∙ ap is_some e)))
