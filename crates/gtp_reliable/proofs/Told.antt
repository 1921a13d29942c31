-- What rows tell of the requests that contracts see.
use Rattle.std.proofs.Common.{◌≡◌, ℕ, Bool, true, false, cond, List, [], ◌∷◌, ◌++◌, ◌≤◌, length, map, Some, None, refl, sym, ap, subst, ◌∙◌}
use Rattle.std.specs.Prelude.{◌==◌, ◌&&◌, ◌||◌, not, filter, is_some, option_map}
use Rattle.std.specs.List.{list_any}
use Rattle.std.proofs.lemmas.List.{length-map, map_push}
use Rattle.gtp_reliable.specs.Waiting.{Waiting}
use Rattle.gtp_reliable.specs.Pending.{is_pending, purpose_of, others, AreDistinct}
use Rattle.gtp_reliable.specs.Rows.{Sent, seen, row_of, without, others_of}
use Rattle.gtp_reliable.specs.Ages.{age, by_age, AreInTurn}
use Rattle.gtp_reliable.proofs.Lists.{none_of}
use Rattle.gtp_reliable.proofs.Ages.{age_length, age_pending, age_purpose, age_distinct, age_filter, age_push, turn_filter, turn_push}

-- ---- two tests

filter_alike : {X : Type 0} (f g : X → Bool) (xs : List X) → ((x : X) → f x ≡ g x) → filter f xs ≡ filter g xs
filter_alike f g [] same = refl
filter_alike f g (x ∷ xs) same = rw (same x, filter_alike f g xs same) refl

filter_cons : {X : Type 0} (f : X → Bool) (b : Bool) (x : X) (xs : List X) → filter f (cond b (x ∷ xs) xs) ≡ cond (b && f x) (x ∷ filter f xs) (filter f xs)
filter_cons f true x xs = refl
filter_cons f false x xs = refl

pub filter_twice : {X : Type 0} (f g : X → Bool) (xs : List X) → filter f (filter g xs) ≡ filter (λ x. g x && f x) xs
filter_twice f g [] = refl
filter_twice f g (x ∷ xs) = filter_cons f (g x) x (filter g xs) ∙ ap (λ (l : List _). cond (g x && f x) (x ∷ l) l) (filter_twice f g xs)

-- ---- rows as contracts see them

pub seen_filter : {P : Type 0} (now : ℕ) (p : Waiting P → Bool) (q : Sent P → Bool) (rs : List (Sent P)) → ((r : Sent P) → p (seen now r) ≡ q r)
    → map (seen now) (filter q rs) ≡ filter p (map (seen now) rs)
seen_filter now p q [] same = refl
seen_filter {P} now p q (r ∷ rs) same = by (q r) (seen_filter now p q rs same) ∙ ap (λ (b : Bool). cond b (seen now r ∷ filter p (map (seen now) rs)) (filter p (map (seen now) rs))) (sym (same r))
  where
    by : (b : Bool) → map (seen now) (filter q rs) ≡ filter p (map (seen now) rs)
        → map (seen now) (cond b (r ∷ filter q rs) (filter q rs)) ≡ cond b (seen now r ∷ filter p (map (seen now) rs)) (filter p (map (seen now) rs))
    by true h = ap (λ (l : List (Waiting P)). seen now r ∷ l) h
    by false h = h

pub seen_purpose : {P : Type 0} (now n : ℕ) (rs : List (Sent P)) → option_map (λ r. r.purpose) (row_of n rs) ≡ purpose_of n (map (seen now) rs)
unfolding row_of purpose_of
seen_purpose now n [] = refl
seen_purpose {P} now n (r ∷ rs) = by (r.seq == n) (seen_purpose now n rs)
  where
    by : (b : Bool) → option_map (λ (x : Sent P). x.purpose) (row_of n rs) ≡ purpose_of n (map (seen now) rs)
        → option_map (λ (x : Sent P). x.purpose) (cond b (Some r) (row_of n rs)) ≡ cond b (Some r.purpose) (purpose_of n (map (seen now) rs))
    by true h = refl
    by false h = h

pub seen_pending : {P : Type 0} (now n : ℕ) (rs : List (Sent P)) → is_some (row_of n rs) ≡ is_pending n (map (seen now) rs)
unfolding row_of is_pending
seen_pending now n [] = refl
seen_pending {P} now n (r ∷ rs) = by (r.seq == n) (seen_pending now n rs)
  where
    by : (b : Bool) → is_some (row_of n rs) ≡ list_any (λ (w : Waiting P). w.seq == n) (map (seen now) rs)
        → is_some (cond b (Some r) (row_of n rs)) ≡ (b || list_any (λ (w : Waiting P). w.seq == n) (map (seen now) rs))
    by true h = refl
    by false h = h

-- ---- in order of beginning

-- the requests as contracts see them
abbrev pub waiting_of : {P : Type 0} → ℕ → List (Sent P) → List (Waiting P)
waiting_of now rs = by_age (map (seen now) rs)

module _ {P : Type 0} (now : ℕ) (rs : List (Sent P)) where
  pub length_is : length (waiting_of now rs) ≡ length rs
  length_is = age_length (map (seen now) rs) ∙ length-map rs (seen now)

  pub pending_is : (n : ℕ) → is_some (row_of n rs) ≡ is_pending n (waiting_of now rs)
  pending_is n = seen_pending now n rs ∙ sym (age_pending n (map (seen now) rs))

  pub free_is : (n : ℕ) → is_pending n (waiting_of now rs) ≡ false → row_of n rs ≡ None
  free_is n h = none_of (row_of n rs) (pending_is n ∙ h)

  pub purpose_is : (n : ℕ) → AreDistinct (waiting_of now rs) → option_map (λ r. r.purpose) (row_of n rs) ≡ purpose_of n (waiting_of now rs)
  purpose_is n d = seen_purpose now n rs ∙ sym (age_purpose n (map (seen now) rs) (age_distinct (map (seen now) rs) d))

  pub without_is : (n : ℕ) → waiting_of now (without n rs) ≡ filter (λ w. not (w.seq == n)) (waiting_of now rs)
  without_is n = ap by_age (seen_filter now (λ w. not (w.seq == n)) (λ r. not (r.seq == n)) rs (λ r. refl)) ∙ age_filter (λ w. not (w.seq == n)) (map (seen now) rs)

  pub others_is : (meets : P → Bool) → waiting_of now (others_of meets rs) ≡ others meets (waiting_of now rs)
  others_is meets = ap by_age (seen_filter now (λ w. not (meets w.purpose)) (λ r. not (meets r.purpose)) rs (λ r. refl)) ∙ age_filter (λ w. not (meets w.purpose)) (map (seen now) rs)

  pub others_count : (meets : P → Bool) → length (others meets (waiting_of now rs)) ≡ length (others_of meets rs)
  others_count meets = ap length (sym (others_is meets)) ∙ (age_length (map (seen now) (others_of meets rs)) ∙ length-map (others_of meets rs) (seen now))

  pub push_is : (r : Sent P) → age (seen now r) ≡ 0 → waiting_of now (rs ++ r ∷ []) ≡ waiting_of now rs ++ seen now r ∷ []
  push_is r new = ap by_age (map_push (seen now) rs r) ∙ age_push (map (seen now) rs) (seen now r) new

  pub without_turn : (t3 n : ℕ) → AreInTurn t3 (map (seen now) rs) → AreInTurn t3 (map (seen now) (without n rs))
  without_turn t3 n turn =
      subst (AreInTurn t3) (sym (seen_filter now (λ w. not (w.seq == n)) (λ r. not (r.seq == n)) rs (λ r. refl)))
      (turn_filter t3 (λ w. not (w.seq == n)) (map (seen now) rs) turn)

  pub others_turn : (t3 : ℕ) (meets : P → Bool) → AreInTurn t3 (map (seen now) rs) → AreInTurn t3 (map (seen now) (others_of meets rs))
  others_turn t3 meets turn =
      subst (AreInTurn t3) (sym (seen_filter now (λ w. not (meets w.purpose)) (λ r. not (meets r.purpose)) rs (λ r. refl)))
      (turn_filter t3 (λ w. not (meets w.purpose)) (map (seen now) rs) turn)

  pub push_turn : (t3 : ℕ) (r : Sent P) → AreInTurn t3 (map (seen now) rs) → (seen now r).waited ≡ 0 → r.resent ≡ 0 → 1 ≤ t3 → AreInTurn t3 (map (seen now) (rs ++ r ∷ []))
  push_turn t3 r turn none never some = subst (AreInTurn t3) (sym (map_push (seen now) rs r)) (turn_push t3 (map (seen now) rs) (seen now r) turn none never some)
