-- The next free number: those before it are taken, and there are more numbers than requests.
use Rattle.std.proofs.Common.{◌≡◌, ℕ, suc, ◌+◌, ◌-◌, ◌%◌, ◌<◌, ◌≤◌, Bool, true, false, cond, List, [], ◌∷◌, length, refl, sym, ap, subst, ◌∙◌, arith, inl, inr}
use Rattle.std.specs.Prelude.{◌==◌, nat_le, ◌||◌}
use Rattle.std.specs.List.{list_any}
use Rattle.std.proofs.lemmas.Bool.{cases_lt}
use Rattle.std.proofs.lemmas.Bool.Decides.{nat_tests}
use Rattle.gtp_reliable.specs.Waiting.{Waiting}
use Rattle.gtp_reliable.specs.Pending.{numbers, number_after, is_pending, IsNextFree}

-- how far a number is after a start
abbrev pub distance : ℕ → ℕ → ℕ
distance start n = (n + numbers - start) % numbers

-- how many requests are so far after a start, or further
unfoldable pub ahead : {P : Type 0} → ℕ → ℕ → List (Waiting P) → ℕ
ahead start k [] = 0
ahead start k (w ∷ ws) = cond (nat_le k (distance start w.seq)) (suc (ahead start k ws)) (ahead start k ws)

choose_le : (b : Bool) (n m : ℕ) → n ≤ m → cond b (suc n) n ≤ suc m
choose_le true n m h = omega arith
choose_le false n m h = omega arith

pub ahead_few : {P : Type 0} (start k : ℕ) (ws : List (Waiting P)) → ahead start k ws ≤ length ws
unfolding ahead
ahead_few start k [] = omega arith
ahead_few start k (w ∷ ws) = choose_le (nat_le k (distance start w.seq)) (ahead start k ws) (length ws) (ahead_few start k ws)

-- further on there are no more
further_by : (k d n m : ℕ) → n ≤ m → cond (nat_le (k + 1) d) (suc n) n ≤ cond (nat_le k d) (suc m) m
further_by k d n m h = by_test (nat_le (k + 1) d) (nat_le k d) refl refl where
  by_test : (a b : Bool) → nat_le (k + 1) d ≡ a → nat_le k d ≡ b → cond a (suc n) n ≤ cond b (suc m) m
  by_test true true s t = omega arith
  by_test false true s t = omega arith
  by_test false false s t = h
  by_test true false s t = absurd (grind (arith, nat_tests))

further : {P : Type 0} (start k : ℕ) (ws : List (Waiting P)) → ahead start (k + 1) ws ≤ ahead start k ws
unfolding ahead
further start k [] = omega arith
further start k (w ∷ ws) = further_by k (distance start w.seq) (ahead start (k + 1) ws) (ahead start k ws) (further start k ws)

-- a request of the number itself is not further on
further_less : (k d n m : ℕ) → suc n ≤ m → cond (nat_le (k + 1) d) (suc n) n < cond (nat_le k d) (suc m) m
further_less k d n m h = by_test (nat_le (k + 1) d) (nat_le k d) refl refl where
  by_test : (a b : Bool) → nat_le (k + 1) d ≡ a → nat_le k d ≡ b → cond a (suc n) n < cond b (suc m) m
  by_test true true s t = omega arith
  by_test false true s t = omega arith
  by_test false false s t = omega arith
  by_test true false s t = absurd (grind (arith, nat_tests))

here_less : (k d n m : ℕ) → d ≡ k → n ≤ m → cond (nat_le (k + 1) d) (suc n) n < cond (nat_le k d) (suc m) m
here_less k d n m e h = by_test (nat_le (k + 1) d) (nat_le k d) refl refl where
  by_test : (a b : Bool) → nat_le (k + 1) d ≡ a → nat_le k d ≡ b → cond a (suc n) n < cond b (suc m) m
  by_test false true s t = omega arith
  by_test true b s t = absurd (grind (arith, nat_tests))
  by_test false false s t = absurd (grind (arith, nat_tests))

less_by : {P : Type 0} (start k n : ℕ) (w : Waiting P) (ws : List (Waiting P)) → distance start n ≡ k
    → (list_any (λ v. v.seq == n) ws ≡ true → ahead start (k + 1) ws < ahead start k ws) → (b : Bool) → (w.seq == n) ≡ b
    → (b || list_any (λ v. v.seq == n) ws) ≡ true
    → cond (nat_le (k + 1) (distance start w.seq)) (suc (ahead start (k + 1) ws)) (ahead start (k + 1) ws) < cond (nat_le k (distance start w.seq)) (suc (ahead start k ws)) (ahead start k ws)
less_by start k n w ws e others true t p =
    let same : w.seq ≡ n = grind (arith, nat_tests) in
    here_less k (distance start w.seq) (ahead start (k + 1) ws) (ahead start k ws) (ap (distance start) same ∙ e) (further start k ws)
less_by start k n w ws e others false t p = further_less k (distance start w.seq) (ahead start (k + 1) ws) (ahead start k ws) (others p)

pub ahead_less : {P : Type 0} (start k n : ℕ) (ws : List (Waiting P)) → distance start n ≡ k → is_pending n ws ≡ true → ahead start (k + 1) ws < ahead start k ws
unfolding ahead is_pending
ahead_less start k n [] e h = absurd cc
ahead_less start k n (w ∷ ws) e h = less_by start k n w ws e (λ p. ahead_less start k n ws e p) (w.seq == n) refl h

-- ---- the search

-- what holds of a number that was come to
pub record IsReached {P : Type 0} (start : ℕ) (ws : List (Waiting P)) (n : ℕ) : Type 0 where
  pub small : n < numbers
  pub few : distance start n + ahead start (distance start n) ws ≤ 256
  pub taken : (j : ℕ) → j < distance start n → is_pending ((start + j) % numbers) ws ≡ true

pub reached_first : {P : Type 0} (start : ℕ) (ws : List (Waiting P)) → start < numbers → length ws ≤ 256 → IsReached start ws start
reached_first start ws s l =
    let none : distance start start ≡ 0 = omega arith in
    let some = ahead_few start (distance start start) ws in
    record { small = s; few = omega arith; taken = λ j h. absurd (omega (arith, h, none)) }

-- a number that is taken
pub record GoesOn {P : Type 0} (start : ℕ) (ws : List (Waiting P)) (n : ℕ) : Type 0 where
  pub reached : IsReached start ws (number_after n)
  pub fewer : ahead start (distance start (number_after n)) ws < ahead start (distance start n) ws

pub reached_next : {P : Type 0} (start : ℕ) (ws : List (Waiting P)) (n : ℕ) → start < numbers → IsReached start ws n → is_pending n ws ≡ true → GoesOn start ws n
reached_next {P} start ws n s r h =
    let k : ℕ = distance start n in
    let less = ahead_less start (distance start n) n ws refl h in
    let one_more : distance start (number_after n) ≡ distance start n + 1 = omega (arith, r.few, r.small, s) in
    let fewer : ahead start (distance start (number_after n)) ws < ahead start (distance start n) ws = subst (λ (m : ℕ). ahead start m ws < ahead start (distance start n) ws) (sym one_more) less in
    let here : (start + distance start n) % numbers ≡ n = omega (arith, r.small, s) in
    record {
      reached = record {
        small = omega arith;
        few = omega (arith, fewer, r.few, one_more);
        taken = λ j lt. by_place j (omega (arith, lt, one_more)) here;
      };
      fewer = fewer;
    }
  where
    by_place : (j : ℕ) → j < distance start n + 1 → (start + distance start n) % numbers ≡ n → is_pending ((start + j) % numbers) ws ≡ true
    by_place j lt here = elim (cases_lt j (distance start n)) [
      | inl less ↦ r.taken j less
      | inr le ↦ let last : distance start n ≡ j =
          omega (arith, lt, le) in subst (λ (i : ℕ). is_pending ((start + i) % numbers) ws ≡ true) last
          (subst (λ (i : ℕ). is_pending i ws ≡ true) (sym here) h)
    ]

pub reached_free : {P : Type 0} (start : ℕ) (ws : List (Waiting P)) (n : ℕ) → start < numbers → IsReached start ws n → is_pending n ws ≡ false → IsNextFree start ws n
reached_free start ws n s r h = record { free = h; passed = distance start n; few = omega (arith, r.few); place = omega (arith, r.small, s); taken = r.taken }
