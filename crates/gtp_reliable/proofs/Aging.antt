-- A tick costs what it gives up: those are in front.
use Rattle.std.proofs.Common.{◌≡◌, ℕ, ◌+◌, ◌<◌, ◌≤◌, ◌%◌, ◌^◌, Bool, true, false, cond, not, List, [], ◌∷◌, ◌++◌, map, drop, take, get_or, length}
use Rattle.std.proofs.Common.{zero, suc, Some, None, refl, sym, ap, ◌∙◌, subst, arith, nat_lt}
use Rattle.std.specs.Prelude.{is_some, All}
use Rattle.std.specs.List.{AllByRecursion, filter_map, cons_option}
use Rattle.std.proofs.lemmas.Bool.Decides.{nat_tests}
use Rattle.std.proofs.lemmas.List.{length-map}
use Rattle.gtp_reliable.specs.declared.held_answer.Pair.{Pair}
use Rattle.gtp_reliable.specs.Index.{after, question}
use Rattle.gtp_reliable.specs.Held.{HeldPair, after_tick, forgotten}
use Rattle.gtp_reliable.specs.Aging.{age, seen, is_due, AreAging}

older : (kept now : ℕ) → after kept now + 1 < 2 ^ 64 → after kept ((now + 1) % 2 ^ 64) ≡ after kept now + 1
older kept now few = omega arith

stays : (now hold : ℕ) (p : Pair) → age now p + 1 < hold → hold < 2 ^ 64 → after_tick hold (seen now p) ≡ Some (seen ((now + 1) % 2 ^ 64) p)
stays now hold p lt few = by (nat_lt (age now p + 1) hold) (grind (arith, nat_tests))
  where
    same : record (seen now p) { age = age now p + 1 } ≡ seen ((now + 1) % 2 ^ 64) p
    same = λ i. record { source = p.source; request = p.request.items; answer = p.answer.items; age = sym (older p.kept now (omega (arith, lt, few))) i }

    by : (b : Bool) → b ≡ true → cond b (Some (record (seen now p) { age = age now p + 1 })) None ≡ Some (seen ((now + 1) % 2 ^ 64) p)
    by true e = ap Some same
    by false e = absurd cc

young_stay : (now hold a : ℕ) (ps : List Pair) → AllByRecursion (λ (q : Pair). age now q ≤ a) ps → a + 1 < hold → hold < 2 ^ 64
    → map (seen ((now + 1) % 2 ^ 64)) ps ≡ filter_map (after_tick hold) (map (seen now) ps)
young_stay now hold a [] all lt few = refl
young_stay now hold a (p ∷ ps) all lt few =
    let e : after_tick hold (seen now p) ≡ Some (seen ((now + 1) % 2 ^ 64) p) = stays now hold p (omega (arith, all.0, lt)) few in
    let f : map (seen ((now + 1) % 2 ^ 64)) ps ≡ filter_map (after_tick hold) (map (seen now) ps) = young_stay now hold a ps all.1 lt few in
    (λ i. cons_option (sym e i) (f i))

-- where the front stays, all stay
pub all_stay : (now hold : ℕ) (ps : List Pair) → is_due now hold ps ≡ false → AreAging now hold ps → hold < 2 ^ 64
    → map (seen ((now + 1) % 2 ^ 64)) ps ≡ filter_map (after_tick hold) (map (seen now) ps)
all_stay now hold [] h a few = refl
all_stay now hold (p ∷ ps) h a few = young_stay now hold (age now p) (p ∷ ps) (omega arith, a.1) (by h) few
  where
    by : not (nat_lt (age now p + 1) hold) ≡ false → age now p + 1 < hold
    by e = grind (arith, nat_tests)

pub due_next : (now hold : ℕ) (ps : List Pair) → is_due now hold ps ≡ true → filter_map (after_tick hold) (map (seen now) (drop 1 ps)) ≡ filter_map (after_tick hold) (map (seen now) ps)
due_next now hold [] h = refl
due_next now hold (p ∷ ps) h = by (nat_lt (age now p + 1) hold) h
  where
    by : (b : Bool) → not b ≡ true → filter_map (after_tick hold) (map (seen now) ps)
        ≡ cons_option (cond b (Some (record (seen now p) { age = age now p + 1 })) None) (filter_map (after_tick hold) (map (seen now) ps))
    by true e = absurd cc
    by false e = refl

pub aging_next : (now hold : ℕ) (ps : List Pair) → AreAging now hold ps → AreAging now hold (drop 1 ps)
aging_next now hold [] a = a
aging_next now hold (p ∷ ps) a = a.2

pub fewer_left : (ps : List Pair) → length (drop 1 ps) ≤ length ps
fewer_left [] = omega arith
fewer_left (p ∷ ps) = omega arith

young_age : (now hold a : ℕ) (ps : List Pair) → AllByRecursion (λ (q : Pair). age now q ≤ a) ps → a + 1 < hold → hold < 2 ^ 64 → AllByRecursion (λ (q : Pair). age ((now + 1) % 2 ^ 64) q ≤ a + 1) ps
young_age now hold a [] all lt few = tt
young_age now hold a (p ∷ ps) all lt few = (omega (arith, older p.kept now (omega (arith, all.0, lt, few)), all.0), young_age now hold a ps all.1 lt few)

ages : (now hold a : ℕ) (ps : List Pair) → AllByRecursion (λ (q : Pair). age now q ≤ a) ps → a + 1 < hold → hold < 2 ^ 64 → AreAging now hold ps → AreAging ((now + 1) % 2 ^ 64) hold ps
ages now hold a [] all lt few old = tt
ages now hold a (p ∷ ps) all lt few old =
    let next : age ((now + 1) % 2 ^ 64) p ≡ age now p + 1 = older p.kept now (omega (arith, all.0, lt, few)) in (
      omega (arith, next, all.0, lt),
      subst (λ (n : ℕ). AllByRecursion (λ (q : Pair). age ((now + 1) % 2 ^ 64) q ≤ n) ps) (sym next)
          (young_age now hold (age now p) ps old.1 (omega (arith, all.0, lt)) few),
      ages now hold a ps all.1 lt few old.2,
    )

-- and they age in order
pub all_age : (now hold : ℕ) (ps : List Pair) → is_due now hold ps ≡ false → AreAging now hold ps → hold < 2 ^ 64 → AreAging ((now + 1) % 2 ^ 64) hold ps
all_age now hold [] h a few = tt
all_age now hold (p ∷ ps) h a few = ages now hold (age now p) (p ∷ ps) (omega arith, a.1) (by h) few a
  where
    by : not (nat_lt (age now p + 1) hold) ≡ false → age now p + 1 < hold
    by e = grind (arith, nat_tests)

-- ---- what is forgotten

not_forgotten : (now hold : ℕ) (p : Pair) → age now p + 1 < hold → forgotten hold (seen now p) ≡ None
not_forgotten now hold p lt = by (nat_lt (age now p + 1) hold) (grind (arith, nat_tests))
  where
    by : (b : Bool) → b ≡ true → cond b None (Some (question p.source p.request.items)) ≡ None
    by true e = refl
    by false e = absurd cc

young_forgotten : (now hold a : ℕ) (ps : List Pair) → AllByRecursion (λ (q : Pair). age now q ≤ a) ps → a + 1 < hold → [] ≡ filter_map (forgotten hold) (map (seen now) ps)
young_forgotten now hold a [] all lt = refl
young_forgotten now hold a (p ∷ ps) all lt =
    let e : None ≡ forgotten hold (seen now p) = sym (not_forgotten now hold p (omega (arith, all.0, lt))) in
    let f : [] ≡ filter_map (forgotten hold) (map (seen now) ps) = young_forgotten now hold a ps all.1 lt in
    (λ i. cons_option (e i) (f i))

young : (now hold : ℕ) (p : Pair) → is_some (after_tick hold (seen now p)) ≡ true → age now p + 1 < hold
young now hold p h = by (nat_lt (age now p + 1) hold) refl h
  where
    by : (b : Bool) → nat_lt (age now p + 1) hold ≡ b → is_some (cond b (Some (record (seen now p) { age = age now p + 1 })) None) ≡ true → age now p + 1 < hold
    by true e g = grind (arith, nat_tests)
    by false e g = absurd cc

-- after one that stays, nothing is forgotten
pub rest_stays : (now hold : ℕ) (ps : List Pair) (i : ℕ) (p : Pair) → AreAging now hold ps → i < length ps → p ≡ get_or ps i p
    → is_some (after_tick hold (seen now p)) ≡ true
    → filter_map (forgotten hold) (map (seen now) (take i ps)) ≡ filter_map (forgotten hold) (map (seen now) ps)
rest_stays now hold [] i p a lt is stay = absurd (omega arith)
rest_stays now hold (q ∷ qs) zero p a lt is stay =
    let front : age now q + 1 < hold = subst (λ (x : Pair). age now x + 1 < hold) is (young now hold p stay) in
    young_forgotten now hold (age now q) (q ∷ qs) (omega arith, a.1) front
rest_stays now hold (q ∷ qs) (suc i) p a lt is stay = ap (cons_option (forgotten hold (seen now q))) (rest_stays now hold qs i p a.2 (omega arith) is stay)

seen_at : (now : ℕ) (ps : List Pair) (i : ℕ) (p : Pair) → i < length ps → get_or (map (seen now) ps) i (seen now p) ≡ seen now (get_or ps i p)
seen_at now [] i p lt = absurd (omega arith)
seen_at now (q ∷ qs) zero p lt = refl
seen_at now (q ∷ qs) (suc i) p lt = seen_at now qs i p (omega arith)

-- where nothing is due, each stays
pub quiet_stays : (now hold : ℕ) (ps : List Pair) (i : ℕ) (p : Pair) → i < length ps → p ≡ get_or ps i p → is_some (after_tick hold (seen now p)) ≡ false
    → All (λ h. h.age + 1 < hold) (map (seen now) ps) → ⊥
quiet_stays now hold ps i p lt is gone all = by (nat_lt (age now p + 1) hold) refl gone
  where
    same : seen now p ≡ get_or (map (seen now) ps) i (seen now p)
    same = ap (seen now) is ∙ sym (seen_at now ps i p lt)

    few : age now p + 1 < hold
    few = subst (λ (h : HeldPair). h.age + 1 < hold) (sym same) (all i (seen now p) (omega (arith, length-map ps (seen now), lt)))

    by : (b : Bool) → nat_lt (age now p + 1) hold ≡ b → is_some (cond b (Some (record (seen now p) { age = age now p + 1 })) None) ≡ false → ⊥
    by true e g = absurd cc
    by false e g = absurd (grind (arith, nat_tests, few))

-- ---- one more

-- a pair that was just kept is younger than all before it
pub aging_push : (now hold : ℕ) (ps : List Pair) (p : Pair) → AreAging now hold ps → now < 2 ^ 64 → p.kept ≡ now → 0 < hold → AreAging now hold (ps ++ p ∷ [])
aging_push now hold ps p a small just some = by ps a (omega (arith, just))
  where
    youngest : (n : ℕ) (qs : List Pair) → AllByRecursion (λ (q : Pair). age now q ≤ n) qs → age now p ≡ 0 → AllByRecursion (λ (q : Pair). age now q ≤ n) (qs ++ p ∷ [])
    youngest n [] all new = (omega (arith, new), tt)
    youngest n (q ∷ qs) all new = (all.0, youngest n qs all.1 new)

    by : (qs : List Pair) → AreAging now hold qs → age now p ≡ 0 → AreAging now hold (qs ++ p ∷ [])
    by [] a new = (omega (arith, new, some), tt, tt)
    by (q ∷ qs) a new = (a.0, youngest (age now q) qs a.1 new, by qs a.2 new)
