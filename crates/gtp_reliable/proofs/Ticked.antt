-- What a tick makes of the rows, and of the requests that contracts see.
use Rattle.std.proofs.Common.{◌≡◌, ℕ, zero, suc, ◌+◌, ◌-◌, ◌*◌, ◌%◌, ◌^◌, ◌<◌, ◌≤◌, Bool, true, false, cond, List, [], ◌∷◌, ◌++◌, length, map, take}
use Rattle.std.proofs.Common.{drop, get_or, Option, Some, None, refl, sym, ap, subst, ◌∙◌, arith, ◌⊎◌, inl, inr}
use Rattle.std.specs.Prelude.{not, nat_lt, filter, option_to_list, option_map, slice_get}
use Rattle.std.specs.List.{AllByRecursion, filter_map, cons_option}
use Rattle.std.proofs.lemmas.List.{append-nil, append_assoc, map-append, drop_more, take_more, drop_all, take_all}
use Rattle.std.proofs.lemmas.Bool.{cases_lt}
use Rattle.std.proofs.lemmas.Bool.Decides.{nat_tests}
use Rattle.gtp_reliable.specs.declared.waiting.NextTick.{NextTick}
use Rattle.gtp_reliable.specs.declared.waiting.NextTick.TheVariants.{WaitsOn, SentAgain, GivenUp}
use Rattle.gtp_reliable.specs.Waiting.{Waiting, next_tick, after_tick_by, after_tick}
use Rattle.gtp_reliable.specs.Rows.{Sent, since, seen, without, moved, again, front_is_due, ticked_front, ticked, AreApart}
use Rattle.gtp_reliable.specs.Ages.{age, by_age, IsBefore, AreInTurn}
use Rattle.gtp_values.proofs.Tests.{itself}
use Rattle.gtp_reliable.proofs.Lists.{cons_append}
use Rattle.gtp_reliable.proofs.Slots.{without_none}
use Rattle.gtp_reliable.proofs.Ages.{age_change, age_swap}

-- ---- ticks

abbrev next : ℕ → ℕ
next now = (now + 1) % 2 ^ 32

-- whether a request waits on in the tick after now
abbrev waits_on : {P : Type 0} → ℕ → ℕ → Sent P → Bool
waits_on t3 now r = nat_lt (since r.sent now + 1) t3

one_later : (sent now : ℕ) → since sent now + 1 < 1000 → since sent (next now) ≡ since sent now + 1
one_later sent now few = omega arith

just_now : (now : ℕ) → since (next now) (next now) ≡ 0
just_now now = omega arith

-- ---- the rows after a tick

-- what waits on, and what is sent again
abbrev pub calm : {P : Type 0} → ℕ → ℕ → List (Sent P) → List (Sent P)
calm t3 now rs = filter (waits_on t3 now) rs

abbrev renew : {P : Type 0} → ℕ → ℕ → ℕ → Sent P → Option (Sent P)
renew t3 n3 now r = cond (waits_on t3 now r) None (again (next now) n3 r)

abbrev pub renewed : {P : Type 0} → ℕ → ℕ → ℕ → List (Sent P) → List (Sent P)
renewed t3 n3 now rs = filter_map (renew t3 n3 now) rs

same_test : (a b c d : ℕ) → (c < d → a < b) → (d ≤ c → b ≤ a) → nat_lt a b ≡ nat_lt c d
same_test a b c d h k = elim (cases_lt c d) [ inl lt ↦ (let less = h lt in grind (arith, nat_tests)) | inr le ↦ (let more = k le in grind (arith, nat_tests)) ]

map_cons : {X Y : Type 0} (f : X → Y) (o : Option X) (xs : List X) → map f (cons_option o xs) ≡ cons_option (option_map f o) (map f xs)
map_cons f None xs = refl
map_cons f (Some x) xs = refl

module _ {P : Type 0} (t3 n3 now : ℕ) where
  abbrev WaitsNoLonger : ℕ → Sent P → Type 0
  WaitsNoLonger n r = since r.sent now ≤ n

  behind : (w : Waiting P) (rs : List (Sent P)) → AllByRecursion (IsBefore w) (map (seen now) rs) → AllByRecursion (WaitsNoLonger w.waited) rs
  behind w [] all = tt
  behind w (r ∷ rs) all = (all.0.0, behind w rs all.1)

  -- where none waits longer than one that waits on, all wait on
  all_calm : (n : ℕ) (rs : List (Sent P)) → n + 1 < t3 → AllByRecursion (WaitsNoLonger n) rs → calm t3 now rs ≡ rs
  all_calm n [] lt all = refl
  all_calm n (r ∷ rs) lt all =
      let on : waits_on t3 now r ≡ true = (let le = all.0 in grind (arith, nat_tests)) in
      ap (λ (b : Bool). cond b (r ∷ calm t3 now rs) (calm t3 now rs)) on ∙ ap (λ (l : List (Sent P)). r ∷ l) (all_calm n rs lt all.1)

  none_renewed : (n : ℕ) (rs : List (Sent P)) → n + 1 < t3 → AllByRecursion (WaitsNoLonger n) rs → renewed t3 n3 now rs ≡ []
  none_renewed n [] lt all = refl
  none_renewed n (r ∷ rs) lt all =
      let on : waits_on t3 now r ≡ true = (let le = all.0 in grind (arith, nat_tests)) in
      ap (λ (b : Bool). cons_option (cond b None (again (next now) n3 r)) (renewed t3 n3 now rs)) on ∙ none_renewed n rs lt all.1

  -- it waits on if its test says so
  on_is : (r : Sent P) → waits_on t3 now r ≡ true → since r.sent now + 1 < t3
  on_is r h = grind (arith, nat_tests)

  due_is : (r : Sent P) → waits_on t3 now r ≡ false → t3 ≤ since r.sent now + 1
  due_is r h = grind (arith, nat_tests)

  one_renewed : (done : List (Sent P)) (o : Option (Sent P)) (xs : List (Sent P)) → (done ++ option_to_list o) ++ xs ≡ done ++ cons_option o xs
  one_renewed done None xs = ap (λ (l : List (Sent P)). l ++ xs) (append-nil done)
  one_renewed done (Some r) xs = append_assoc done (r ∷ []) xs

  ticked_with : (rs done : List (Sent P)) → AreInTurn t3 (map (seen now) rs) → ticked t3 n3 now (length rs) (rs ++ done) ≡ calm t3 now rs ++ (done ++ renewed t3 n3 now rs)
  unfolding ticked
  ticked_with [] done turn = sym (append-nil done)
  ticked_with (r ∷ rs) done turn = by (waits_on t3 now r) refl (ticked_with rs (done ++ option_to_list (again (next now) n3 r)) turn.2)
    where
      by : (b : Bool) → waits_on t3 now r ≡ b
          → ticked t3 n3 now (length rs) (rs ++ (done ++ option_to_list (again (next now) n3 r))) ≡ calm t3 now rs ++ ((done ++ option_to_list (again (next now) n3 r)) ++ renewed t3 n3 now rs)
          → cond (not b) (ticked t3 n3 now (length rs) ((rs ++ done) ++ option_to_list (again (next now) n3 r))) (r ∷ (rs ++ done))
          ≡ cond b (r ∷ calm t3 now rs) (calm t3 now rs) ++ (done ++ cons_option (cond b None (again (next now) n3 r)) (renewed t3 n3 now rs))
      by true e h =
          let few = behind (seen now r) rs turn.1 in
          let lt = on_is r e in
          ap (λ (l : List (Sent P)). r ∷ l)
          (ap (λ (l : List (Sent P)). l ++ done) (sym (all_calm (since r.sent now) rs lt few))
          ∙ ap (λ (l : List (Sent P)). calm t3 now rs ++ l) (sym (append-nil done) ∙ ap (λ (l : List (Sent P)). done ++ l) (sym (none_renewed (since r.sent now) rs lt few))))
      by false e h =
          ap (ticked t3 n3 now (length rs)) (append_assoc rs done (option_to_list (again (next now) n3 r)))
          ∙ (h
          ∙ ap (λ (l : List (Sent P)). calm t3 now rs ++ l) (one_renewed done (again (next now) n3 r) (renewed t3 n3 now rs)))

  pub ticked_is : (rs : List (Sent P)) → AreInTurn t3 (map (seen now) rs) → ticked t3 n3 now (length rs) rs ≡ calm t3 now rs ++ renewed t3 n3 now rs
  ticked_is rs turn = ap (ticked t3 n3 now (length rs)) (sym (append-nil rs)) ∙ ticked_with rs [] turn

  -- ---- as contracts see them

  abbrev later : List (Sent P) → List (Waiting P)
  later rs = map (seen (next now)) rs

  tick_on : (r : Sent P) → waits_on t3 now r ≡ true → t3 ≤ 1000 → after_tick t3 n3 (seen now r) ≡ Some (seen (next now) r)
  tick_on r e few =
      let lt = on_is r e in
      let on : nat_lt (since r.sent now + 1) t3 ≡ true = e in
      rw on (ap (λ (n : ℕ). Some (record (seen now r) { waited = n })) (sym (one_later r.sent now (omega (arith, lt, few)))))

  tick_due : (r : Sent P) → waits_on t3 now r ≡ false → after_tick t3 n3 (seen now r) ≡ option_map (seen (next now)) (again (next now) n3 r)
  tick_due r e = by (nat_lt r.resent n3) refl
    where
      by : (b : Bool) → nat_lt r.resent n3 ≡ b → after_tick t3 n3 (seen now r) ≡ option_map (seen (next now)) (cond b (Some (record r { sent = next now; resent = r.resent + 1 })) None)
      by true f = rw (e, f) (ap (λ (n : ℕ). Some (record (seen now r) { waited = n; resent = r.resent + 1 })) (sym (just_now now)))
      by false f = rw (e, f) refl

  -- what is sent again stands before what waits on
  parts : (rs : List (Sent P)) → t3 ≤ 1000 → AreInTurn t3 (map (seen now) rs) → later (renewed t3 n3 now rs) ++ later (calm t3 now rs) ≡ filter_map (after_tick t3 n3) (map (seen now) rs)
  parts [] few turn = refl
  parts (r ∷ rs) few turn = by (waits_on t3 now r) refl (parts rs few turn.2)
    where
      by : (b : Bool) → waits_on t3 now r ≡ b → later (renewed t3 n3 now rs) ++ later (calm t3 now rs) ≡ filter_map (after_tick t3 n3) (map (seen now) rs)
          → later (cons_option (cond b None (again (next now) n3 r)) (renewed t3 n3 now rs)) ++ later (cond b (r ∷ calm t3 now rs) (calm t3 now rs))
          ≡ cons_option (after_tick t3 n3 (seen now r)) (filter_map (after_tick t3 n3) (map (seen now) rs))
      by true e h =
          let none : renewed t3 n3 now rs ≡ [] = none_renewed (since r.sent now) rs (on_is r e) (behind (seen now r) rs turn.1) in
          ap (λ (l : List (Sent P)). later l ++ (seen (next now) r ∷ later (calm t3 now rs))) none
          ∙ (ap (λ (l : List (Waiting P)). seen (next now) r ∷ l) (ap (λ (l : List (Sent P)). later l ++ later (calm t3 now rs)) (sym none) ∙ h)
          ∙ ap (λ (o : Option (Waiting P)). cons_option o (filter_map (after_tick t3 n3) (map (seen now) rs))) (sym (tick_on r e few)))
      by false e h =
          ap (λ (l : List (Waiting P)). l ++ later (calm t3 now rs)) (map_cons (seen (next now)) (again (next now) n3 r) (renewed t3 n3 now rs))
          ∙ (cons_append (option_map (seen (next now)) (again (next now) n3 r)) (later (renewed t3 n3 now rs)) (later (calm t3 now rs))
          ∙ (ap (cons_option (option_map (seen (next now)) (again (next now) n3 r))) h
          ∙ ap (λ (o : Option (Waiting P)). cons_option o (filter_map (after_tick t3 n3) (map (seen now) rs))) (sym (tick_due r e))))

  -- ---- the parts are not of one age, and a tick keeps which of two is older

  abbrev IsNew : Waiting P → Type 0
  IsNew w = w.waited ≡ 0

  abbrev IsOld : Waiting P → Type 0
  IsOld w = (0 < w.waited) × (w.waited < 1000)

  all_new : (rs : List (Sent P)) → AllByRecursion IsNew (later (renewed t3 n3 now rs))
  all_new [] = tt
  all_new (r ∷ rs) = by (waits_on t3 now r) (nat_lt r.resent n3) (all_new rs)
    where
      by : (a b : Bool) → AllByRecursion IsNew (later (renewed t3 n3 now rs)) → AllByRecursion IsNew
          (later (cons_option (cond a None (cond b (Some (record r { sent = next now; resent = r.resent + 1 })) None)) (renewed t3 n3 now rs)))
      by true b h = h
      by false true h = (just_now now, h)
      by false false h = h

  all_old : (rs : List (Sent P)) → t3 ≤ 1000 → AllByRecursion IsOld (later (calm t3 now rs))
  all_old [] few = tt
  all_old (r ∷ rs) few = by (waits_on t3 now r) refl (all_old rs few)
    where
      by : (b : Bool) → waits_on t3 now r ≡ b → AllByRecursion IsOld (later (calm t3 now rs)) → AllByRecursion IsOld (later (cond b (r ∷ calm t3 now rs) (calm t3 now rs)))
      by true e h =
          let lt = on_is r e in
          let is = one_later r.sent now (omega (arith, lt, few)) in
          ((omega (arith, is), omega (arith, is, lt, few)), h)
      by false e h = h

  old_unlike : (w : Waiting P) (vs : List (Waiting P)) → IsOld w → AllByRecursion IsNew vs → AllByRecursion (λ v. age w ≡ age v → ⊥) vs
  old_unlike w [] old new = tt
  old_unlike w (v ∷ vs) old new = ((λ same. absurd (let zero_here = new.0 in omega (arith, old.0, old.1, zero_here, same))), old_unlike w vs old new.1)

  unlike : (ws vs : List (Waiting P)) → AllByRecursion IsOld ws → AllByRecursion IsNew vs → AllByRecursion (λ w. AllByRecursion (λ v. age w ≡ age v → ⊥) vs) ws
  unlike [] vs old new = tt
  unlike (w ∷ ws) vs old new = (old_unlike w vs old.0 new, unlike ws vs old.1 new)

  -- ---- still in turn

  turn_calm_one : (r : Sent P) (rs : List (Sent P)) → since r.sent now + 1 < t3 → t3 ≤ 1000 → AllByRecursion (IsBefore (seen now r)) (map (seen now) rs)
      → AllByRecursion (IsBefore (seen (next now) r)) (later (calm t3 now rs))
  turn_calm_one r [] lt few all = tt
  turn_calm_one r (q ∷ rs) lt few all = by (waits_on t3 now q) refl (turn_calm_one r rs lt few all.1)
    where
      by : (b : Bool) → waits_on t3 now q ≡ b → AllByRecursion (IsBefore (seen (next now) r)) (later (calm t3 now rs))
          → AllByRecursion (IsBefore (seen (next now) r)) (later (cond b (q ∷ calm t3 now rs) (calm t3 now rs)))
      by true e h =
          let less = on_is q e in
          let one = one_later r.sent now (omega (arith, lt, few)) in
          let other = one_later q.sent now (omega (arith, less, few)) in
          let before = all.0 in
          ((omega (arith, one, other, before.0), λ same. before.1 (omega (arith, one, other, same))), h)
      by false e h = h

  turn_calm : (rs : List (Sent P)) → t3 ≤ 1000 → AreInTurn t3 (map (seen now) rs) → AreInTurn t3 (later (calm t3 now rs))
  turn_calm [] few turn = tt
  turn_calm (r ∷ rs) few turn = by (waits_on t3 now r) refl (turn_calm rs few turn.2)
    where
      by : (b : Bool) → waits_on t3 now r ≡ b → AreInTurn t3 (later (calm t3 now rs)) → AreInTurn t3 (later (cond b (r ∷ calm t3 now rs) (calm t3 now rs)))
      by true e h =
          let lt = on_is r e in
          let one = one_later r.sent now (omega (arith, lt, few)) in
          (omega (arith, one, lt), turn_calm_one r rs lt few turn.1, h)
      by false e h = h

  turn_renewed_one : (r : Sent P) (rs : List (Sent P)) → t3 ≤ since r.sent now + 1 → since r.sent now < t3
      → AllByRecursion (IsBefore (seen now r)) (map (seen now) rs)
      → AllByRecursion (IsBefore (record (seen now r) { waited = 0; resent = r.resent + 1 })) (later (renewed t3 n3 now rs))
  turn_renewed_one r [] last lt all = tt
  turn_renewed_one r (q ∷ rs) last lt all = by (waits_on t3 now q) (nat_lt q.resent n3) refl (turn_renewed_one r rs last lt all.1)
    where
      by : (a b : Bool) → waits_on t3 now q ≡ a → AllByRecursion (IsBefore (record (seen now r) { waited = 0; resent = r.resent + 1 })) (later (renewed t3 n3 now rs))
          → AllByRecursion (IsBefore (record (seen now r) { waited = 0; resent = r.resent + 1 }))
          (later (cons_option (cond a None (cond b (Some (record q { sent = next now; resent = q.resent + 1 })) None)) (renewed t3 n3 now rs)))
      by true b e h = h
      by false true e h =
          let due = due_is q e in
          let before = all.0 in
          let fewer = before.1 (omega (arith, before.0, due, last, lt)) in
          let none = just_now now in
          ((omega (arith, none), λ same. omega (arith, fewer)), h)
      by false false e h = h

  turn_renewed : (rs : List (Sent P)) → 1 ≤ t3 → AreInTurn t3 (map (seen now) rs) → AreInTurn t3 (later (renewed t3 n3 now rs))
  turn_renewed [] some turn = tt
  turn_renewed (r ∷ rs) some turn = by (waits_on t3 now r) (nat_lt r.resent n3) refl (turn_renewed rs some turn.2)
    where
      by : (a b : Bool) → waits_on t3 now r ≡ a → AreInTurn t3 (later (renewed t3 n3 now rs)) → AreInTurn t3
          (later (cons_option (cond a None (cond b (Some (record r { sent = next now; resent = r.resent + 1 })) None)) (renewed t3 n3 now rs)))
      by true b e h = h
      by false true e h =
          let none = just_now now in (
            omega (arith, none, some),
            subst (λ (n : ℕ). AllByRecursion (IsBefore (record (seen now r) { waited = n; resent = r.resent + 1 })) (later (renewed t3 n3 now rs)))
                (sym none) (turn_renewed_one r rs (due_is r e) turn.0 turn.1),
            h,
          )
      by false false e h = h

  old_before : (w : Waiting P) (vs : List (Waiting P)) → IsOld w → AllByRecursion IsNew vs → AllByRecursion (IsBefore w) vs
  old_before w [] old new = tt
  old_before w (v ∷ vs) old new = ((omega (arith, new.0), λ same. absurd (let zero_here = new.0 in omega (arith, old.0, zero_here, same))), old_before w vs old new.1)

  turn_append : (ws vs : List (Waiting P)) → AllByRecursion IsOld ws → AllByRecursion IsNew vs → AreInTurn t3 ws → AreInTurn t3 vs → AreInTurn t3 (ws ++ vs)
  turn_append [] vs old new turn other = other
  turn_append (w ∷ ws) vs old new turn other = (turn.0, all_append ws turn.1, turn_append ws vs old.1 new turn.2 other)
    where
      all_append : (us : List (Waiting P)) → AllByRecursion (IsBefore w) us → AllByRecursion (IsBefore w) (us ++ vs)
      all_append [] all = old_before w vs old.0 new
      all_append (u ∷ us) all = (all.0, all_append us all.1)

  -- ---- both together

  split : (rs : List (Sent P)) → AreInTurn t3 (map (seen now) rs) → later (ticked t3 n3 now (length rs) rs) ≡ later (calm t3 now rs) ++ later (renewed t3 n3 now rs)
  split rs turn = ap later (ticked_is rs turn) ∙ map-append (seen (next now)) (calm t3 now rs) (renewed t3 n3 now rs)

  pub tick_turn : (rs : List (Sent P)) → 1 ≤ t3 → t3 ≤ 1000 → AreInTurn t3 (map (seen now) rs) → AreInTurn t3 (later (ticked t3 n3 now (length rs) rs))
  tick_turn rs some few turn =
      subst (AreInTurn t3) (sym (split rs turn))
      (turn_append (later (calm t3 now rs)) (later (renewed t3 n3 now rs)) (all_old rs few) (all_new rs) (turn_calm rs few turn) (turn_renewed rs some turn))

  -- a tick keeps which of two requests is older
  -- a request that stays waits one tick longer, or was sent again once more
  abbrev IsAged : Waiting P → Waiting P → Type 0
  IsAged w v = ((w.waited + 1 < t3) × (age v ≡ age w + 1)) ⊎ ((t3 ≤ w.waited + 1) × (age v ≡ w.resent * 1000 + 1000))

  aged_by : (w v : Waiting P) (a b : Bool) → nat_lt (w.waited + 1) t3 ≡ a → after_tick_by (cond a WaitsOn (cond b SentAgain GivenUp)) w ≡ Some v → IsAged w v
  aged_by w v true b e h =
      let is : record w { waited = w.waited + 1 } ≡ v = cc in
      let lt : w.waited + 1 < t3 = grind (arith, nat_tests) in
      inl (lt, ap age (sym is) ∙ omega arith)
  aged_by w v false true e h =
      let is : record w { waited = 0; resent = w.resent + 1 } ≡ v = cc in
      let le : t3 ≤ w.waited + 1 = grind (arith, nat_tests) in
      inr (le, ap age (sym is) ∙ omega arith)
  aged_by w v false false e h = absurd cc

  aged : (w v : Waiting P) → after_tick t3 n3 w ≡ Some v → IsAged w v
  aged w v h = aged_by w v (nat_lt (w.waited + 1) t3) (nat_lt w.resent n3) refl h

  tick_keeps : t3 ≤ 1000 → (x y x' y' : Waiting P) → x.waited < t3 → y.waited < t3 → after_tick t3 n3 x ≡ Some x' → after_tick t3 n3 y ≡ Some y' → nat_lt (age x') (age y') ≡ nat_lt (age x) (age y)
  tick_keeps few x y x' y' early other e f = by (aged x x' e) (aged y y' f)
    where
      by : IsAged x x' → IsAged y y' → nat_lt (age x') (age y') ≡ nat_lt (age x) (age y)
      by (inl h) (inl k) = same_test (age x') (age y') (age x) (age y) (λ lt. omega (arith, h.1, k.1, lt)) (λ le. omega (arith, h.1, k.1, le))
      by (inl h) (inr k) = same_test (age x') (age y') (age x) (age y) (λ lt. omega (arith, h.0, h.1, k.0, k.1, lt, few, early, other)) (λ le. omega (arith, h.0, h.1, k.0, k.1, le, few, early, other))
      by (inr h) (inl k) = same_test (age x') (age y') (age x) (age y) (λ lt. omega (arith, h.0, h.1, k.0, k.1, lt, few, early, other)) (λ le. omega (arith, h.0, h.1, k.0, k.1, le, few, early, other))
      by (inr h) (inr k) = same_test (age x') (age y') (age x) (age y) (λ lt. omega (arith, h.0, h.1, k.0, k.1, lt, few, early, other)) (λ le. omega (arith, h.0, h.1, k.0, k.1, le, few, early, other))

  early : (ws : List (Waiting P)) → AreInTurn t3 ws → AllByRecursion (λ w. w.waited < t3) ws
  early [] turn = tt
  early (w ∷ ws) turn = (turn.0, early ws turn.2)

  pub tick_is : (rs : List (Sent P)) → t3 ≤ 1000 → AreInTurn t3 (map (seen now) rs) → by_age (later (ticked t3 n3 now (length rs) rs)) ≡ filter_map (after_tick t3 n3) (by_age (map (seen now) rs))
  tick_is rs few turn =
      ap by_age (split rs turn)
      ∙ (age_swap (later (calm t3 now rs)) (later (renewed t3 n3 now rs)) (unlike (later (calm t3 now rs)) (later (renewed t3 n3 now rs)) (all_old rs few) (all_new rs))
      ∙ (ap by_age (parts rs few turn)
      ∙ age_change (after_tick t3 n3) (λ (w : Waiting P). w.waited < t3) (tick_keeps few) (map (seen now) rs) (early (map (seen now) rs) turn)))

-- ---- one step of a tick

-- the front request
front_is : {P : Type 0} (r : Sent P) (rs : List (Sent P)) → Some r ≡ slice_get rs 0 → rs ≡ r ∷ drop 1 rs
front_is r [] h = absurd cc
front_is r (q ∷ rs) h = let same : q ≡ r = cc in ap (λ (x : Sent _). x ∷ rs) same

pub no_front : {P : Type 0} (rs : List (Sent P)) → None ≡ slice_get rs 0 → rs ≡ []
no_front [] h = refl
no_front (r ∷ rs) h = absurd cc

module _ {P : Type 0} (t3 n3 now : ℕ) where
  step_is : (rs : List (Sent P)) (b : Bool) → front_is_due t3 now rs ≡ b → ticked t3 n3 now 1 rs ≡ cond b (ticked_front n3 now rs) rs
  unfolding ticked
  step_is rs b e = ap (λ (c : Bool). cond c (ticked_front n3 now rs) rs) e

  pub step_none : (rs : List (Sent P)) → None ≡ slice_get rs 0 → rs ≡ ticked t3 n3 now 1 rs
  step_none rs h = let none = no_front rs h in sym (step_is rs false (ap (front_is_due t3 now) none))

  due_by : (r : Sent P) (n : NextTick) → next_tick t3 n3 (seen now r) ≡ n → (b a : Bool) → waits_on t3 now r ≡ b → nat_lt r.resent n3 ≡ a → cond b WaitsOn (cond a SentAgain GivenUp) ≡ n
  due_by r n h b a e f = ap (λ (c : Bool). cond c WaitsOn (cond a SentAgain GivenUp)) (sym e) ∙ (ap (λ (c : Bool). cond (waits_on t3 now r) WaitsOn (cond c SentAgain GivenUp)) (sym f) ∙ h)

  front_due : (r : Sent P) (rs : List (Sent P)) → Some r ≡ slice_get rs 0 → front_is_due t3 now rs ≡ not (waits_on t3 now r)
  front_due r rs h = ap (front_is_due t3 now) (front_is r rs h)

  calm_is : (r : Sent P) → next_tick t3 n3 (seen now r) ≡ WaitsOn → (b a : Bool) → waits_on t3 now r ≡ b → nat_lt r.resent n3 ≡ a → waits_on t3 now r ≡ true
  calm_is r h true a e f = e
  calm_is r h false true e f = let no = due_by r WaitsOn h false true e f in absurd cc
  calm_is r h false false e f = let no = due_by r WaitsOn h false false e f in absurd cc

  pub step_waits : (r : Sent P) (rs : List (Sent P)) → Some r ≡ slice_get rs 0 → next_tick t3 n3 (seen now r) ≡ WaitsOn → rs ≡ ticked t3 n3 now 1 rs
  step_waits r rs h is = sym (step_is rs false (front_due r rs h ∙ ap not (calm_is r is (waits_on t3 now r) (nat_lt r.resent n3) refl refl)))

  record IsDueBy (r : Sent P) (a : Bool) : Type 0 where
    waits : waits_on t3 now r ≡ false
    again : nat_lt r.resent n3 ≡ a

  again_is : (r : Sent P) → next_tick t3 n3 (seen now r) ≡ SentAgain → (b a : Bool) → waits_on t3 now r ≡ b → nat_lt r.resent n3 ≡ a → IsDueBy r true
  again_is r h true a e f = let no = due_by r SentAgain h true a e f in absurd cc
  again_is r h false true e f = record { waits = e; again = f }
  again_is r h false false e f = let no = due_by r SentAgain h false false e f in absurd cc

  over_is : (r : Sent P) → next_tick t3 n3 (seen now r) ≡ GivenUp → (b a : Bool) → waits_on t3 now r ≡ b → nat_lt r.resent n3 ≡ a → IsDueBy r false
  over_is r h true a e f = let no = due_by r GivenUp h true a e f in absurd cc
  over_is r h false true e f = let no = due_by r GivenUp h false true e f in absurd cc
  over_is r h false false e f = record { waits = e; again = f }

  pub step_again : (r : Sent P) (rs : List (Sent P)) → Some r ≡ slice_get rs 0 → next_tick t3 n3 (seen now r) ≡ SentAgain → moved ((now + 1) % 2 ^ 32) (r.resent + 1) rs ≡ ticked t3 n3 now 1 rs
  step_again r rs h is =
      let front = front_is r rs h in
      let due = again_is r is (waits_on t3 now r) (nat_lt r.resent n3) refl refl in
      ap (moved ((now + 1) % 2 ^ 32) (r.resent + 1)) front
      ∙ (ap (λ (b : Bool). drop 1 rs ++ option_to_list (cond b (Some (record r { sent = (now + 1) % 2 ^ 32; resent = r.resent + 1 })) None)) (sym due.again)
      ∙ (ap (ticked_front n3 now) (sym front) ∙ sym (step_is rs true (front_due r rs h ∙ ap not due.waits))))

  pub step_over : (r : Sent P) (rs : List (Sent P)) → Some r ≡ slice_get rs 0 → AreApart rs → next_tick t3 n3 (seen now r) ≡ GivenUp → without r.seq rs ≡ ticked t3 n3 now 1 rs
  step_over r rs h apart is =
      let front = front_is r rs h in
      let due = over_is r is (waits_on t3 now r) (nat_lt r.resent n3) refl refl in
      let rest : AreApart (r ∷ drop 1 rs) = subst AreApart front apart in
      ap (without r.seq) front
      ∙ (ap (λ (b : Bool). cond (not b) (r ∷ without r.seq (drop 1 rs)) (without r.seq (drop 1 rs))) (itself r.seq)
      ∙ (without_none r.seq (drop 1 rs) rest.0
      ∙ (sym (append-nil (drop 1 rs))
      ∙ (ap (λ (b : Bool). drop 1 rs ++ option_to_list (cond b (Some (record r { sent = (now + 1) % 2 ^ 32; resent = r.resent + 1 })) None)) (sym due.again)
      ∙ (ap (ticked_front n3 now) (sym front) ∙ sym (step_is rs true (front_due r rs h ∙ ap not due.waits)))))))

  -- ---- steps in a loop

  ticked_on : (m : ℕ) (rs : List (Sent P)) → front_is_due t3 now rs ≡ true → ticked t3 n3 now (suc m) rs ≡ ticked t3 n3 now m (ticked t3 n3 now 1 rs)
  unfolding ticked
  ticked_on m rs e = ap (λ (b : Bool). cond b (ticked t3 n3 now m (ticked_front n3 now rs)) rs) e ∙ ap (ticked t3 n3 now m) (sym (ap (λ (b : Bool). cond b (ticked_front n3 now rs) rs) e))

  ticked_off : (m : ℕ) (rs : List (Sent P)) → front_is_due t3 now rs ≡ false → ticked t3 n3 now m rs ≡ rs
  unfolding ticked
  ticked_off zero rs e = refl
  ticked_off (suc m) rs e = ap (λ (b : Bool). cond b (ticked t3 n3 now m (ticked_front n3 now rs)) rs) e

  -- one turn: what is left of so many
  pub ticked_more : (n i : ℕ) (rs new all : List (Sent P)) → i < n → ticked t3 n3 now (n - i) rs ≡ all → front_is_due t3 now rs ≡ true → new ≡ ticked t3 n3 now 1 rs
      → ticked t3 n3 now (n - (i + 1)) new ≡ all
  ticked_more n i rs new all lt before due is =
      let e : n - i ≡ suc (n - (i + 1)) = omega (arith, lt) in
      ap (ticked t3 n3 now (n - (i + 1))) is ∙ (sym (ticked_on (n - (i + 1)) rs due) ∙ (ap (λ (m : ℕ). ticked t3 n3 now m rs) (sym e) ∙ before))

  pub ticked_ends : (n i : ℕ) (rs new all : List (Sent P)) → ticked t3 n3 now (n - i) rs ≡ all → front_is_due t3 now rs ≡ false → new ≡ ticked t3 n3 now 1 rs → new ≡ all
  ticked_ends n i rs new all before due is = is ∙ (ticked_off 1 rs due ∙ (sym (ticked_off (n - i) rs due) ∙ before))

  pub ticked_whole : (n i : ℕ) (rs all : List (Sent P)) → n ≤ i → ticked t3 n3 now (n - i) rs ≡ all → rs ≡ all
  unfolding ticked
  ticked_whole n i rs all le before = let e : n - i ≡ 0 = omega (arith, le) in ap (λ (m : ℕ). ticked t3 n3 now m rs) (sym e) ∙ before

-- ---- each request behind all others once

pub turned_on : {P : Type 0} (rs : List (Sent P)) (i : ℕ) (r : Sent P) → i < length rs → Some r ≡ slice_get (drop i rs ++ take i rs) 0
    → moved r.sent r.resent (drop i rs ++ take i rs) ≡ drop (i + 1) rs ++ take (i + 1) rs
turned_on {P} rs i r lt h =
    let x = get_or rs i r in
    let here : drop i rs ++ take i rs ≡ x ∷ (drop (i + 1) rs ++ take i rs) = ap (λ (l : List (Sent P)). l ++ take i rs) (drop_more rs i r lt) in
    let same : Some r ≡ Some x = h ∙ ap (λ (l : List (Sent P)). slice_get l 0) here in
    let is : r ≡ x = cc in
    ap (moved r.sent r.resent) here
    ∙ (ap (λ (q : Sent P). (drop (i + 1) rs ++ take i rs) ++ record x { sent = q.sent; resent = q.resent } ∷ []) is
    ∙ (append_assoc (drop (i + 1) rs) (take i rs) (x ∷ [])
    ∙ ap (λ (l : List (Sent P)). drop (i + 1) rs ++ l) (sym (take_more rs i r lt))))

pub turned_whole : {P : Type 0} (rs : List (Sent P)) (i : ℕ) → length rs ≤ i → drop i rs ++ take i rs ≡ rs
turned_whole {P} rs i le = ap (λ (l : List (Sent P)). l ++ take i rs) (drop_all i rs le) ∙ take_all i rs le

pub some_front : {P : Type 0} (rs : List (Sent P)) (i : ℕ) → i < length rs → None ≡ slice_get (drop i rs ++ take i rs) 0 → ⊥
some_front [] i lt h = omega arith
some_front (r ∷ rs) zero lt h = absurd cc
some_front {P} (r ∷ rs) (suc i) lt h =
    let d = drop_more (r ∷ rs) (suc i) r lt in
    let n : None ≡ slice_get (get_or (r ∷ rs) (suc i) r ∷ (drop (suc i + 1) (r ∷ rs) ++ take (suc i) (r ∷ rs))) 0 = h ∙ ap (λ (l : List (Sent P)). slice_get (l ++ take (suc i) (r ∷ rs)) 0) d in
    absurd cc
