-- Requests after a change: they stay distinct, and a tick keeps and moves them.
use Rattle.std.proofs.Common.{◌≡◌, not, ℕ, ◌+◌, ◌<◌, ◌≤◌, Bool, true, false, cond, List, [], ◌∷◌, ◌++◌, length, map, Option, None, Some, refl, sym, ap, subst, ◌∙◌, arith}
use Rattle.std.specs.Prelude.{◌==◌, ◌||◌, filter, is_some, unwrap_or, nat_lt}
use Rattle.std.specs.List.{list_any, filter_map}
use Rattle.std.proofs.lemmas.Bool.{or_parts}
use Rattle.std.proofs.lemmas.Bool.Decides.{nat_tests}
use Rattle.std.proofs.lemmas.List.{length-map}
use Rattle.gtp_reliable.specs.declared.waiting.NextTick.{NextTick}
use Rattle.gtp_reliable.specs.declared.waiting.NextTick.TheVariants.{WaitsOn, SentAgain, GivenUp}
use Rattle.gtp_reliable.specs.Waiting.{Waiting, next_tick, after_tick_by, after_tick, sent_again_by, sent_again, given_up_by, given_up}
use Rattle.gtp_reliable.specs.Pending.{is_pending, purpose_of, others, AreDistinct}
use Rattle.gtp_values.proofs.Tests.{turned, same_number}
use Rattle.gtp_reliable.proofs.Lists.{stay_and_pass, fewer_filter}

-- ---- one more

none_push : {P : Type 0} (n : ℕ) (ws : List (Waiting P)) (w : Waiting P) → is_pending n ws ≡ false → (w.seq == n) ≡ false → is_pending n (ws ++ w ∷ []) ≡ false
unfolding is_pending
none_push n [] w h e = rw e refl
none_push n (v ∷ ws) w h e = let both = or_parts (v.seq == n) (list_any (λ x. x.seq == n) ws) h in rw both.0 (none_push n ws w both.1 e)

pub distinct_push : {P : Type 0} (ws : List (Waiting P)) (w : Waiting P) → AreDistinct ws → is_pending w.seq ws ≡ false → AreDistinct (ws ++ w ∷ [])
unfolding is_pending
distinct_push [] w d h = (refl, tt)
distinct_push (v ∷ ws) w d h =
    let both = or_parts (v.seq == w.seq) (list_any (λ x. x.seq == w.seq) ws) h in
    (none_push v.seq ws w d.0 (turned w.seq v.seq ∙ both.0), distinct_push ws w d.1 both.1)

-- ---- some of them

none_cons : {P : Type 0} (n : ℕ) (v : Waiting P) (ws : List (Waiting P)) (b : Bool) → (v.seq == n) ≡ false → is_pending n ws ≡ false → is_pending n (cond b (v ∷ ws) ws) ≡ false
unfolding is_pending
none_cons n v ws true e h = rw e h
none_cons n v ws false e h = h

none_filter : {P : Type 0} (n : ℕ) (p : Waiting P → Bool) (ws : List (Waiting P)) → is_pending n ws ≡ false → is_pending n (filter p ws) ≡ false
unfolding is_pending
none_filter n p [] h = refl
none_filter n p (v ∷ ws) h = let both = or_parts (v.seq == n) (list_any (λ x. x.seq == n) ws) h in none_cons n v (filter p ws) (p v) both.0 (none_filter n p ws both.1)

distinct_cons : {P : Type 0} (v : Waiting P) (ws : List (Waiting P)) (b : Bool) → is_pending v.seq ws ≡ false → AreDistinct ws → AreDistinct (cond b (v ∷ ws) ws)
distinct_cons v ws true h d = (h, d)
distinct_cons v ws false h d = d

pub distinct_filter : {P : Type 0} (p : Waiting P → Bool) (ws : List (Waiting P)) → AreDistinct ws → AreDistinct (filter p ws)
distinct_filter p [] d = tt
distinct_filter p (v ∷ ws) d = distinct_cons v (filter p ws) (p v) (none_filter v.seq p ws d.0) (distinct_filter p ws d.1)

-- ---- each of them with its number

none_map : {P : Type 0} (n : ℕ) (f : Waiting P → Waiting P) (ws : List (Waiting P)) → ((w : Waiting P) → (f w).seq ≡ w.seq) → is_pending n ws ≡ false → is_pending n (map f ws) ≡ false
unfolding is_pending
none_map n f [] same h = refl
none_map n f (v ∷ ws) same h =
    let both = or_parts (v.seq == n) (list_any (λ x. x.seq == n) ws) h in
    let first : ((f v).seq == n) ≡ false = ap (λ (m : ℕ). m == n) (same v) ∙ both.0 in
    rw first (none_map n f ws same both.1)

distinct_map : {P : Type 0} (f : Waiting P → Waiting P) (ws : List (Waiting P)) → ((w : Waiting P) → (f w).seq ≡ w.seq) → AreDistinct ws → AreDistinct (map f ws)
distinct_map f [] same d = tt
distinct_map f (v ∷ ws) same d = (ap (λ (m : ℕ). is_pending m (map f ws)) (same v) ∙ none_map v.seq f ws same d.0, distinct_map f ws same d.1)

-- ---- a tick

-- what a tick makes of a request that stays
abbrev passed : {P : Type 0} → ℕ → ℕ → Waiting P → Waiting P
passed t3 n3 w = unwrap_or (after_tick t3 n3 w) w

abbrev stays : {P : Type 0} → ℕ → ℕ → Waiting P → Bool
stays t3 n3 w = is_some (after_tick t3 n3 w)

passed_seq : {P : Type 0} (t3 n3 : ℕ) (w : Waiting P) → (passed t3 n3 w).seq ≡ w.seq
passed_seq t3 n3 w = by_tick (next_tick t3 n3 w) where
  by_tick : (n : NextTick) → (unwrap_or (after_tick_by n w) w).seq ≡ w.seq
  by_tick WaitsOn = refl
  by_tick SentAgain = refl
  by_tick GivenUp = refl

-- after a tick there are no more of them, and they stay distinct
pub ticked_count : {P : Type 0} (t3 n3 : ℕ) (ws : List (Waiting P)) → length (filter_map (after_tick t3 n3) ws) ≤ length ws
ticked_count t3 n3 ws =
    omega (arith, ap length (stay_and_pass (after_tick t3 n3) ws), length-map (filter (stays t3 n3) ws) (passed t3 n3), fewer_filter (stays t3 n3) ws)

pub ticked_distinct : {P : Type 0} (t3 n3 : ℕ) (ws : List (Waiting P)) → AreDistinct ws → AreDistinct (filter_map (after_tick t3 n3) ws)
ticked_distinct t3 n3 ws d =
    subst AreDistinct (stay_and_pass (after_tick t3 n3) ws) (distinct_map (passed t3 n3) (filter (stays t3 n3) ws) (passed_seq t3 n3) (distinct_filter (stays t3 n3) ws d))

-- ---- what is due

-- what a request gives, by what the tick does with it
pub resend_by : {P : Type 0} (t3 n3 : ℕ) (w : Waiting P) (n : NextTick) → n ≡ next_tick t3 n3 w → sent_again t3 n3 w ≡ sent_again_by n w
resend_by t3 n3 w n e = ap (λ (m : NextTick). sent_again_by m w) (sym e)

pub given_by : {P : Type 0} (t3 n3 : ℕ) (w : Waiting P) (n : NextTick) → n ≡ next_tick t3 n3 w → given_up t3 n3 w ≡ given_up_by n w
given_by t3 n3 w n e = ap (λ (m : NextTick). given_up_by m w) (sym e)

-- where fewer than t3 ticks will have passed, the request waits on
pub waits : {P : Type 0} (t3 n3 : ℕ) (w : Waiting P) → w.waited + 1 < t3 → next_tick t3 n3 w ≡ WaitsOn
waits t3 n3 w q = let before : nat_lt (w.waited + 1) t3 ≡ true = grind (arith, nat_tests) in rw before refl

-- ---- the requests whose purpose does not meet a test

-- whether there is one of a number, by its purpose
abbrev pub stays_by : {P : Type 0} → (P → Bool) → Option P → Bool
stays_by meets None = false
stays_by meets (Some p) = not (meets p)

pub pending_cons : {P : Type 0} (n : ℕ) (v : Waiting P) (vs : List (Waiting P)) → is_pending n (v ∷ vs) ≡ ((v.seq == n) || is_pending n vs)
unfolding is_pending
pending_cons n v vs = refl

pub other_pending : {P : Type 0} (meets : P → Bool) (n : ℕ) (ws : List (Waiting P)) → AreDistinct ws → is_pending n (others meets ws) ≡ stays_by meets (purpose_of n ws)
unfolding is_pending purpose_of
other_pending meets n [] d = refl
other_pending {P} meets n (w ∷ ws) d = by (w.seq == n) (meets w.purpose) refl (other_pending meets n ws d.1) ∙ sym (stays_cons (w.seq == n))
  where
    stays_cons : (a : Bool) → stays_by meets (cond a (Some w.purpose) (purpose_of n ws)) ≡ cond a (not (meets w.purpose)) (stays_by meets (purpose_of n ws))
    stays_cons true = refl
    stays_cons false = refl

    gone : (w.seq == n) ≡ true → is_pending n (others meets ws) ≡ false
    gone e = none_filter n (λ (v : Waiting P). not (meets v.purpose)) ws (ap (λ (m : ℕ). is_pending m ws) (sym (same_number w.seq n e)) ∙ d.0)

    by : (a b : Bool) → (w.seq == n) ≡ a → is_pending n (others meets ws) ≡ stays_by meets (purpose_of n ws)
        → is_pending n (cond (not b) (w ∷ others meets ws) (others meets ws)) ≡ cond a (not b) (stays_by meets (purpose_of n ws))
    by true true e h = gone e
    by false true e h = h
    by true false e h = pending_cons n w (others meets ws) ∙ ap (λ (b : Bool). b || is_pending n (others meets ws)) e
    by false false e h = pending_cons n w (others meets ws) ∙ (ap (λ (b : Bool). b || is_pending n (others meets ws)) e ∙ h)
