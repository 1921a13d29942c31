-- Ticks, counted.
use Rattle.std.proofs.Common.{◌≡◌, ℕ, zero, suc, ◌+◌, ◌*◌, ◌<◌, ◌≤◌, true, false, List, Option, Some, None, refl, ap, ◌∙◌, arith}
use Rattle.std.specs.Prelude.{nat_lt}
use Rattle.std.proofs.lemmas.Bool.Decides.{nat_tests}
use Rattle.gtp_values.specs.declared.address.Endpoint.{Endpoint}
use Rattle.gtp_reliable.specs.Waiting.{Waiting, just_sent, after_tick, sent_again, given_up}
use Rattle.gtp_reliable.specs.Held.{HeldPair, just_kept, forgotten}
use Rattle.gtp_reliable.specs.Held as held
use Rattle.gtp_reliable.specs.Ticks.{then_tick, after_ticks, held_after}

yes : (a b : ℕ) → a < b → nat_lt a b ≡ true
yes a b h = grind (arith, nat_tests)

no : (a b : ℕ) → b ≤ a → nat_lt a b ≡ false
no a b h = grind (arith, nat_tests)

-- a request that was sent so often, so long ago
abbrev sent : {P : Type 0} → ℕ → Endpoint → List ℕ → P → ℕ → ℕ → Waiting P
sent seq to octets purpose k r = record { seq = seq; to = to; octets = octets; purpose = purpose; waited = k; resent = r }

waits_on : {P : Type 0} (t3 n3 seq : ℕ) (to : Endpoint) (octets : List ℕ) (purpose : P) (k r : ℕ) → k + 1 < t3
    → after_tick t3 n3 (sent seq to octets purpose k r) ≡ Some (sent seq to octets purpose (k + 1) r)
waits_on t3 n3 seq to octets purpose k r h = let t = yes (k + 1) t3 h in rw t refl

again : {P : Type 0} (t3 n3 seq : ℕ) (to : Endpoint) (octets : List ℕ) (purpose : P) (k r : ℕ) → t3 ≤ k + 1 → r < n3
    → after_tick t3 n3 (sent seq to octets purpose k r) ≡ Some (sent seq to octets purpose 0 (r + 1))
again t3 n3 seq to octets purpose k r h l = let t = no (k + 1) t3 h in let s = yes r n3 l in rw (t, s) refl

over : {P : Type 0} (t3 n3 seq : ℕ) (to : Endpoint) (octets : List ℕ) (purpose : P) (k r : ℕ) → t3 ≤ k + 1 → n3 ≤ r → after_tick t3 n3 (sent seq to octets purpose k r) ≡ None
over t3 n3 seq to octets purpose k r h l = let t = no (k + 1) t3 h in let s = no r n3 l in rw (t, s) refl

-- one more tick of a known request
one_more : {P : Type 0} (t3 n3 n m : ℕ) (w v : Waiting P) (o : Option (Waiting P)) → m ≡ suc n → after_ticks t3 n3 n w ≡ Some v → after_tick t3 n3 v ≡ o → after_ticks t3 n3 m w ≡ o
unfolding after_ticks
one_more t3 n3 n m w v o e h s = ap (λ (i : ℕ). after_ticks t3 n3 i w) e ∙ (ap (then_tick (after_tick t3 n3)) h ∙ s)

-- ticks since it was sent last
within : {P : Type 0} (t3 n3 seq : ℕ) (to : Endpoint) (octets : List ℕ) (purpose : P) (r n : ℕ) → after_ticks t3 n3 n (just_sent seq to octets purpose) ≡ Some (sent seq to octets purpose 0 r)
    → (k : ℕ) → k < t3 → after_ticks t3 n3 (n + k) (just_sent seq to octets purpose) ≡ Some (sent seq to octets purpose k r)
within t3 n3 seq to octets purpose r n h zero l = ap (λ (i : ℕ). after_ticks t3 n3 i (just_sent seq to octets purpose)) (omega arith) ∙ h
within t3 n3 seq to octets purpose r n h (suc k) l =
    one_more t3 n3 (n + k) (n + suc k) (just_sent seq to octets purpose) (sent seq to octets purpose k r)
    (Some (sent seq to octets purpose (suc k) r)) (omega arith) (within t3 n3 seq to octets purpose r n h k (omega arith))
    (waits_on t3 n3 seq to octets purpose k r (omega arith) ∙ ap (λ (i : ℕ). Some (sent seq to octets purpose i r)) (omega arith))

-- the last tick of a wait
last : {P : Type 0} (t3 n3 seq : ℕ) (to : Endpoint) (octets : List ℕ) (purpose : P) (r n : ℕ) → 0 < t3
    → after_ticks t3 n3 n (just_sent seq to octets purpose) ≡ Some (sent seq to octets purpose 0 r) → (m : ℕ) → m ≡ n + t3
    → (o : Option (Waiting P)) → ((k : ℕ) → t3 ≡ suc k → after_tick t3 n3 (sent seq to octets purpose k r) ≡ o) → after_ticks t3 n3 m (just_sent seq to octets purpose) ≡ o
last zero n3 seq to octets purpose r n s h m e o f = absurd (omega arith)
last (suc t) n3 seq to octets purpose r n s h m e o f =
    one_more (suc t) n3 (n + t) m (just_sent seq to octets purpose) (sent seq to octets purpose t r) o (omega arith) (within (suc t) n3 seq to octets purpose r n h t (omega arith)) (f t refl)

times : (r t3 : ℕ) → suc r * t3 ≡ r * t3 + t3
times r t3 = grind arith

-- each time that it is sent again
begun : {P : Type 0} (t3 n3 seq : ℕ) (to : Endpoint) (octets : List ℕ) (purpose : P) (r : ℕ) → 0 < t3 → r ≤ n3
    → after_ticks t3 n3 (r * t3) (just_sent seq to octets purpose) ≡ Some (sent seq to octets purpose 0 r)
unfolding after_ticks
begun t3 n3 seq to octets purpose zero s l = let none : 0 * t3 ≡ 0 = omega arith in ap (λ (i : ℕ). after_ticks t3 n3 i (just_sent seq to octets purpose)) none
begun t3 n3 seq to octets purpose (suc r) s l =
    last t3 n3 seq to octets purpose r (r * t3) s (begun t3 n3 seq to octets purpose r s (omega arith)) (suc r * t3) (times r t3) (Some (sent seq to octets purpose 0 (suc r)))
    (λ k e. again t3 n3 seq to octets purpose k r (omega arith) (omega arith) ∙ ap (λ (i : ℕ). Some (sent seq to octets purpose 0 i)) (omega arith))

pub sent_on_time : {P : Type 0} (t3 n3 r k seq : ℕ) (to : Endpoint) (octets : List ℕ) (purpose : P) → r ≤ n3 → k < t3
    → after_ticks t3 n3 (r * t3 + k) (just_sent seq to octets purpose) ≡ Some (sent seq to octets purpose k r)
sent_on_time t3 n3 r k seq to octets purpose l h = within t3 n3 seq to octets purpose r (r * t3) (begun t3 n3 seq to octets purpose r (omega arith) l) k h

times_one : (n t3 : ℕ) → (n + 1) * t3 ≡ n * t3 + t3
times_one n t3 = grind arith

pub given_up_on_time : {P : Type 0} (t3 n3 seq : ℕ) (to : Endpoint) (octets : List ℕ) (purpose : P) → 0 < t3 → after_ticks t3 n3 ((n3 + 1) * t3) (just_sent seq to octets purpose) ≡ None
given_up_on_time t3 n3 seq to octets purpose s =
    last t3 n3 seq to octets purpose n3 (n3 * t3) s (begun t3 n3 seq to octets purpose n3 s (omega arith)) ((n3 + 1) * t3) (times_one n3 t3) None
    (λ k e. over t3 n3 seq to octets purpose k n3 (omega arith) (omega arith))

-- ---- held answers

abbrev kept : Endpoint → List ℕ → List ℕ → ℕ → HeldPair
kept source request answer age = record { source = source; request = request; answer = answer; age = age }

ages : (hold : ℕ) (source : Endpoint) (request answer : List ℕ) (k : ℕ) → k + 1 < hold → held.after_tick hold (kept source request answer k) ≡ Some (kept source request answer (k + 1))
ages hold source request answer k h = let t = yes (k + 1) hold h in rw t refl

gone : (hold : ℕ) (source : Endpoint) (request answer : List ℕ) (k : ℕ) → hold ≤ k + 1 → held.after_tick hold (kept source request answer k) ≡ None
gone hold source request answer k h = let t = no (k + 1) hold h in rw t refl

pub held_on_time : (hold k : ℕ) (source : Endpoint) (request answer : List ℕ) → k < hold → held_after hold k (just_kept source request answer) ≡ Some (kept source request answer k)
unfolding held_after
held_on_time hold zero source request answer h = refl
held_on_time hold (suc k) source request answer h =
    ap (then_tick (held.after_tick hold)) (held_on_time hold k source request answer (omega arith))
    ∙ (ages hold source request answer k (omega arith) ∙ ap (λ (i : ℕ). Some (kept source request answer i)) (omega arith))

pub forgotten_on_time : (hold : ℕ) (source : Endpoint) (request answer : List ℕ) → 0 < hold → held_after hold hold (just_kept source request answer) ≡ None
unfolding held_after
forgotten_on_time zero source request answer h = absurd (omega arith)
forgotten_on_time (suc k) source request answer h =
    ap (then_tick (held.after_tick (suc k))) (held_on_time (suc k) k source request answer (omega arith))
    ∙ gone (suc k) source request answer k (omega arith)

-- ---- what one tick tells

pub sends_then : {P : Type 0} (t3 n3 : ℕ) (w : Waiting P) → w.waited + 1 ≡ t3 → w.resent < n3
    → (sent_again t3 n3 w ≡ Some (record { seq = w.seq; to = w.to; octets = w.octets })) × (given_up t3 n3 w ≡ None)
sends_then t3 n3 w last fewer =
    let late : nat_lt (w.waited + 1) t3 ≡ false = grind (arith, nat_tests) in
    let again : nat_lt w.resent n3 ≡ true = grind (arith, nat_tests) in (rw (late, again) refl, rw (late, again) refl)

pub gives_up_then : {P : Type 0} (t3 n3 : ℕ) (w : Waiting P) → w.waited + 1 ≡ t3 → w.resent ≡ n3
    → (sent_again t3 n3 w ≡ None) × (given_up t3 n3 w ≡ Some (w.seq, w.purpose))
gives_up_then t3 n3 w last all =
    let late : nat_lt (w.waited + 1) t3 ≡ false = grind (arith, nat_tests) in
    let no_more : nat_lt w.resent n3 ≡ false = grind (arith, nat_tests) in (rw (late, no_more) refl, rw (late, no_more) refl)

pub quiet_then : {P : Type 0} (t3 n3 : ℕ) (w : Waiting P) → w.waited + 1 < t3 → (sent_again t3 n3 w ≡ None) × (given_up t3 n3 w ≡ None)
quiet_then t3 n3 w before =
    let early : nat_lt (w.waited + 1) t3 ≡ true = grind (arith, nat_tests) in (rw early refl, rw early refl)

pub forgets_then : (hold : ℕ) (p : HeldPair) → p.age + 1 ≡ hold → forgotten hold p ≡ Some (record { source = p.source; octets = p.request })
forgets_then hold p last =
    let late : nat_lt (p.age + 1) hold ≡ false = grind (arith, nat_tests) in rw late refl

pub keeps_then : (hold : ℕ) (p : HeldPair) → p.age + 1 < hold → forgotten hold p ≡ None
keeps_then hold p before =
    let early : nat_lt (p.age + 1) hold ≡ true = grind (arith, nat_tests) in rw early refl
