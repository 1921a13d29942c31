-- What ticks go by, where two gateways that were alike are left with the same node.
use Rattle.std.proofs.Common.{◌≡◌, ◌≢◌, ⊎_elim, ℕ, ◌+◌, Bool, true, false, ◌||◌, cond, filter, List, [], ◌∷◌, ◌++◌, length, map, All, Option, Some}
use Rattle.std.proofs.Common.{None, option_map, refl, sym, ◌∙◌, ap, subst, arith, length-append}
use Rattle.std.specs.Prelude.{◌==◌, if◌then◌else◌, nat_lt}
use Rattle.std.specs.List.{AllByRecursion, list_any, filter_map, cons_option}
use Rattle.std.specs.FinMap.{get, insert}
use Rattle.std.proofs.lemmas.Bool.{or_parts}
use Rattle.std.proofs.lemmas.List.{map_push, length-map}
use Rattle.std.proofs.lemmas.List.Elements.{All-from_recursion, recursion_from_All}
use Rattle.gtp_values.specs.FiniteMap.{FiniteMap, Among}
use Rattle.gtp_values.specs.declared.address.Endpoint.{Endpoint}
use Rattle.gtp_reliable.specs.Held.{HeldPair, Question, just_kept, forgotten}
use Rattle.gtp_reliable.specs.Held as held
use Rattle.gtp_reliable.specs.Pending.{is_pending, AreDistinct, IsNextFree, number_after}
use Rattle.gtp_reliable.specs.Waiting.{Waiting, Message, just_sent, next_tick, after_tick_by, after_tick, sent_again_by, sent_again, given_up_by, given_up}
use Rattle.gtp_reliable.specs.declared.waiting.NextTick.{NextTick}
use Rattle.gtp_reliable.specs.declared.waiting.NextTick.TheVariants.{WaitsOn, SentAgain, GivenUp}
use Rattle.gtp_machine.specs.Config.{control_end}
use Rattle.gtp_machine.specs.Message.{CreateBearerRequest, Create_bearer_request}
use Rattle.gtp_machine.specs.Node.{Arrival, PendingRequest, Node}
use Rattle.gtp_machine.specs.Spelling.{Datagram, spelled}
use Rattle.gtp_machine.specs.Tick.{Due}
use Rattle.gtp_machine.proofs.Basics.FiniteMaps.{found-insert, get-insert_same}
use Rattle.gtp_machine.proofs.Determined.Alike.{WaitsBeside}
use Rattle.gtp_gateway.specs.declared.config.Timers.{Timers}
use Rattle.gtp_gateway.specs.declared.command.purpose.Purpose.{Purpose}
use Rattle.gtp_gateway.specs.Determined.{held_as, waits_as, AreLeftAlike}
use Rattle.gtp_gateway.specs.receive.Queues.{Beginning, held_with, begun_with, IsNext, IsNewFor, IsNew, waiting_on, QueuesAfterMessage}
use Rattle.gtp_gateway.specs.Parts.{held_of, pending_of, pending_in}
use Rattle.gtp_gateway.specs.messages.Spelled.{message_in}
use Rattle.gtp_gateway.specs.GatewayState.{Queues, GatewayState, NodeMatchesQueues}
use Rattle.gtp_gateway.specs.Tick.{asked_by, due_in, QueuesAfterTick}
use Rattle.gtp_gateway.specs.command.SendRequest.{after_begun}
use Rattle.gtp_gateway.proofs.ChosenOnce.{same_beside, one_next}
use Rattle.gtp_gateway.proofs.Requests.{none_pending, pending_push, found_before, of_found}

-- a request that waits, but for what it is about
abbrev Form : Type 0
Form = Waiting (Unit {0})

-- ---- what is due is due by the forms alone

map_cons : {A C : Type 0} (f : A → C) (o : Option A) (xs : List A) → map f (cons_option o xs) ≡ cons_option (option_map f o) (map f xs)
map_cons f None xs = refl
map_cons f (Some x) xs = refl

-- what a function gives of the items, by their forms
by_forms : {X Y A B C : Type 0} (f : X → Option A) (g : Y → Option B) (form : X → Y) (k : A → C) (l : B → C)
    → ((x : X) → option_map k (f x) ≡ option_map l (g (form x))) → (xs : List X) → map k (filter_map f xs) ≡ map l (filter_map g (map form xs))
by_forms f g form k l same [] = refl
by_forms f g form k l same (x ∷ xs) =
    map_cons k (f x) (filter_map f xs)
    ∙ ((λ i. cons_option (same x i) (by_forms f g form k l same xs i)) ∙ sym (map_cons l (g (form x)) (filter_map g (map form xs))))

-- what is due, by the forms
abbrev due_by : Timers → List Form → List HeldPair → Due
due_by timers waiting pairs =
    record {
      resends = map (λ (m : Message). m.seq) (filter_map (sent_again timers.t3 timers.n3) waiting);
      give_ups = map (λ (g : ℕ × Unit {0}). g.0) (filter_map (given_up timers.t3 timers.n3) waiting);
      forgets = map asked_by (filter_map (forgotten timers.hold) pairs);
    }

module _ (t3 n3 : ℕ) (w : Waiting Purpose) where
  sent_form : option_map (λ (m : Message). m.seq) (sent_again t3 n3 w) ≡ option_map (λ (m : Message). m.seq) (sent_again t3 n3 (waits_as w))
  sent_form = by_tick (next_tick t3 n3 w)
    where
      by_tick : (next : NextTick) → option_map (λ (m : Message). m.seq) (sent_again_by next w) ≡ option_map (λ (m : Message). m.seq) (sent_again_by next (waits_as w))
      by_tick WaitsOn = refl
      by_tick SentAgain = refl
      by_tick GivenUp = refl

  given_form : option_map (λ (g : ℕ × Purpose). g.0) (given_up t3 n3 w) ≡ option_map (λ (g : ℕ × Unit {0}). g.0) (given_up t3 n3 (waits_as w))
  given_form = by_tick (next_tick t3 n3 w)
    where
      by_tick : (next : NextTick) → option_map (λ (g : ℕ × Purpose). g.0) (given_up_by next w) ≡ option_map (λ (g : ℕ × Unit {0}). g.0) (given_up_by next (waits_as w))
      by_tick WaitsOn = refl
      by_tick SentAgain = refl
      by_tick GivenUp = refl

  -- what a tick makes of it, by its form
  ticked_form : option_map waits_as (after_tick t3 n3 w) ≡ after_tick t3 n3 (waits_as w)
  ticked_form = by_tick (next_tick t3 n3 w)
    where
      by_tick : (next : NextTick) → option_map waits_as (after_tick_by next w) ≡ after_tick_by next (waits_as w)
      by_tick WaitsOn = refl
      by_tick SentAgain = refl
      by_tick GivenUp = refl

  numbered_later : (v : Waiting Purpose) → after_tick t3 n3 w ≡ Some v → v.seq ≡ w.seq
  numbered_later v is = by_tick (next_tick t3 n3 w) is
    where
      by_tick : (next : NextTick) → after_tick_by next w ≡ Some v → v.seq ≡ w.seq
      by_tick WaitsOn e = cc
      by_tick SentAgain e = cc
      by_tick GivenUp e = cc

due_as : (t : Queues) → due_in t ≡ due_by t.timers (map waits_as t.waiting) (map held_as t.held)
due_as t = λ i. record {
  resends =
      by_forms (sent_again t.timers.t3 t.timers.n3) (sent_again t.timers.t3 t.timers.n3) waits_as (λ (m : Message). m.seq) (λ (m : Message). m.seq)
      (sent_form t.timers.t3 t.timers.n3) t.waiting i;
  give_ups =
      by_forms (given_up t.timers.t3 t.timers.n3) (given_up t.timers.t3 t.timers.n3) waits_as (λ (g : ℕ × Purpose). g.0) (λ (g : ℕ × Unit {0}). g.0)
      (given_form t.timers.t3 t.timers.n3) t.waiting i;
  forgets = by_forms (forgotten t.timers.hold) (forgotten t.timers.hold) held_as asked_by asked_by (λ p. refl) t.held i;
}

pub same_due : (one other : GatewayState) → AreLeftAlike one other → due_in one.queues ≡ due_in other.queues
same_due one other alike = due_as one.queues ∙ ((λ i. due_by (alike.timers i) (alike.waiting i) (alike.held i)) ∙ sym (due_as other.queues))

-- ---- which numbers wait

pending_form : (n : ℕ) (ws : List (Waiting Purpose)) → is_pending n ws ≡ is_pending n (map waits_as ws)
unfolding is_pending
pending_form n [] = refl
pending_form n (w ∷ ws) = ap (λ k. (w.seq == n) || k) (pending_form n ws)

same_pending : (ws vs : List (Waiting Purpose)) → map waits_as ws ≡ map waits_as vs → (n : ℕ) → is_pending n ws ≡ is_pending n vs
same_pending ws vs same n = pending_form n ws ∙ (ap (λ k. is_pending n k) same ∙ sym (pending_form n vs))

free_among : (start : ℕ) (ws vs : List (Waiting Purpose)) → map waits_as ws ≡ map waits_as vs → (n : ℕ) → IsNextFree start vs n → IsNextFree start ws n
free_among start ws vs same n f = record {
  free = same_pending ws vs same n ∙ f.free;
  passed = f.passed;
  few = f.few;
  place = f.place;
  taken = λ j less. same_pending ws vs same _ ∙ f.taken j less;
}

-- the next free number is one
pub one_free : (one other : GatewayState) (m n : ℕ) → AreLeftAlike one other → IsNextFree one.queues.next one.queues.waiting m → IsNextFree other.queues.next other.queues.waiting n → m ≡ n
one_free one other m n alike a b =
    one_next one.queues.next one.queues.waiting m n a (free_among one.queues.next one.queues.waiting other.queues.waiting alike.waiting n
    (subst (λ k. IsNextFree k other.queues.waiting n) (sym alike.next) b))

-- ---- requests that stay

-- a list with what an option holds before it, where a test is true
abbrev taken : Bool → Option (Waiting Purpose) → List (Waiting Purpose) → List (Waiting Purpose)
taken true o ws = cons_option o ws
taken false o ws = ws

none_taken : (n : ℕ) (b : Bool) (o : Option (Waiting Purpose)) (ws : List (Waiting Purpose)) → ((v : Waiting Purpose) → o ≡ Some v → (v.seq == n) ≡ false)
    → is_pending n ws ≡ false → is_pending n (taken b o ws) ≡ false
unfolding is_pending
none_taken n false o ws other none = none
none_taken n true None ws other none = none
none_taken n true (Some v) ws other none = rw (other v refl) none

same_taken : (a b : Bool) (o p : Option (Waiting Purpose)) (ws vs : List (Waiting Purpose)) → option_map waits_as o ≡ option_map waits_as p
    → ((w : Waiting Purpose) → o ≡ Some w → get (pending_in ws) w.seq ≡ None)
    → ((v : Waiting Purpose) → p ≡ Some v → get (pending_in vs) v.seq ≡ None) → (pending_in ws ≡ pending_in vs → map waits_as ws ≡ map waits_as vs)
    → pending_in (taken a o ws) ≡ pending_in (taken b p vs) → map waits_as (taken a o ws) ≡ map waits_as (taken b p vs)
same_taken false false o p ws vs both absent missing rest e = rest e
same_taken false true None None ws vs both absent missing rest e = rest e
same_taken true false None None ws vs both absent missing rest e = rest e
same_taken true true None None ws vs both absent missing rest e = rest e
same_taken a b None (Some v) ws vs both absent missing rest e = absurd (cc both)
same_taken a b (Some w) None ws vs both absent missing rest e = absurd (cc both)
same_taken false true (Some w) (Some v) ws vs both absent missing rest e =
    let seq : v.seq ≡ w.seq = let form : waits_as w ≡ waits_as v = cc both in sym (ap (λ (k : Form). k.seq) form) in
    absurd (never (ap (λ k. get k v.seq) e ∙ get-insert_same (pending_in vs) v.seq (pending_of v).1) (ap (λ k. get (pending_in ws) k) seq ∙ absent w refl))
  where
    never : get (pending_in ws) v.seq ≡ Some (pending_of v).1 → get (pending_in ws) v.seq ≡ None → ⊥
    never there none = cc
same_taken true false (Some w) (Some v) ws vs both absent missing rest e =
    let seq : w.seq ≡ v.seq = let form : waits_as w ≡ waits_as v = cc both in ap (λ (k : Form). k.seq) form in
    absurd (never (ap (λ k. get k w.seq) (sym e) ∙ get-insert_same (pending_in ws) w.seq (pending_of w).1) (ap (λ k. get (pending_in vs) k) seq ∙ missing v refl))
  where
    never : get (pending_in vs) w.seq ≡ Some (pending_of w).1 → get (pending_in vs) w.seq ≡ None → ⊥
    never there none = cc
same_taken true true (Some w) (Some v) ws vs both absent missing rest e =
    let form : waits_as w ≡ waits_as v = cc both in
    let seq : w.seq ≡ v.seq = ap (λ (k : Form). k.seq) form in
    let same =
    same_beside (pending_in ws) (pending_in vs) w.seq (pending_of w).1 (pending_of v).1 (absent w refl)
    (ap (λ k. get (pending_in vs) k) seq ∙ missing v refl) (e ∙ ap (λ k. insert (pending_in vs) k (pending_of v).1) (sym seq)) in
    λ i. form i ∷ rest same i

-- of requests, those that stay, each as a tick leaves it
module _ (later : Waiting Purpose → Option (Waiting Purpose)) (numbered : (w v : Waiting Purpose) → later w ≡ Some v → v.seq ≡ w.seq)
    (formed : (w v : Waiting Purpose) → waits_as w ≡ waits_as v → option_map waits_as (later w) ≡ option_map waits_as (later v)) where
  abbrev staying : (Waiting Purpose → Bool) → List (Waiting Purpose) → List (Waiting Purpose)
  staying stays ws = filter_map later (filter stays ws)

  first_taken : (w : Waiting Purpose) (b : Bool) (ws : List (Waiting Purpose)) → filter_map later (cond b (w ∷ ws) ws) ≡ taken b (later w) (filter_map later ws)
  first_taken w true ws = refl
  first_taken w false ws = refl

  none_stays : (stays : Waiting Purpose → Bool) (n : ℕ) (ws : List (Waiting Purpose)) → is_pending n ws ≡ false → is_pending n (staying stays ws) ≡ false
  unfolding is_pending
  none_stays stays n [] none = refl
  none_stays stays n (w ∷ ws) none =
      let both = or_parts (w.seq == n) (list_any (λ (x : Waiting Purpose). x.seq == n) ws) none in
      ap (λ k. is_pending n k) (first_taken w (stays w) (filter stays ws))
      ∙ none_taken n (stays w) (later w) (staying stays ws) (λ v is. ap (λ (k : ℕ). k == n) (numbered w v is) ∙ both.0) (none_stays stays n ws both.1)

  -- the request does not wait among those after it
  gone : (test : Waiting Purpose → Bool) (w : Waiting Purpose) (ws : List (Waiting Purpose)) → is_pending w.seq ws ≡ false → (v : Waiting Purpose)
      → later w ≡ Some v → get (pending_in (staying test ws)) v.seq ≡ None
  gone test w ws none v is = none_pending (staying test ws) v.seq (subst (λ k. is_pending k (staying test ws) ≡ false) (sym (numbered w v is)) (none_stays test w.seq ws none))

  same_staying : (stays keeps : Waiting Purpose → Bool) (ws vs : List (Waiting Purpose)) → map waits_as ws ≡ map waits_as vs → AreDistinct ws → AreDistinct vs
      → pending_in (staying stays ws) ≡ pending_in (staying keeps vs) → map waits_as (staying stays ws) ≡ map waits_as (staying keeps vs)
  same_staying stays keeps [] [] same apart also e = refl
  same_staying stays keeps [] (v ∷ vs) same apart also e = absurd (cc same)
  same_staying stays keeps (w ∷ ws) [] same apart also e = absurd (cc same)
  same_staying stays keeps (w ∷ ws) (v ∷ vs) same apart also e =
      let form : waits_as w ≡ waits_as v = cc same in
      let forms : map waits_as ws ≡ map waits_as vs = cc same in
      let first = first_taken w (stays w) (filter stays ws) in
      let second = first_taken v (keeps v) (filter keeps vs) in
      ap (map waits_as) first
      ∙ (same_taken (stays w) (keeps v) (later w) (later v) (staying stays ws) (staying keeps vs) (formed w v form) (gone stays w ws apart.0)
      (gone keeps v vs also.0) (same_staying stays keeps ws vs forms apart.1 also.1) (ap pending_in (sym first) ∙ (e ∙ ap pending_in second))
      ∙ ap (map waits_as) (sym second))

-- requests that stay, as they are
all_there : (ws : List (Waiting Purpose)) → filter_map (λ (w : Waiting Purpose). Some w) ws ≡ ws
all_there [] = refl
all_there (w ∷ ws) = ap (λ k. w ∷ k) (all_there ws)

same_filter : (stays keeps : Waiting Purpose → Bool) (ws vs : List (Waiting Purpose)) → map waits_as ws ≡ map waits_as vs → AreDistinct ws → AreDistinct vs
    → pending_in (filter stays ws) ≡ pending_in (filter keeps vs) → map waits_as (filter stays ws) ≡ map waits_as (filter keeps vs)
same_filter stays keeps ws vs same apart also e =
    ap (map waits_as) (sym (all_there (filter stays ws)))
    ∙ (same_staying (λ w. Some w) (λ w v is. numbered w v is) (λ w v form. ap (λ k. Some k) form) stays keeps ws vs same apart also
    (ap pending_in (all_there (filter stays ws)) ∙ (e ∙ ap pending_in (sym (all_there (filter keeps vs)))))
    ∙ ap (map waits_as) (all_there (filter keeps vs)))
  where
    numbered : (w v : Waiting Purpose) → ◌≡◌ {A = Option (Waiting Purpose)} (Some w) (Some v) → v.seq ≡ w.seq
    numbered w v is = let same : w ≡ v = cc in ap (λ (k : Waiting Purpose). k.seq) (sym same)

-- ---- answers that are held

longer : (ps qs : List HeldPair) (p : HeldPair) → map held_as ps ≡ map held_as qs → map held_of ps ≡ map held_of (qs ++ (p ∷ [])) → ⊥
longer ps qs p same e = omega (arith, ap length e, ap length same, length-map ps held_of, length-map (qs ++ (p ∷ [])) held_of, length-append qs (p ∷ []), length-map ps held_as, length-map qs held_as)

-- an answer that is held, or none
same_held : (source : Endpoint) (octets : List ℕ) (a b : Option (List ℕ)) (ps qs : List HeldPair) → map held_as ps ≡ map held_as qs
    → map held_of (held_with source octets a ps) ≡ map held_of (held_with source octets b qs)
    → map held_as (held_with source octets a ps) ≡ map held_as (held_with source octets b qs)
same_held source octets None None ps qs same e = same
same_held source octets (Some a) (Some b) ps qs same e =
    map_push held_as ps (just_kept source octets a)
    ∙ (ap (λ k. k ++ (held_as (just_kept source octets a) ∷ [])) same ∙ sym (map_push held_as qs (just_kept source octets b)))
same_held source octets None (Some b) ps qs same e = absurd (longer ps qs (just_kept source octets b) same e)
same_held source octets (Some a) None ps qs same e = absurd (longer qs ps (just_kept source octets a) (sym same) (sym e))

-- a tick, by the forms
held_form : (hold : ℕ) (p : HeldPair) → option_map held_as (held.after_tick hold p) ≡ option_map held_as (held.after_tick hold (held_as p))
held_form hold p = by_test (nat_lt (p.age + 1) hold)
  where
    by_test : (b : Bool) → option_map held_as (if b then Some (record p { age = p.age + 1 }) else None) ≡ option_map held_as (if b then Some (record (held_as p) { age = p.age + 1 }) else None)
    by_test true = refl
    by_test false = refl

-- ---- a request that is begun with a datagram

-- as it waits
abbrev begins : Beginning → Waiting Purpose
begins b = just_sent b.number b.to b.octets b.purpose

-- what holds of the octets of each request that waits
all_alike : (P : List ℕ → Type 0) (ws vs : List (Waiting Purpose)) → map waits_as ws ≡ map waits_as vs → All (λ (w : Waiting Purpose). P w.octets) ws → All (λ (w : Waiting Purpose). P w.octets) vs
all_alike P ws vs same all = All-from_recursion (λ (w : Waiting Purpose). P w.octets) vs (each ws vs same (recursion_from_All (λ (w : Waiting Purpose). P w.octets) ws all))
  where
    each : (ws vs : List (Waiting Purpose)) → map waits_as ws ≡ map waits_as vs → AllByRecursion (λ (w : Waiting Purpose). P w.octets) ws → AllByRecursion (λ (w : Waiting Purpose). P w.octets) vs
    each [] [] same all = tt
    each [] (v ∷ vs) same all = absurd (cc same)
    each (w ∷ ws) [] same all = absurd (cc same)
    each (w ∷ ws) (v ∷ vs) same all =
        let form : waits_as w ≡ waits_as v = cc same in
        let forms : map waits_as ws ≡ map waits_as vs = cc same in
        (subst P (ap (λ (k : Form). k.octets) form) all.0, each ws vs forms all.1)

-- a request that is none of these
abbrev IsNone : Beginning → List (Waiting Purpose) → Type 0
IsNone b ws = All (λ (w : Waiting Purpose). message_in w.octets ≢ message_in b.octets) ws

none_alike : (b : Beginning) (ws vs : List (Waiting Purpose)) → map waits_as ws ≡ map waits_as vs → IsNone b ws → IsNone b vs
none_alike b = all_alike (λ o. message_in o ≢ message_in b.octets)

pushed : (start : ℕ) (ws : List (Waiting Purpose)) (b : Beginning) → IsNextFree start ws b.number → pending_in (ws ++ (begins b ∷ [])) ≡ insert (pending_in ws) b.number (pending_of (begins b)).1
pushed start ws b next = pending_push ws (begins b) (pending_of (begins b)).1 next.free refl

-- it did not wait
not_before : (keeps : Waiting Purpose → Bool) (vs : List (Waiting Purpose)) (b : Beginning) (n : ℕ) → AreDistinct vs → IsNone b vs
    → get (pending_in (filter keeps vs)) n ≡ Some (pending_of (begins b)).1 → ⊥
not_before keeps vs b n apart none found = of_found (λ p. p.request ≢ message_in b.octets) vs n (pending_of (begins b)).1 none (found_before keeps vs n (pending_of (begins b)).1 apart found) refl

-- none was begun where none was
none_begun : (start : ℕ) (ws : List (Waiting Purpose)) (keeps : Waiting Purpose → Bool) (vs : List (Waiting Purpose)) (b : Beginning) → AreDistinct vs
    → IsNone b vs → IsNextFree start ws b.number → pending_in (ws ++ (begins b ∷ [])) ≡ pending_in (filter keeps vs) → ⊥
none_begun start ws keeps vs b apart none next same =
    not_before keeps vs b b.number apart none (ap (λ (k : FiniteMap PendingRequest). get k b.number) (sym same ∙ pushed start ws b next)
    ∙ get-insert_same (pending_in ws) b.number (pending_of (begins b)).1)

-- the same request was begun, beside the same ones
record IsOneBegun (stays : Waiting Purpose → Bool) (ws : List (Waiting Purpose)) (keeps : Waiting Purpose → Bool) (vs : List (Waiting Purpose)) (a b : Beginning) : Type 0 where
  pub number : a.number ≡ b.number
  pub message : message_in a.octets ≡ message_in b.octets
  pub others : map waits_as (filter stays ws) ≡ map waits_as (filter keeps vs)

module _ (ws vs : List (Waiting Purpose)) (same : map waits_as ws ≡ map waits_as vs) (apart : AreDistinct ws) (also : AreDistinct vs) where
  one_begun : (start end : ℕ) (stays keeps : Waiting Purpose → Bool) (a b : Beginning) → IsNone a vs → IsNextFree start (filter stays ws) a.number
      → IsNextFree end (filter keeps vs) b.number → pending_in (filter stays ws ++ (begins a ∷ [])) ≡ pending_in (filter keeps vs ++ (begins b ∷ []))
      → IsOneBegun stays ws keeps vs a b
  one_begun start end stays keeps a b none next other is =
      let p = (pending_of (begins a)).1 in
      let q = (pending_of (begins b)).1 in
      let one = pending_in (filter stays ws) in
      let two = pending_in (filter keeps vs) in
      let both : insert one a.number p ≡ insert two b.number q = sym (pushed start (filter stays ws) a next) ∙ (is ∙ pushed end (filter keeps vs) b other) in
      ⊎_elim
      (λ here. record {
        number = here.0;
        message = ap (λ (k : PendingRequest). k.request) (sym here.1);
        others = same_filter stays keeps ws vs same apart also
            (same_beside one two a.number p q (none_pending (filter stays ws) a.number next.free)
            (subst (λ (k : ℕ). get two k ≡ None) (sym here.0) (none_pending (filter keeps vs) b.number other.free))
            (both ∙ ap (λ (k : ℕ). insert two k q) (sym here.0)));
      })
      (λ there. absurd (not_before keeps vs a a.number also none there.1))
      (found-insert two b.number q a.number p (ap (λ (k : FiniteMap PendingRequest). get k a.number) (sym both) ∙ get-insert_same one a.number p))

-- a request that is begun is known by its message
same_begins : (one other : GatewayState) (a b : Beginning) → one.node ≡ other.node → IsNewFor a one → IsNewFor b other → a.number ≡ b.number
    → message_in a.octets ≡ message_in b.octets → waits_as (begins a) ≡ waits_as (begins b)
same_begins one other a b node is_new also number message =
    let to : a.to ≡ b.to = is_new.to ∙ (ap (λ (n : Node). control_end n.config.peer.control) node ∙ sym also.to) in
    let octets : a.octets ≡ b.octets = is_new.spelled.is ∙ (ap spelled message ∙ sym also.spelled.is) in
    λ i. record { seq = number i; to = to i; octets = octets i; purpose = tt; waited = 0; resent = 0 }

-- a request with this number was begun beside these
record IsBegunAmong (old : GatewayState) (others : FiniteMap PendingRequest) (n : ℕ) : Type 0 where
  pub stays : Waiting Purpose → Bool
  pub next : IsNextFree old.queues.next (filter stays old.queues.waiting) n
  pub beside : pending_in (filter stays old.queues.waiting) ≡ others

-- a request for a bearer that waits brings a TEID that was drawn
abbrev pub BringDrawn : Node → Type 0
BringDrawn node =
    (n : ℕ) (p : PendingRequest) (r : CreateBearerRequest) → get node.pending n ≡ Some p → p.request ≡ Create_bearer_request r
    → (Among r.context.user.teid node.drawn → ⊥) → ⊥

-- a request for a bearer with a new TEID that waits after a datagram was begun with it
module _ (old : GatewayState) (brings : BringDrawn old.node) (tied : NodeMatchesQueues old) (apart : AreDistinct old.queues.waiting) where
  -- it did not wait before
  no_request : {new others : FiniteMap PendingRequest} (n : ℕ) (p : PendingRequest) (stays : Waiting Purpose → Bool)
      → WaitsBeside old.node.drawn new others n p → get (pending_in (filter stays old.queues.waiting)) n ≡ Some p → ⊥
  no_request n p stays waits found =
      brings n p waits.request (ap (λ (k : FiniteMap PendingRequest). get k n) tied.pending ∙ found_before stays old.queues.waiting n p apart found)
      waits.asked waits.undrawn

  begun_among : (arrival : Arrival) (new : GatewayState) (others : FiniteMap PendingRequest) (n : ℕ) (p : PendingRequest) → QueuesAfterMessage arrival old new
      → WaitsBeside old.node.drawn new.node.pending others n p → IsBegunAmong old others n
  begun_among arrival new others n p goes waits = by goes.begun goes.next left
    where
      left : pending_in (begun_with goes.begun (waiting_on goes.stays old.queues)).waiting ≡ insert others n p
      left = ap (λ (t : Queues). pending_in t.waiting) (sym goes.queues) ∙ (sym goes.tied.pending ∙ waits.is)

      by : (x : Option Beginning) → IsNext x (waiting_on goes.stays old.queues) → pending_in (begun_with x (waiting_on goes.stays old.queues)).waiting ≡ insert others n p → IsBegunAmong old others n
      by None next is = absurd (no_request n p goes.stays waits (ap (λ (k : FiniteMap PendingRequest). get k n) is ∙ get-insert_same others n p))
      by (Some b) next is =
          let kept = filter goes.stays old.queues.waiting in
          let stay : FiniteMap PendingRequest = pending_in kept in
          let both : insert stay b.number (pending_of (begins b)).1 ≡ insert others n p = sym (pushed old.queues.next kept b next) ∙ is in
          ⊎_elim
          (λ here. record {
            stays = goes.stays;
            next = subst (λ (k : ℕ). IsNextFree old.queues.next kept k) (sym here.0) next;
            beside =
                same_beside stay others n (pending_of (begins b)).1 p (ap (λ k. get stay k) here.0 ∙ none_pending kept b.number next.free)
                waits.absent (ap (λ (k : ℕ). insert stay k (pending_of (begins b)).1) here.0 ∙ both);
          })
          (λ there. absurd (no_request n p goes.stays waits there.1))
          (found-insert stay b.number (pending_of (begins b)).1 n p (ap (λ (k : FiniteMap PendingRequest). get k n) both ∙ get-insert_same others n p))

-- requests for bearers that two gateways begin that were alike have one number
module _ (one other new left : GatewayState) (alike : AreLeftAlike one other) (apart : AreDistinct one.queues.waiting)
    (also : AreDistinct other.queues.waiting) (arrival : Arrival) (m : QueuesAfterMessage arrival one new) (n : QueuesAfterMessage arrival other left)
  where
    pub number_begun : BringDrawn one.node → NodeMatchesQueues one → NodeMatchesQueues other → (others : FiniteMap PendingRequest) (x y : ℕ) (p q : PendingRequest)
        → WaitsBeside one.node.drawn new.node.pending others x p → WaitsBeside one.node.drawn left.node.pending others y q → x ≡ y
    number_begun brings tied tied_too others x y p q waits too =
        let a = begun_among one brings tied apart arrival new others x p m waits in
        let b =
        begun_among other (subst BringDrawn alike.node brings) tied_too also arrival left others y q n
        (subst (λ (k : Node). WaitsBeside k.drawn left.node.pending others y q) alike.node too) in
        let same = same_filter a.stays b.stays one.queues.waiting other.queues.waiting alike.waiting apart also (a.beside ∙ sym b.beside) in
        one_next one.queues.next (filter a.stays one.queues.waiting) x y a.next
        (free_among one.queues.next (filter a.stays one.queues.waiting) (filter b.stays other.queues.waiting) same y
        (subst (λ k. IsNextFree k (filter b.stays other.queues.waiting) y) (sym alike.next) b.next))

-- ---- two gateways that were alike

module _ (one other new left : GatewayState) (alike : AreLeftAlike one other) (role : new.role ≡ left.role) (node : new.node ≡ left.node) where
  -- where nothing changes
  pub left_stays : new.queues ≡ one.queues → left.queues ≡ other.queues → AreLeftAlike new left
  left_stays m n = record {
    role = role;
    node = node;
    timers = ap (λ (t : Queues). t.timers) m ∙ (alike.timers ∙ sym (ap (λ (t : Queues). t.timers) n));
    next = ap (λ (t : Queues). t.next) m ∙ (alike.next ∙ sym (ap (λ (t : Queues). t.next) n));
    waiting = ap (λ (t : Queues). map waits_as t.waiting) m ∙ (alike.waiting ∙ sym (ap (λ (t : Queues). map waits_as t.waiting) n));
    held = ap (λ (t : Queues). map held_as t.held) m ∙ (alike.held ∙ sym (ap (λ (t : Queues). map held_as t.held) n));
  }

  -- where the same request was begun
  pub left_begun : (d : Datagram) (m n : ℕ) (p q : Purpose) → IsNextFree one.queues.next one.queues.waiting m → IsNextFree other.queues.next other.queues.waiting n
      → new.queues ≡ after_begun m p d.to d.octets one.queues → left.queues ≡ after_begun n q d.to d.octets other.queues → AreLeftAlike new left
  left_begun d m n p q free also is left_is =
      let number : m ≡ n = one_free one other m n alike free also in
      let first : Waiting Purpose = just_sent m d.to d.octets p in
      let second : Waiting Purpose = just_sent n d.to d.octets q in
      let same : waits_as first ≡ waits_as second = λ i. record { seq = number i; to = d.to; octets = d.octets; purpose = tt; waited = 0; resent = 0 } in
      record {
        role = role;
        node = node;
        timers = ap (λ (t : Queues). t.timers) is ∙ (alike.timers ∙ sym (ap (λ (t : Queues). t.timers) left_is));
        next = ap (λ (t : Queues). t.next) is ∙ (ap number_after number ∙ sym (ap (λ (t : Queues). t.next) left_is));
        waiting =
            ap (λ (t : Queues). map waits_as t.waiting) is ∙ (map_push waits_as one.queues.waiting first ∙ ((λ i. alike.waiting i ++ (same i ∷ []))
            ∙ (sym (map_push waits_as other.queues.waiting second) ∙ sym (ap (λ (t : Queues). map waits_as t.waiting) left_is))));
        held = ap (λ (t : Queues). map held_as t.held) is ∙ (alike.held ∙ sym (ap (λ (t : Queues). map held_as t.held) left_is));
      }

  module _ (apart : AreDistinct one.queues.waiting) (also : AreDistinct other.queues.waiting) where
    -- after a datagram
    module _ (arrival : Arrival) (m : QueuesAfterMessage arrival one new) (n : QueuesAfterMessage arrival other left) where
      abbrev first : Option Beginning → Queues
      first begun = record (begun_with begun (waiting_on m.stays one.queues)) { held = held_with arrival.source arrival.octets m.answer one.queues.held }

      abbrev second : Option Beginning → Queues
      second begun = record (begun_with begun (waiting_on n.stays other.queues)) { held = held_with arrival.source arrival.octets n.answer other.queues.held }

      pending_alike : (x y : Option Beginning) → new.queues ≡ first x → left.queues ≡ second y → pending_in (first x).waiting ≡ pending_in (second y).waiting
      pending_alike x y p q =
          ap (λ (t : Queues). pending_in t.waiting) (sym p)
          ∙ (sym m.tied.pending ∙ (ap (λ (k : Node). k.pending) node ∙ (n.tied.pending ∙ ap (λ (t : Queues). pending_in t.waiting) q)))

      held_alike : (x y : Option Beginning) → new.queues ≡ first x → left.queues ≡ second y
          → map held_of (held_with arrival.source arrival.octets m.answer one.queues.held)
          ≡ map held_of (held_with arrival.source arrival.octets n.answer other.queues.held)
      held_alike x y p q = ap (λ (t : Queues). map held_of t.held) (sym p) ∙ (sym m.tied.held ∙ (ap (λ (k : Node). k.held) node ∙ (n.tied.held ∙ ap (λ (t : Queues). map held_of t.held) q)))

      left_with : (x y : Option Beginning) → new.queues ≡ first x → left.queues ≡ second y → (first x).timers ≡ (second y).timers
          → (first x).next ≡ (second y).next → map waits_as (first x).waiting ≡ map waits_as (second y).waiting → AreLeftAlike new left
      left_with x y p q timers next waiting = record {
        role = role;
        node = node;
        timers = ap (λ (t : Queues). t.timers) p ∙ (timers ∙ sym (ap (λ (t : Queues). t.timers) q));
        next = ap (λ (t : Queues). t.next) p ∙ (next ∙ sym (ap (λ (t : Queues). t.next) q));
        waiting = ap (λ (t : Queues). map waits_as t.waiting) p ∙ (waiting ∙ sym (ap (λ (t : Queues). map waits_as t.waiting) q));
        held =
            ap (λ (t : Queues). map held_as t.held) p
            ∙ (same_held arrival.source arrival.octets m.answer n.answer one.queues.held other.queues.held alike.held (held_alike x y p q)
            ∙ sym (ap (λ (t : Queues). map held_as t.held) q));
      }

      by_begun : (x y : Option Beginning) → IsNext x (waiting_on m.stays one.queues) → IsNext y (waiting_on n.stays other.queues) → IsNew x one
          → IsNew y other → new.queues ≡ first x → left.queues ≡ second y → AreLeftAlike new left
      by_begun None None i j v w p q =
          left_with None None p q alike.timers alike.next
          (same_filter m.stays n.stays one.queues.waiting other.queues.waiting alike.waiting apart also (pending_alike None None p q))
      by_begun None (Some b) i j v w p q =
          absurd (none_begun other.queues.next (filter n.stays other.queues.waiting) m.stays one.queues.waiting b apart
          (none_alike b other.queues.waiting one.queues.waiting (sym alike.waiting) w.other) j (sym (pending_alike None (Some b) p q)))
      by_begun (Some a) None i j v w p q =
          absurd (none_begun one.queues.next (filter m.stays one.queues.waiting) n.stays other.queues.waiting a also
          (none_alike a one.queues.waiting other.queues.waiting alike.waiting v.other) i (pending_alike (Some a) None p q))
      by_begun (Some a) (Some b) i j v w p q =
          let same =
          one_begun one.queues.waiting other.queues.waiting alike.waiting apart also one.queues.next other.queues.next m.stays n.stays a b
          (none_alike a one.queues.waiting other.queues.waiting alike.waiting v.other) i j (pending_alike (Some a) (Some b) p q) in
          let begun = same_begins one other a b alike.node v w same.number same.message in
          left_with (Some a) (Some b) p q alike.timers (ap number_after same.number)
          (map_push waits_as (filter m.stays one.queues.waiting) (begins a)
          ∙ ((λ i. same.others i ++ (begun i ∷ []))
          ∙ sym (map_push waits_as (filter n.stays other.queues.waiting) (begins b))))

      pub left_goes : AreLeftAlike new left
      left_goes = by_begun m.begun n.begun m.next n.next m.new_one n.new_one m.queues n.queues

    -- after a tick
    pub left_ticked : QueuesAfterTick one new → QueuesAfterTick other left → AreLeftAlike new left
    left_ticked m n =
        let t3 = one.queues.timers.t3 in
        let n3 = one.queues.timers.n3 in
        let hold = one.queues.timers.hold in
        let later : Waiting Purpose → Option (Waiting Purpose) = after_tick t3 n3 in
        let timers : other.queues.timers ≡ one.queues.timers = sym alike.timers in
        let queues : left.queues ≡ record other.queues {
          timers = one.queues.timers;
          waiting = filter_map later
              (filter n.stays other.queues.waiting);
          held = filter_map (held.after_tick hold) other.queues.held;
        } =
        n.queues ∙ (λ i. record other.queues {
          timers = timers i;
          waiting = filter_map (after_tick (timers i).t3 (timers i).n3) (filter n.stays other.queues.waiting);
          held = filter_map (held.after_tick (timers i).hold) other.queues.held;
        }) in
        let pending : pending_in (filter_map later (filter m.stays one.queues.waiting)) ≡ pending_in (filter_map later (filter n.stays other.queues.waiting)) =
        ap (λ (t : Queues). pending_in t.waiting) (sym m.queues) ∙ (sym m.tied.pending ∙ (ap (λ (k : Node). k.pending) node ∙ (n.tied.pending ∙ ap (λ (t : Queues). pending_in t.waiting) queues))) in
        record {
          role = role;
          node = node;
          timers = ap (λ (t : Queues). t.timers) m.queues ∙ sym (ap (λ (t : Queues). t.timers) queues);
          next = ap (λ (t : Queues). t.next) m.queues ∙ (alike.next ∙ sym (ap (λ (t : Queues). t.next) queues));
          waiting =
              ap (λ (t : Queues). map waits_as t.waiting) m.queues
              ∙ (same_staying later (numbered_later t3 n3) (λ w v form. ticked_form t3 n3 w ∙
              (ap (λ k. after_tick t3 n3 k) form ∙ sym (ticked_form t3 n3 v))) m.stays n.stays one.queues.waiting other.queues.waiting alike.waiting
              apart also pending
              ∙ sym (ap (λ (t : Queues). map waits_as t.waiting) queues));
          held =
              ap (λ (t : Queues). map held_as t.held) m.queues
              ∙ (by_forms (held.after_tick hold) (held.after_tick hold) held_as held_as held_as (held_form hold) one.queues.held
              ∙ (ap (λ k. map held_as (filter_map (held.after_tick hold) k)) alike.held
              ∙ (sym (by_forms (held.after_tick hold) (held.after_tick hold) held_as held_as held_as (held_form hold) other.queues.held)
              ∙ sym (ap (λ (t : Queues). map held_as t.held) queues))));
        }
