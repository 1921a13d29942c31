-- Pairs after a change: they stay apart, and a tick keeps and moves them.
use Rattle.std.proofs.Common.{◌≡◌, ℕ, zero, suc, ◌+◌, ◌<◌, ◌≤◌, ◌%◌, ◌^◌, Bool, true, false, cond, List, [], ◌∷◌, ◌++◌, length, map, take, drop}
use Rattle.std.proofs.Common.{get_or, insert, remove, Option, Some, None, refl, sym, ap, subst, ◌∙◌, arith, ◌⊎◌, inl, inr}
use Rattle.std.specs.Prelude.{filter, is_some, unwrap_or, nat_lt}
use Rattle.std.specs.List.{filter_map, cons_option}
use Rattle.std.proofs.lemmas.List.{map_push, length-map}
use Rattle.gtp_values.specs.declared.address.Endpoint.{Endpoint}
use Rattle.gtp_reliable.specs.declared.held.Request.{Request}
use Rattle.gtp_reliable.specs.declared.held_answer.Pair.{Pair}
use Rattle.gtp_reliable.specs.Held.{HeldPair, just_kept, after_tick, Question, forgotten, IsFor, IsHeld, HasAnswer, AreApart}
use Rattle.gtp_reliable.specs.Index.{after, asked, question, questions, question_at, named_at, IsIndex, IsGap}
use Rattle.gtp_reliable.specs.Aging.{seen}
use Rattle.gtp_reliable.specs.Forgotten.{question_of}
use Rattle.gtp_reliable.proofs.Halving.{same_count}
use Rattle.gtp_reliable.proofs.Index.{pushed, popped_front, not_held}
use Rattle.gtp_reliable.proofs.Lists.{filter_map_some, stay_and_pass, fewer_filter}

-- ---- one more

held_push : (s : Endpoint) (r : List ℕ) (ps : List HeldPair) (p : HeldPair) → IsHeld s r (ps ++ p ∷ []) → IsHeld s r ps ⊎ IsFor s r p
held_push s r [] p (inl f) = inr f
held_push s r [] p (inr n) = absurd n
held_push s r (q ∷ qs) p (inl f) = inl (inl f)
held_push s r (q ∷ qs) p (inr h) = elim (held_push s r qs p h) [ inl g ↦ inl (inr g) | inr f ↦ inr f ]

pub apart_push : (ps : List HeldPair) (s : Endpoint) (r a : List ℕ) → AreApart ps → (IsHeld s r ps → ⊥) → AreApart (ps ++ just_kept s r a ∷ [])
apart_push [] s r a d free = (λ n. n, tt)
apart_push (q ∷ qs) s r a d free =
    (λ h. elim (held_push q.source q.request qs (just_kept s r a) h) [ inl g ↦ d.0 g | inr f ↦ free (inl (sym f.0, sym f.1)) ], apart_push qs s r a d.1 (λ h. free (inr h)))

-- ---- some of them

held_cons : (s : Endpoint) (r : List ℕ) (q : HeldPair) (ps qs : List HeldPair) (b : Bool) → (IsHeld s r ps → IsHeld s r qs) → IsHeld s r (cond b (q ∷ ps) ps) → IsHeld s r (q ∷ qs)
held_cons s r q ps qs true f (inl g) = inl g
held_cons s r q ps qs true f (inr h) = inr (f h)
held_cons s r q ps qs false f h = inr (f h)

held_filter : (s : Endpoint) (r : List ℕ) (p : HeldPair → Bool) (ps : List HeldPair) → IsHeld s r (filter p ps) → IsHeld s r ps
held_filter s r p [] h = h
held_filter s r p (q ∷ qs) h = held_cons s r q (filter p qs) qs (p q) (held_filter s r p qs) h

apart_cons : (q : HeldPair) (ps : List HeldPair) (b : Bool) → (IsHeld q.source q.request ps → ⊥) → AreApart ps → AreApart (cond b (q ∷ ps) ps)
apart_cons q ps true h d = (h, d)
apart_cons q ps false h d = d

apart_filter : (p : HeldPair → Bool) (ps : List HeldPair) → AreApart ps → AreApart (filter p ps)
apart_filter p [] d = tt
apart_filter p (q ∷ qs) d = apart_cons q (filter p qs) (p q) (λ h. d.0 (held_filter q.source q.request p qs h)) (apart_filter p qs d.1)

-- ---- each of them for its request

record SameRequest (p q : HeldPair) : Type 0 where
  source : p.source ≡ q.source
  request : p.request ≡ q.request

held_map : (s : Endpoint) (r : List ℕ) (f : HeldPair → HeldPair) (ps : List HeldPair) → ((p : HeldPair) → SameRequest (f p) p) → IsHeld s r (map f ps) → IsHeld s r ps
held_map s r f [] same h = h
held_map s r f (q ∷ qs) same (inl g) = inl (sym (same q).source ∙ g.0, sym (same q).request ∙ g.1)
held_map s r f (q ∷ qs) same (inr h) = inr (held_map s r f qs same h)

abbrev passed : ℕ → HeldPair → HeldPair
passed hold p = unwrap_or (after_tick hold p) p

abbrev stays : ℕ → HeldPair → Bool
stays hold p = is_some (after_tick hold p)

passed_same : (hold : ℕ) (p : HeldPair) → SameRequest (passed hold p) p
passed_same hold p = by_test (nat_lt (p.age + 1) hold) where
  by_test : (b : Bool) → SameRequest (unwrap_or (cond b (Some (record p { age = p.age + 1 })) None) p) p
  by_test true = record { source = refl; request = refl }
  by_test false = record { source = refl; request = refl }

apart_map : (f : HeldPair → HeldPair) (ps : List HeldPair) → ((p : HeldPair) → SameRequest (f p) p) → AreApart ps → AreApart (map f ps)
apart_map f [] same d = tt
apart_map f (q ∷ qs) same d = (
  λ h. d.0 (subst (λ (s : Endpoint). IsHeld s q.request qs) (same q).source
      (subst (λ (r : List ℕ). IsHeld (f q).source r qs) (same q).request (held_map (f q).source (f q).request f qs same h))),
  apart_map f qs same d.1,
)

-- after a tick there are no more of them, and they stay apart
pub ticked_count : (hold : ℕ) (ps : List HeldPair) → length (filter_map (after_tick hold) ps) ≤ length ps
ticked_count hold ps =
    omega (arith, ap length (stay_and_pass (after_tick hold) ps), length-map (filter (stays hold) ps) (passed hold), fewer_filter (stays hold) ps)

pub ticked_apart : (hold : ℕ) (ps : List HeldPair) → AreApart ps → AreApart (filter_map (after_tick hold) ps)
ticked_apart hold ps d =
    subst AreApart (stay_and_pass (after_tick hold) ps) (apart_map (passed hold) (filter (stays hold) ps) (passed_same hold) (apart_filter (stays hold) ps d))

-- ---- the index of a queue after a change

pub pushed_pair : (first : ℕ) (index : List ℕ) (ps : List Pair) → IsIndex first index (questions ps) → (p : Pair) (i n : ℕ)
    → IsGap first index (questions ps) (asked p) i → after first n ≡ length ps → IsIndex first (insert index i n) (questions (ps ++ p ∷ []))
pushed_pair first index ps is p i n gap back =
    subst (IsIndex first (insert index i n)) (sym (map_push asked ps p)) (pushed first index (questions ps) is (asked p) i n gap (back ∙ sym (same_count ps)))

drop_asked : (ps : List Pair) → drop 1 (questions ps) ≡ questions (drop 1 ps)
drop_asked [] = refl
drop_asked (p ∷ ps) = refl

pub popped_pair : (first : ℕ) (index : List ℕ) (ps : List Pair) → 0 < length ps → IsIndex first index (questions ps) → first < 2 ^ 64 → (i : ℕ) → i < length index
    → named_at first index (questions ps) i ≡ question_at (questions ps) 0 → IsIndex ((first + 1) % 2 ^ 64) (remove index i) (questions (drop 1 ps))
popped_pair first index ps some is low i within found =
    subst (IsIndex ((first + 1) % 2 ^ 64) (remove index i)) (drop_asked ps) (popped_front first index (questions ps) (omega (arith, same_count ps, some)) is low i within found)

-- ---- looking up

same_question : (a b : Endpoint) (x y : List ℕ) → a ≡ b → x ≡ y → question a x ≡ question b y
same_question a b x y e f = ap (λ n. question n x) e ∙ ap (question b) f

-- the pair at a place of the queue has its answer
pub answer_at : (now : ℕ) (s : Endpoint) (r : List ℕ) (ps : List Pair) (k : ℕ) (p : Pair) (a : List ℕ) → k < length ps → p ≡ get_or ps k p
    → question_at (questions ps) k ≡ question s r → a ≡ p.answer.items → HasAnswer s r a (map (seen now) ps)
answer_at now s r [] k p a lt is same gives = absurd (omega arith)
answer_at now s r (q ∷ qs) zero p a lt is same gives =
    inl ((ap (λ (x : Question). x.source) same, ap (λ (x : Question). x.octets) same), sym (ap (λ (x : Pair). x.answer.items) is) ∙ sym gives)
answer_at now s r (q ∷ qs) (suc k) p a lt is same gives = inr (answer_at now s r qs k p a (omega arith) is same gives)

-- a pair at a place of the queue is held, and one that is held has a place
pub held_at : (now : ℕ) (s : Endpoint) (r : List ℕ) (ps : List Pair) (k : ℕ) → k < length ps → question_at (questions ps) k ≡ question s r → IsHeld s r (map (seen now) ps)
held_at now s r [] k lt same = absurd (omega arith)
held_at now s r (q ∷ qs) zero lt same = inl (ap (λ (x : Question). x.source) same, ap (λ (x : Question). x.octets) same)
held_at now s r (q ∷ qs) (suc k) lt same = inr (held_at now s r qs k (omega arith) same)

pub place_of_held : (now : ℕ) (s : Endpoint) (r : List ℕ) (ps : List Pair) → IsHeld s r (map (seen now) ps) → (k : ℕ) × (k < length ps) × (question_at (questions ps) k ≡ question s r)
place_of_held now s r [] h = absurd h
place_of_held now s r (q ∷ qs) (inl f) = (0, omega arith, same_question q.source s q.request.items r f.0 f.1)
place_of_held now s r (q ∷ qs) (inr h) = let at = place_of_held now s r qs h in (suc at.0, omega (arith, at.1), at.2)

-- what the index doesn't name isn't held
pub none_held : (now first : ℕ) (index : List ℕ) (ps : List Pair) (s : Endpoint) (r : List ℕ) (i : ℕ) → IsIndex first index (questions ps)
    → IsGap first index (questions ps) (question s r) i → IsHeld s r (map (seen now) ps) → ⊥
none_held now first index ps s r i is gap h =
    let at = place_of_held now s r ps h in
    not_held first index (questions ps) (question s r) i is gap at.0 (omega (arith, same_count ps, at.1)) at.2

pub held_of : (s : Endpoint) (r a : List ℕ) (ps : List HeldPair) → HasAnswer s r a ps → IsHeld s r ps
held_of s r a [] h = h
held_of s r a (q ∷ qs) (inl f) = inl f.0
held_of s r a (q ∷ qs) (inr h) = inr (held_of s r a qs h)

-- a request has one answer
pub one_answer : (s : Endpoint) (r a b : List ℕ) (ps : List HeldPair) → AreApart ps → HasAnswer s r a ps → HasAnswer s r b ps → a ≡ b
one_answer s r a b [] d h g = absurd h
one_answer s r a b (q ∷ qs) d (inl h) (inl g) = sym h.1 ∙ g.1
one_answer s r a b (q ∷ qs) d (inl h) (inr g) = absurd (d.0 (subst (λ (x : Endpoint). IsHeld x q.request qs) (sym h.0.0) (subst (λ (x : List ℕ). IsHeld s x qs) (sym h.0.1) (held_of s r b qs g))))
one_answer s r a b (q ∷ qs) d (inr h) (inl g) = absurd (d.0 (subst (λ (x : Endpoint). IsHeld x q.request qs) (sym g.0.0) (subst (λ (x : List ℕ). IsHeld s x qs) (sym g.0.1) (held_of s r a qs h))))
one_answer s r a b (q ∷ qs) d (inr h) (inr g) = one_answer s r a b qs d.1 h g

-- what is kept is seen as a pair that was just kept
pub kept_seen : (now : ℕ) (ps : List Pair) (p : Pair) → now < 2 ^ 64 → p.kept ≡ now → map (seen now) (ps ++ p ∷ []) ≡ map (seen now) ps ++ just_kept p.source p.request.items p.answer.items ∷ []
kept_seen now ps p small just = map_push (seen now) ps p ∙ ap (λ (h : HeldPair). map (seen now) ps ++ h ∷ []) new
  where
    none : after p.kept now ≡ 0
    none = omega (arith, just, small)

    new : seen now p ≡ just_kept p.source p.request.items p.answer.items
    new = λ i. record { source = p.source; request = p.request.items; answer = p.answer.items; age = none i }

-- ---- what is forgotten

stays_or : (b : Bool) (p : HeldPair) (q : Question) → is_some (cond b (Some p) None) ≡ false → cond b None (Some q) ≡ Some q
stays_or true p q h = absurd cc
stays_or false p q h = refl

forgotten_is : (hold : ℕ) (p : HeldPair) → is_some (after_tick hold p) ≡ false → forgotten hold p ≡ Some (question p.source p.request)
forgotten_is hold p h = stays_or (nat_lt (p.age + 1) hold) (record p { age = p.age + 1 }) (question p.source p.request) h

filter_map_map : {X Y Z : Type 0} (h : Y → Option Z) (f : X → Y) (xs : List X) → filter_map h (map f xs) ≡ filter_map (λ x. h (f x)) xs
filter_map_map h f [] = refl
filter_map_map h f (x ∷ xs) = ap (cons_option (h (f x))) (filter_map_map h f xs)

filter_map_seen : (now hold : ℕ) (ps : List Pair) (i : ℕ) (p : Pair) (q : Question) → i < length ps → forgotten hold (seen now (get_or ps i p)) ≡ Some q
    → filter_map (forgotten hold) (map (seen now) (take (i + 1) ps)) ≡ filter_map (forgotten hold) (map (seen now) (take i ps)) ++ q ∷ []
filter_map_seen now hold ps i p q lt e =
    filter_map_map (forgotten hold) (seen now) (take (i + 1) ps)
    ∙ (filter_map_some (λ (x : Pair). forgotten hold (seen now x)) ps i p q lt e
    ∙ ap (λ (qs : List Question). qs ++ q ∷ []) (sym (filter_map_map (forgotten hold) (seen now) (take i ps))))

-- the loop over the pairs that are due, from the front
pub forgotten_more : (now hold : ℕ) (ps : List Pair) (i : ℕ) (p : Pair) (so_far more : List Request) (r : Request)
    → map question_of so_far ≡ filter_map (forgotten hold) (map (seen now) (take i ps)) → i < length ps → p ≡ get_or ps i p
    → is_some (after_tick hold (seen now p)) ≡ false
    → more ≡ so_far ++ r ∷ [] → r.source ≡ p.source → r.octets.items ≡ p.request.items → map question_of more ≡ filter_map (forgotten hold) (map (seen now) (take (i + 1) ps))
forgotten_more now hold ps i p so_far more r before lt is gone pushed s o =
    ap (map question_of) pushed
    ∙ (map_push question_of so_far r
    ∙ (ap (λ (ms : List Question). ms ++ question_of r ∷ []) before
    ∙ (ap (λ (m : Question). filter_map (forgotten hold) (map (seen now) (take i ps)) ++ m ∷ []) (same_question r.source p.source r.octets.items p.request.items s o)
    ∙ sym (filter_map_seen now hold ps i p (question p.source p.request.items) lt (ap (λ (q : Pair). forgotten hold (seen now q)) (sym is) ∙ forgotten_is hold (seen now p) gone)))))
