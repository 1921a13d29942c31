-- How often something is in a list.
use Rattle.std.proofs.Common.{◌≡◌, inl, inr, ⊎_elim, ℕ, suc, ◌+◌, ◌<◌, ◌≤◌, arith, List, [], ◌∷◌, ◌++◌, map, take, length, refl, sym, ◌∙◌, ap, subst, get_or}
use Rattle.std.proofs.Math.Seq.{take-suc}
use Rattle.std.proofs.lemmas.List.{map-append}
use Rattle.std.proofs.lemmas.Option.{same_Some}
use Rattle.gtp_values.specs.FiniteMap.{Among}
use Rattle.gtp_machine.specs.Laws.{AtMostOnce}
use Rattle.gtp_machine.specs.Node.{Arrival}
use Rattle.gtp_machine.specs.Spelling.{Datagram}
use Rattle.gtp_machine.specs.World.{By, other, side_of}
use Rattle.gtp_machine.proofs.Basics.FiniteMaps.{Among-one_more}
use Rattle.gtp_machine.proofs.Worlds.Safety.{always_made_once}
use Rattle.gtp_reliable.specs.Forgotten.{question_of}
use Rattle.gtp_reliable.specs.declared.held.Request.{Request}
use Rattle.gtp_gateway.specs.Tick.{asked_by, arrivals_of}
use Rattle.gtp_world.specs.Record.{oldest_first, WorldRecord, gateway_in}
use Rattle.gtp_world.specs.Views.{IsCount, IsMade, IsMadeOnce, as_it_came}
use Rattle.gtp_world.proofs.Lists.{among_oldest}
use Rattle.gtp_world.proofs.Standing.{gateway_stands}

count_yes : {X : Type 0} (x y : X) (ys : List X) (n : ℕ) → IsCount x ys n → y ≡ x → IsCount x (ys ++ (y ∷ [])) (n + 1)
count_yes x y [] n none is = inr (is, (n, none, refl))
count_yes x y (z ∷ ys) n (inl (apart, count)) is = inl (apart, count_yes x y ys n count is)
count_yes x y (z ∷ ys) n (inr (same, (m, count, more))) is = inr (same, (m + 1, count_yes x y ys m count is, ap (λ k. k + 1) more))

count_no : {X : Type 0} (x y : X) (ys : List X) (n : ℕ) → IsCount x ys n → (y ≡ x → ⊥) → IsCount x (ys ++ (y ∷ [])) n
count_no x y [] n none apart = inl (apart, none)
count_no x y (z ∷ ys) n (inl (other, count)) apart = inl (other, count_no x y ys n count apart)
count_no x y (z ∷ ys) n (inr (same, (m, count, more))) apart = inr (same, (m, count_no x y ys m count apart, more))

-- the requests so far, with the next
grown : (requests : List Request) (i : ℕ) (r : Request) → i < length requests → get_or requests i r ≡ r
    → arrivals_of (take i requests) ++ (asked_by (question_of r) ∷ []) ≡ arrivals_of (take (i + 1) requests)
grown requests i r within at =
    let next : suc i ≡ i + 1 = omega arith in
    let taken = take-suc requests i r within ∙ ap (λ k. take i requests ++ (k ∷ [])) at in
    sym (ap (map asked_by) (map-append question_of (take i requests) (r ∷ [])) ∙ map-append asked_by (map question_of (take i requests)) (question_of r ∷ []))
    ∙ ap arrivals_of (sym taken ∙ ap (λ n. take n requests) next)

pub one_more : (a : Arrival) (requests : List Request) (i : ℕ) (r : Request) (n : ℕ) → i < length requests → get_or requests i r ≡ r
    → IsCount a (arrivals_of (take i requests)) n → a ≡ asked_by (question_of r) → IsCount a (arrivals_of (take (i + 1) requests)) (n + 1)
one_more a requests i r n within at count is = subst (λ l. IsCount a l (n + 1)) (grown requests i r within at) (count_yes a (asked_by (question_of r)) (arrivals_of (take i requests)) n count (sym is))

pub none_more : (a : Arrival) (requests : List Request) (i : ℕ) (r : Request) (n : ℕ) → i < length requests → get_or requests i r ≡ r
    → IsCount a (arrivals_of (take i requests)) n → (a ≡ asked_by (question_of r) → ⊥) → IsCount a (arrivals_of (take (i + 1) requests)) n
none_more a requests i r n within at count apart =
    subst (λ l. IsCount a l n) (grown requests i r within at)
    (count_no a (asked_by (question_of r)) (arrivals_of (take i requests)) n count (λ is. apart (sym is)))

-- what is in no place is there no times
none_counted : {X : Type 0} (x : X) (xs : List X) (n : ℕ) → (Among x xs → ⊥) → IsCount x xs n → n ≡ 0
none_counted x [] n none count = count
none_counted x (y ∷ ys) n none (inl (apart, count)) = none_counted x ys n (λ has. none (inr has)) count
none_counted x (y ∷ ys) n none (inr (is, (m, count, more))) = absurd (none (inl (sym is)))

at_most_one : (x : Arrival) (xs : List Arrival) (n : ℕ) → AtMostOnce x xs → IsCount x xs n → n ≤ 1
at_most_one x [] n once none = omega (arith, none)
at_most_one x (y ∷ ys) n once (inl (apart, count)) = at_most_one x ys n once.1 count
at_most_one x (y ∷ ys) n once (inr (is, (m, count, more))) = let none = none_counted x ys m (once.0 is) count in omega (arith, none, more)

-- once in a list, and once in it the other way round
once_more : (x y : Arrival) (xs : List Arrival) → AtMostOnce x xs → (Among x xs → y ≡ x → ⊥) → AtMostOnce x (xs ++ (y ∷ []))
once_more x y [] once apart = (λ is none. none, tt)
once_more x y (z ∷ xs) once apart = (λ is has. ⊎_elim (once.0 is) (λ same. apart (inl (sym is)) (sym same)) (Among-one_more x y xs has), once_more x y xs once.1 (λ has. apart (inr has)))

once_oldest : (x : Arrival) (xs : List Arrival) → AtMostOnce x xs → AtMostOnce x (oldest_first xs)
once_oldest x [] once = tt
once_oldest x (y ∷ xs) once = once_more x y (oldest_first xs) (once_oldest x xs once.1) (λ has is. once.0 is (among_oldest x xs has))

-- where no delivery of a request was late, at most one context was made for it
pub made_once : (v : WorldRecord) (number count : ℕ) → IsMade v number count → IsMadeOnce v number count
made_once v number count made setup events r found timely =
    let at = other found.sent.role in
    let a = as_it_came found.sent in
    let same = same_Some made.found.sent found.sent (sym made.found.is ∙ found.is) in
    let gateway = gateway_stands setup v r.world r.stands at in
    let once = always_made_once setup.serving.config setup.packet.config setup.serving_counter setup.packet_counter events r.world r.run at a timely in
    let counts = subst (λ (d : By Datagram). IsCount (as_it_came d) (gateway_in v (other d.role)).made count) same made.counts in
    at_most_one a (gateway_in v at).made count (subst (λ l. AtMostOnce a l) (sym gateway.made) (once_oldest a (side_of r.world at).made once)) counts
