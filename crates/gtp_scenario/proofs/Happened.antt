-- What happens, one event after the other.
use Rattle.std.proofs.Common.{◌≡◌, ◌≤◌, ◌+◌, ℕ, zero, suc, List, [], ◌∷◌, ◌++◌, map, length, take, drop, Option, Some, None, refl, sym, ap, subst, ◌∙◌, arith}
use Rattle.std.proofs.lemmas.Grind.{flat_map-append}
use Rattle.std.proofs.lemmas.List.{take-append-drop}
use Rattle.std.specs.Prelude.{slice_get}
use Rattle.std.specs.List.{flat_map}
use Rattle.gtp_machine.specs.World.{Event, Deliver}
use Rattle.gtp_world.specs.Runs.{Setup}
use Rattle.gtp_scenario.specs.Entries.{Entry, events_in}
use Rattle.gtp_scenario.specs.Named.{delivery}
use Rattle.gtp_scenario.specs.Past.{Past, just_begun, Happens, Happen, DeliversFirst}
use Rattle.gtp_scenario.specs.Scenarios.{Follow, HasHappened}

-- more events happen
pub happen_on : (old : Past) (events : List Event) (mid : Past) (more : List Event) (new : Past) → Happen old events mid → Happen mid more new → Happen old (events ++ more) new
happen_on old [] mid more new is rest = subst (λ (p : Past). Happen p more new) is rest
happen_on old (event ∷ events) mid more new (next, first, later) rest = (next, first, happen_on next events mid more new later rest)

pub happen_one : (old : Past) (event : Event) (new : Past) → Happens old event new → Happen old (event ∷ []) new
happen_one old event new happens = (new, happens, refl)

-- one more is delivered
pub delivers_on : (old : Past) (numbers : List ℕ) (mid : Past) (number : ℕ) (others : List ℕ) (new : Past) → DeliversFirst old numbers mid
    → mid.waiting ≡ number ∷ others → Happens mid (Deliver number) new → DeliversFirst old (numbers ++ (number ∷ [])) new
delivers_on old [] mid number others new is first happens =
    subst (λ (p : Past). DeliversFirst p (number ∷ []) new) is (others, first, new, happens, refl)
delivers_on old (n ∷ numbers) mid number others new (rest, at, next, comes, later) first happens =
    (rest, at, next, comes, delivers_on next numbers mid number others new later first happens)

pub delivers_happen : (old : Past) (numbers : List ℕ) (new : Past) → DeliversFirst old numbers new → Happen old (map Deliver numbers) new
delivers_happen old [] new is = is
delivers_happen old (n ∷ numbers) new (rest, at, next, comes, later) = (next, comes, delivers_happen next numbers new later)

-- the entries of deliveries have as many events, and are these
pub delivered_events : (expect : Option (List ℕ)) (numbers : List ℕ) → flat_map events_in (map (delivery expect) numbers) ≡ map Deliver numbers
delivered_events expect [] = refl
delivered_events expect (n ∷ numbers) = ap (λ es. Deliver n ∷ es) (delivered_events expect numbers)

-- entries happen, and then others
pub follow_on : (old : Past) (xs ys : List Entry) (mid new : Past) → Follow old xs mid → Follow mid ys new → Follow old (xs ++ ys) new
follow_on old xs ys mid new first later =
    subst (λ (es : List Event). Happen old es new) (sym (flat_map-append events_in xs ys)) (happen_on old (flat_map events_in xs) mid (flat_map events_in ys) new first later)

-- what happened before, and the entries that are left
pub reaches : (setup : Setup) (f : ℕ) (before : List Entry) (past now : Past) → HasHappened setup (take f before) past → Follow past (drop f before) now → HasHappened setup before now
reaches setup f before past now happened rest =
    subst (λ (es : List Entry). HasHappened setup es now) (take-append-drop f before) (follow_on (just_begun setup) (take f before) (drop f before) past now happened rest)

-- so many of the entries that are left, and then of others
parted : (f k n : ℕ) (before es : List Entry) → n ≡ f + k → f ≤ length before → take n (before ++ es) ≡ take f before ++ take k (drop f before ++ es)
parted zero k n before es is within = ap (λ m. take m (before ++ es)) (let e : n ≡ k = omega arith in e)
parted (suc f) k n [] es is within = absurd (let no : suc f ≤ 0 = within in omega arith)
parted (suc f) k zero (b ∷ before) es is within = absurd (omega arith)
parted (suc f) k (suc n) (b ∷ before) es is within = ap (λ l. b ∷ l) (parted f k n before es (omega arith) (let w : suc f ≤ suc (length before) = within in omega arith))

pub happened_on : (setup : Setup) (f k : ℕ) (before es : List Entry) (past new : Past) → f ≤ length before → HasHappened setup (take f before) past
    → Follow past (take k (drop f before ++ es)) new → HasHappened setup (take (f + k) (before ++ es)) new
happened_on setup f k before es past new within happened more =
    subst (λ (l : List Entry). HasHappened setup l new) (sym (parted f k (f + k) before es refl within))
    (follow_on (just_begun setup) (take f before) (take k (drop f before ++ es)) past new happened more)

-- the first of those that wait, and that none does
pub first_is : (n : ℕ) (ns : List ℕ) → Some n ≡ slice_get ns 0 → ns ≡ n ∷ drop 1 ns
first_is n [] h = absurd cc
first_is n (m ∷ ns) h = cc

pub none_is : (ns : List ℕ) → None ≡ slice_get ns 0 → ns ≡ []
none_is [] h = refl
none_is (m ∷ ns) h = absurd cc

pub not_none : (n : ℕ) (ns : List ℕ) → Some n ≡ slice_get ns 0 → ns ≡ [] → ⊥
not_none n ns h none = (let e : n ∷ drop 1 ns ≡ [] = sym (first_is n ns h) ∙ none in cc)
