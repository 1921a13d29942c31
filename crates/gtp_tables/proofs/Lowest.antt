-- The lowest places that are free, found by marks and in the first window.
use Rattle.std.proofs.Common.{◌≡◌, ◌∙◌, ℕ, ◌+◌, ◌<◌, ◌≤◌, Bool, true, false, List, length, take, Option, Some, None, min, get_or, refl, sym, ap, subst, arith}
use Rattle.std.specs.Prelude.{◌||◌, ◌==◌, not, replicate, is_none, IfSome}
use Rattle.std.specs.List.{list_any}
use Rattle.std.specs.Option.{option_map}
use Rattle.std.specs.FinMap.{values}
use Rattle.std.proofs.lemmas.List.{take_all, get_or-replicate}
use Rattle.std.proofs.lemmas.List.Folds.{list_any_more}
use Rattle.gtp_tables.specs.declared.context.Session.{Session}
use Rattle.gtp_tables.specs.Contexts.{Contexts, seen, takes}
use Rattle.gtp_tables.specs.Free.{Asked, Pools, IpVersion, V4, V6, count_of, address_at, asks_for, HasAddress, IsLowestPart}
use Rattle.gtp_tables.specs.Lowest.{IsLowest, IsFirstFree, IsLowestPlace, is_marked, is_taken}
use Rattle.gtp_tables.proofs.Seen.{address_taken, address_free}

-- the marks of a window are of the places that are taken
abbrev pub AreMarked : Bool → IpVersion → Pools → List Session → List ℕ → Type 0
AreMarked restarted version pools sessions marks = (p : ℕ) → p < count_of pools version → is_marked marks p ≡ is_taken restarted version pools sessions p

-- what is taken alike has one lowest place that is free
pub taken_alike : (count : ℕ) (taken other : ℕ → Bool) → ((p : ℕ) → p < count → taken p ≡ other p) → (found : Option ℕ) → IsFirstFree count taken found → IsFirstFree count other found
taken_alike count taken other alike None all = λ p lt. sym (alike p lt) ∙ all p lt
taken_alike count taken other alike (Some place) is = record {
  within = is.within;
  free = sym (alike place is.within) ∙ is.free;
  lower = λ p lt. sym (alike p (omega (arith, lt, is.within))) ∙ is.lower p lt;
}

-- what is found among the first places is the lowest of all, where something is found or there are no more
pub first_of_all : (count most : ℕ) (taken : ℕ → Bool) (found : Option ℕ) → (is_none found ≡ true → count ≤ most) → IsFirstFree (min count most) taken found → IsFirstFree count taken found
first_of_all count most taken None no_more all = λ p lt. all p (omega (arith, lt, no_more refl))
first_of_all count most taken (Some place) no_more is = record { within = omega (arith, is.within); free = is.free; lower = is.lower }

-- what is found in the first window, as a place of the pool
pub in_front : (restarted : Bool) (version : IpVersion) (pools front : Pools) (sessions : List Session)
    → count_of front version ≡ min (count_of pools version) 1024 → ((p : ℕ) → address_at front version p ≡ address_at pools version p)
    → (found : Option ℕ) → IsLowestPlace restarted version front sessions found
    → IsFirstFree (min (count_of pools version) 1024) (is_taken restarted version pools sessions) found
in_front restarted version pools front sessions count places found is =
    subst (λ (n : ℕ). IsFirstFree n (is_taken restarted version pools sessions) found) count
    (taken_alike (count_of front version) (is_taken restarted version front sessions) (is_taken restarted version pools sessions)
    (λ p lt. ap (λ a. list_any (takes restarted version a) sessions) (places p)) found is)

-- no place is marked at first
pub none_marked : (p : ℕ) → p < 1024 → is_marked (replicate 1024 0) p ≡ false
none_marked p lt = ap (λ mark. not (mark == 0)) (get_or-replicate 1024 p 0 0 lt)

-- one more session has its place marked
pub one_more_marked : (restarted : Bool) (version : IpVersion) (pools : Pools) (sessions : List Session) (k : ℕ) (session : Session) (marks more : List ℕ)
    → k < length sessions → session ≡ get_or sessions k session → AreMarked restarted version pools (take k sessions) marks
    → ((p : ℕ) → p < count_of pools version → is_marked more p ≡ (is_marked marks p || takes restarted version (address_at pools version p) session))
    → AreMarked restarted version pools (take (k + 1) sessions) more
one_more_marked restarted version pools sessions k session marks more within is so_far step p lt =
    let test : Session → Bool = takes restarted version (address_at pools version p) in
    step p lt
    ∙ (ap (λ (b : Bool). b || test session) (so_far p lt)
    ∙ (ap (λ (s : Session). list_any test (take k sessions) || test s) is
    ∙ sym (list_any_more test sessions k session within)))

-- the lowest place that is not marked, once all sessions have theirs marked
pub found_by_marks : (restarted : Bool) (version : IpVersion) (pools : Pools) (sessions : List Session) (k : ℕ) (marks : List ℕ) → length sessions ≤ k
    → AreMarked restarted version pools (take k sessions) marks → (found : Option ℕ) → IsFirstFree (count_of pools version) (is_marked marks) found
    → IsLowestPlace restarted version pools sessions found
found_by_marks restarted version pools sessions k marks all marked found is =
    taken_alike (count_of pools version) (is_marked marks) (is_taken restarted version pools sessions)
    (subst (λ (some : List Session). AreMarked restarted version pools some marks) (take_all k sessions all) marked) found is

-- what holds of each version
pub of_both : (P : IpVersion → Type 0) → P V4 → P V6 → (version : IpVersion) → P version
of_both P v4 v6 V4 = v4
of_both P v4 v6 V6 = v6

-- ---- the address with the lowest place

-- a place that is found is one of the pool
pub found_within : (restarted : Bool) (version : IpVersion) (pools : Pools) (asked : Asked) (sessions : List Session) (found : Option ℕ)
    → (asks_for asked version ≡ true → IsLowestPlace restarted version pools sessions found) → (asks_for asked version ≡ false → found ≡ None)
    → IfSome found (λ place. place < count_of pools version)
found_within restarted version pools asked sessions None lowest unasked = tt
found_within restarted version pools asked sessions (Some place) lowest unasked = by (asks_for asked version) lowest unasked
  where
    by : (asks : Bool) → (asks ≡ true → IsLowest (count_of pools version) (is_taken restarted version pools sessions) place) → (asks ≡ false → Some place ≡ None) → place < count_of pools version
    by true lowest unasked = (lowest refl).within
    by false lowest unasked = let none : Some place ≡ None = unasked refl in cc

-- the address with the lowest place that is free is the lowest that no session has
pub lowest_part : (restarted : Bool) (version : IpVersion) (c left : Contexts) → seen restarted c ≡ left → (pools : Pools) (asked : Asked) (sessions : List Session)
    → ((test : Session → Bool) → list_any test sessions ≡ list_any test (values c.sessions)) → (found : Option ℕ)
    → (asks_for asked version ≡ true → IsLowestPlace restarted version pools sessions found) → (asks_for asked version ≡ false → found ≡ None)
    → (part : Option (List ℕ)) → part ≡ option_map (address_at pools version) found → IsLowestPart left.sessions pools asked version part
lowest_part restarted version c left is_left pools asked sessions any found lowest unasked part is_part =
    subst (λ (k : Contexts). IsLowestPart k.sessions pools asked version part) is_left
    (subst (λ (o : Option (List ℕ)). IsLowestPart (seen restarted c).sessions pools asked version o) (sym is_part)
    (by (asks_for asked version) refl found lowest unasked))
  where
    has : (p : ℕ) → is_taken restarted version pools sessions p ≡ true → HasAddress version (seen restarted c).sessions (address_at pools version p)
    has p is = address_taken restarted version c (address_at pools version p) (sym (any (takes restarted version (address_at pools version p))) ∙ is)

    by : (asks : Bool) → asks_for asked version ≡ asks → (o : Option ℕ) → (asks ≡ true → IsLowestPlace restarted version pools sessions o)
        → (asks ≡ false → o ≡ None) → IsLowestPart (seen restarted c).sessions pools asked version (option_map (address_at pools version) o)
    by true is None lowest unasked = λ _ p lt. has p (lowest refl p lt)
    by true is (Some place) lowest unasked = let at = lowest refl in (
      is,
      record {
        place = place;
        in_pool = at.within;
        is = refl;
        unused = address_free restarted version c (address_at pools version place) (sym (any (takes restarted version (address_at pools version place))) ∙ at.free);
        lower = λ p lt. has p (at.lower p lt);
      },
    )
    by false is None lowest unasked = λ asks. let no : true ≡ false = sym asks ∙ is in cc
    by false is (Some place) lowest unasked = let none : Some place ≡ None = unasked refl in cc
