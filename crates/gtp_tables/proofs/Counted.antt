-- Places that are counted, and sessions that are counted alike.
use Rattle.std.proofs.Common.{◌≡◌, ◌∙◌, ℕ, ◌+◌, ◌-◌, ◌<◌, ◌≤◌, ◌^◌, suc, inl, inr, Bool, true, false, cond, not, List, [], ◌∷◌, ◌++◌, length, map}
use Rattle.std.proofs.Common.{Option, Some, None, nat_eq, zero, append_assoc, append-nil, refl, sym, ap, subst, arith}
use Rattle.std.specs.Prelude.{filter, slice_index, slice_set, ◌==◌}
use Rattle.std.proofs.lemmas.Bool.{cases_eq, eq-eqb, ne_eqb, eqb-true}
use Rattle.std.proofs.lemmas.List.{get_or-set_same, get_or-set_other}
use Rattle.std.proofs.lemmas.List.Sums.{length-filter, count_by-le-length}
use Rattle.std.proofs.Math.ListN.{length-set}
use Rattle.gtp_tables.specs.declared.context.Session.{Session}
use Rattle.gtp_tables.specs.Contexts.{takes}
use Rattle.gtp_tables.specs.Free.{Pools, IpVersion, V4, V6, count_of, address_at}
use Rattle.gtp_tables.specs.declared.pool_places.PoolPlaces.{PoolPlaces}
use Rattle.gtp_tables.specs.Lowest.{IsFirstFree, IsLowestPlace, is_marked, is_taken}
use Rattle.gtp_tables.specs.PoolPlaces.{users_of, IsCounted, AreCounted, AreCountedIn, counts_in}
use Rattle.std.specs.FinMap.{get, insert, remove, values}
use Rattle.gtp_values.specs.FiniteMap.{FiniteMap}
use Rattle.gtp_tables.proofs.Alike.{joined, values_parted, values_inserted, AreAlike, one_if, counted_more, moved}
use Rattle.gtp_tables.proofs.Lowest.{taken_alike}
use Rattle.gtp_tables.proofs.Ordered.{is_more, any_by_count}

-- the count at one place changes
written : (counts : List ℕ) (place n p : ℕ) → place < length counts → slice_index (slice_set counts place n) p ≡ cond (nat_eq p place) n (slice_index counts p)
written counts place n p lt = elim (cases_eq p place) [
  | inl is ↦ ap (slice_index (slice_set counts place n)) is ∙ (get_or-set_same counts place n 0 lt ∙ sym (ap (λ (b : Bool). cond b n (slice_index counts p)) (eq-eqb p place is)))
  | inr other ↦ get_or-set_other counts place p n 0 other ∙ sym (ap (λ (b : Bool). cond b n (slice_index counts p)) (ne_eqb p place other))
]

module _ (pools : Pools) (version : IpVersion) (session : Session) (others : List Session) (counts : List ℕ) where
  abbrev takes_at : ℕ → Bool
  takes_at p = takes false version (address_at pools version p) session

  -- no more users than sessions
  users_fit : (place : ℕ) → users_of pools version place others ≤ length others
  users_fit place = let test : Session → Bool = takes false version (address_at pools version place) in omega (arith, length-filter test others, count_by-le-length test others)

  -- one more user does not pass the greatest number
  pub few : (place : ℕ) → IsCounted pools version others counts → place < count_of pools version → length others + 1 < 2 ^ 64 → slice_index counts place + 1 < 2 ^ 64
  few place is lt fits = omega (arith, is.counted place lt, users_fit place, fits)

  -- one session more is counted at its place
  pub noted : (place : ℕ) → place < count_of pools version → ((p : ℕ) → p < count_of pools version → takes_at p ≡ nat_eq p place)
      → IsCounted pools version others counts → IsCounted pools version (session ∷ others) (slice_set counts place (slice_index counts place + 1))
  noted place lt at is = record {
    long = length-set counts place (slice_index counts place + 1) ∙ is.long;
    counted =
        λ p p_in. written counts place (slice_index counts place + 1) p (omega (arith, lt, is.long))
        ∙ (by p p_in (nat_eq p place) refl ∙ sym (counted_more (takes false version (address_at pools version p)) session others));
  }
    where
      by : (p : ℕ) → p < count_of pools version → (b : Bool) → nat_eq p place ≡ b → cond b (slice_index counts place + 1) (slice_index counts p) ≡ one_if (takes_at p) (users_of pools version p others)
      by p p_in true here =
          let same : p ≡ place = eqb-true p place here in
          rw (at p p_in ∙ here) (ap (λ (k : ℕ). slice_index counts k + 1) (sym same) ∙ (ap (λ (n : ℕ). n + 1) (is.counted p p_in) ∙ omega arith))
      by p p_in false there = rw (at p p_in ∙ there) (is.counted p p_in)

  -- a place that a session has is counted
  pub counted_there : (place : ℕ) → place < count_of pools version → ((p : ℕ) → p < count_of pools version → takes_at p ≡ nat_eq p place)
      → IsCounted pools version (session ∷ others) counts → slice_index counts place ≡ suc (users_of pools version place others)
  counted_there place lt at is =
      is.counted place lt ∙ (counted_more (takes false version (address_at pools version place)) session others
      ∙ (ap (λ (b : Bool). one_if b (users_of pools version place others)) (at place lt ∙ eq-eqb place place refl)))

  -- a session is counted no more at its place
  pub forgotten : (place : ℕ) → place < count_of pools version → ((p : ℕ) → p < count_of pools version → takes_at p ≡ nat_eq p place)
      → IsCounted pools version (session ∷ others) counts → IsCounted pools version others (slice_set counts place (slice_index counts place - 1))
  forgotten place lt at is = record {
    long = length-set counts place (slice_index counts place - 1) ∙ is.long;
    counted = λ p p_in. written counts place (slice_index counts place - 1) p (omega (arith, lt, is.long)) ∙ by p p_in (nat_eq p place) refl;
  }
    where
      by : (p : ℕ) → p < count_of pools version → (b : Bool) → nat_eq p place ≡ b → cond b (slice_index counts place - 1) (slice_index counts p) ≡ users_of pools version p others
      by p p_in true here =
          let same : p ≡ place = eqb-true p place here in
          let there = counted_there place lt at is in
          let users : users_of pools version place others ≡ users_of pools version p others = ap (λ (k : ℕ). users_of pools version k others) (sym same) in
          omega (arith, there, users)
      by p p_in false there =
          is.counted p p_in ∙ (counted_more (takes false version (address_at pools version p)) session others
          ∙ ap (λ (b : Bool). one_if b (users_of pools version p others)) (at p p_in ∙ there))

-- ---- sessions that are counted alike

alike_at : (pools : Pools) (version : IpVersion) (xs ys : List Session) (counts : List ℕ) → AreAlike xs ys → IsCounted pools version xs counts → IsCounted pools version ys counts
alike_at pools version xs ys counts alike is = record { long = is.long; counted = λ p lt. is.counted p lt ∙ alike (takes false version (address_at pools version p)) }

pub counted_alike : (xs ys : List Session) (places : PoolPlaces) → AreAlike xs ys → AreCounted xs places → AreCounted ys places
counted_alike xs ys places alike is = record {
  v4 = alike_at places.pools V4 xs ys places.v4 alike is.v4;
  v6 = alike_at places.pools V6 xs ys places.v6 alike is.v6;
}

pub counted_alike_in : (xs ys : List Session) (places : Option PoolPlaces) → AreAlike xs ys → AreCountedIn xs places → AreCountedIn ys places
counted_alike_in xs ys None alike is = tt
counted_alike_in xs ys (Some places) alike is = counted_alike xs ys places alike is

-- what stands under a key comes first
pub taken_out : (m : FiniteMap Session) (k : ℕ) (there : Option Session) (places : PoolPlaces) → there ≡ get m k → AreCounted (values m) places → AreCounted (joined there (values (remove m k))) places
taken_out m k there places is counted =
    subst (λ (o : Option Session). AreCounted (joined o (values (remove m k))) places) (sym is)
    (counted_alike (values m) (joined (get m k) (values (remove m k))) places (values_parted m k) counted)

-- a session is put under a key
pub put_in : (m now : FiniteMap Session) (k : ℕ) (session : Session) (places : Option PoolPlaces) → now ≡ insert m k session
    → AreCountedIn (session ∷ values (remove m k)) places → AreCountedIn (values now) places
put_in m now k session places is counted =
    subst (λ (n : FiniteMap Session). AreCountedIn (values n) places) (sym is)
    (counted_alike_in (session ∷ values (remove m k)) (values (insert m k session)) places (λ test. sym (values_inserted m k session test)) counted)

-- ---- a loop over all, in which some go

-- counted are those that came so far and stay, and all that are still to come
pub record IsLeft {X : Type 0} (value : X → Session) (stays : X → Bool) (all rest : List X) (places : PoolPlaces) : Type 0 where
  pub front : List Session
  pub whole : front ++ map value (filter stays rest) ≡ map value (filter stays all)
  pub counted : AreCounted (front ++ map value rest) places

module _ {X : Type 0} (value : X → Session) (stays : X → Bool) (all : List X) where
  -- the next is among those that are counted
  pub next_counted : (x : X) (rest : List X) (places : PoolPlaces) → (so_far : IsLeft value stays all (x ∷ rest) places) → AreCounted (value x ∷ so_far.front ++ map value rest) places
  next_counted x rest places so_far =
      counted_alike (so_far.front ++ value x ∷ map value rest) (value x ∷ so_far.front ++ map value rest) places
      (moved so_far.front (value x) (map value rest)) so_far.counted

  pub next_goes : (x : X) (rest : List X) (places now : PoolPlaces) → stays x ≡ false
      → ((others : List Session) → AreCounted (value x ∷ others) places → AreCounted others now) → IsLeft value stays all (x ∷ rest) places
      → IsLeft value stays all rest now
  next_goes x rest places now goes forgets so_far = record {
    front = so_far.front;
    whole = ap (λ (b : Bool). so_far.front ++ map value (cond b (x ∷ filter stays rest) (filter stays rest))) (sym goes) ∙ so_far.whole;
    counted = forgets (so_far.front ++ map value rest) (next_counted x rest places so_far);
  }

  pub next_stays : (x : X) (rest : List X) (places : PoolPlaces) → stays x ≡ true → IsLeft value stays all (x ∷ rest) places → IsLeft value stays all rest places
  next_stays x rest places is so_far = record {
    front = so_far.front ++ value x ∷ [];
    whole =
        append_assoc so_far.front (value x ∷ []) (map value (filter stays rest))
        ∙ (ap (λ (b : Bool). so_far.front ++ map value (cond b (x ∷ filter stays rest) (filter stays rest))) (sym is) ∙ so_far.whole);
    counted = subst (λ (l : List Session). AreCounted l places) (sym (append_assoc so_far.front (value x ∷ []) (map value rest))) so_far.counted;
  }

  pub all_left : (rest : List X) (places : PoolPlaces) → rest ≡ [] → IsLeft value stays all rest places → AreCounted (map value (filter stays all)) places
  all_left rest places none so_far =
      let is : so_far.front ≡ map value (filter stays all) = sym (append-nil so_far.front) ∙ (ap (λ (l : List X). so_far.front ++ map value (filter stays l)) (sym none) ∙ so_far.whole) in
      subst (λ (l : List Session). AreCounted l places) (ap (λ (l : List X). so_far.front ++ map value l) none ∙ (append-nil so_far.front ∙ is)) so_far.counted

-- ---- the lowest place

-- a place is marked where a session has it
marked : (pools : Pools) (version : IpVersion) (sessions : List Session) (counts : List ℕ) → IsCounted pools version sessions counts → (p : ℕ)
    → p < count_of pools version → is_marked counts p ≡ is_taken false version pools sessions p
marked pools version sessions counts is p lt =
    ap (λ (n : ℕ). not (n == 0)) (is.counted p lt) ∙ (by (users_of pools version p sessions) ∙ sym (any_by_count (takes false version (address_at pools version p)) sessions))
  where
    by : (n : ℕ) → not (n == 0) ≡ is_more n
    by zero = refl
    by (suc n) = ap not (ne_eqb (suc n) 0 (λ no. omega (arith, no)))

pub lowest_counted : (version : IpVersion) (places : PoolPlaces) (sessions : List Session) → AreCounted sessions places → (found : Option ℕ)
    → IsFirstFree (length (counts_in places version)) (is_marked (counts_in places version)) found
    → IsLowestPlace false version places.pools sessions found
lowest_counted version places sessions is found first = by version found first
  where
    of : (v : IpVersion) (counts : List ℕ) → IsCounted places.pools v sessions counts → (o : Option ℕ)
        → IsFirstFree (length counts) (is_marked counts) o → IsLowestPlace false v places.pools sessions o
    of v counts counted o lowest =
        taken_alike (count_of places.pools v) (is_marked counts) (is_taken false v places.pools sessions) (marked places.pools v sessions counts counted) o
        (subst (λ (n : ℕ). IsFirstFree n (is_marked counts) o) counted.long lowest)

    by : (v : IpVersion) (o : Option ℕ) → IsFirstFree (length (counts_in places v)) (is_marked (counts_in places v)) o → IsLowestPlace false v places.pools sessions o
    by V4 o lowest = of V4 places.v4 is.v4 o lowest
    by V6 o lowest = of V6 places.v6 is.v6 o lowest
