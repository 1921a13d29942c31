-- Requests in order of beginning: what a change does to that order.
use Rattle.std.proofs.Common.{◌≡◌, ℕ, suc, ◌+◌, ◌<◌, ◌≤◌, Bool, true, false, cond, List, [], ◌∷◌, ◌++◌, length, Option, Some, None, refl, sym, ap, ◌∙◌, arith, ◌⊎◌, inl, inr}
use Rattle.std.specs.Prelude.{◌==◌, ◌||◌, nat_lt, filter, All}
use Rattle.std.specs.List.{AllByRecursion, filter_map, cons_option, list_any}
use Rattle.std.proofs.lemmas.Bool.{cases_lt, or_parts}
use Rattle.std.proofs.lemmas.Bool.Decides.{nat_tests}
use Rattle.gtp_values.proofs.Tests.{turned}
use Rattle.gtp_reliable.specs.Waiting.{Waiting}
use Rattle.gtp_reliable.specs.Pending.{is_pending, purpose_of, AreDistinct}
use Rattle.gtp_reliable.proofs.Lists.{not_both, either_order}
use Rattle.gtp_reliable.proofs.Requests.{pending_cons}
use Rattle.gtp_reliable.specs.Ages.{age, put_by_age, by_age, IsBefore, AreInTurn}

-- ---- tests of ages

put_over : {P : Type 0} (w v : Waiting P) (vs : List (Waiting P)) → nat_lt (age w) (age v) ≡ true → put_by_age w (v ∷ vs) ≡ v ∷ put_by_age w vs
unfolding put_by_age
put_over w v vs e = ap (λ (b : Bool). cond b (v ∷ put_by_age w vs) (w ∷ v ∷ vs)) e

put_here : {P : Type 0} (w v : Waiting P) (vs : List (Waiting P)) → nat_lt (age w) (age v) ≡ false → put_by_age w (v ∷ vs) ≡ w ∷ v ∷ vs
unfolding put_by_age
put_here w v vs e = ap (λ (b : Bool). cond b (v ∷ put_by_age w vs) (w ∷ v ∷ vs)) e

older : (m n : ℕ) → nat_lt m n ≡ true → m < n
older m n h = grind (arith, nat_tests)

not_older : (m n : ℕ) → nat_lt m n ≡ false → n ≤ m
not_older m n h = grind (arith, nat_tests)

is_older : (m n : ℕ) → m < n → nat_lt m n ≡ true
is_older m n h = grind (arith, nat_tests)

is_not_older : (m n : ℕ) → n ≤ m → nat_lt m n ≡ false
is_not_older m n h = grind (arith, nat_tests)

pub age_nil : {P : Type 0} → by_age {P = P} [] ≡ []
unfolding by_age
age_nil = refl

-- ---- the same requests

put_length : {P : Type 0} (w : Waiting P) (vs : List (Waiting P)) → length (put_by_age w vs) ≡ suc (length vs)
unfolding put_by_age
put_length w [] = refl
put_length w (v ∷ vs) = by (nat_lt (age w) (age v)) (put_length w vs)
  where
    by : (b : Bool) → length (put_by_age w vs) ≡ suc (length vs) → length (cond b (v ∷ put_by_age w vs) (w ∷ v ∷ vs)) ≡ suc (suc (length vs))
    by true h = ap (λ (n : ℕ). suc n) h
    by false h = refl

pub age_length : {P : Type 0} (ws : List (Waiting P)) → length (by_age ws) ≡ length ws
unfolding by_age
age_length [] = refl
age_length (w ∷ ws) = put_length w (by_age ws) ∙ ap (λ (n : ℕ). suc n) (age_length ws)

or_swap : (a b c : Bool) → (a || (b || c)) ≡ (b || (a || c))
or_swap true true c = refl
or_swap true false c = refl
or_swap false b c = refl

put_pending : {P : Type 0} (n : ℕ) (w : Waiting P) (vs : List (Waiting P)) → is_pending n (put_by_age w vs) ≡ ((w.seq == n) || is_pending n vs)
unfolding is_pending put_by_age
put_pending n w [] = refl
put_pending {P} n w (v ∷ vs) = by (nat_lt (age w) (age v)) (put_pending n w vs)
  where
    by : (b : Bool) → list_any (λ (x : Waiting P). x.seq == n) (put_by_age w vs) ≡ ((w.seq == n) || list_any (λ (x : Waiting P). x.seq == n) vs)
        → list_any (λ (x : Waiting P). x.seq == n) (cond b (v ∷ put_by_age w vs) (w ∷ v ∷ vs))
        ≡ ((w.seq == n) || ((v.seq == n) || list_any (λ (x : Waiting P). x.seq == n) vs))
    by true h = ap (λ (b : Bool). (v.seq == n) || b) h ∙ or_swap (v.seq == n) (w.seq == n) (list_any (λ (x : Waiting P). x.seq == n) vs)
    by false h = refl

pub age_pending : {P : Type 0} (n : ℕ) (ws : List (Waiting P)) → is_pending n (by_age ws) ≡ is_pending n ws
unfolding is_pending by_age
age_pending n [] = refl
age_pending n (w ∷ ws) = put_pending n w (by_age ws) ∙ ap (λ (b : Bool). (w.seq == n) || b) (age_pending n ws)

record IsApart {P : Type 0} (w : Waiting P) (vs : List (Waiting P)) : Type 0 where
  none : is_pending w.seq vs ≡ false
  rest : AreDistinct vs

put_distinct : {P : Type 0} (w : Waiting P) (vs : List (Waiting P)) → AreDistinct (put_by_age w vs) → IsApart w vs
unfolding is_pending put_by_age
put_distinct w [] d = record { none = refl; rest = tt }
put_distinct {P} w (v ∷ vs) d = by (nat_lt (age w) (age v)) d (λ (e : AreDistinct (put_by_age w vs)). put_distinct w vs e)
  where
    by : (b : Bool) → AreDistinct (cond b (v ∷ put_by_age w vs) (w ∷ v ∷ vs)) → (AreDistinct (put_by_age w vs) → IsApart w vs) → IsApart w (v ∷ vs)
    by false e h = record { none = e.0; rest = e.1 }
    by true e h =
        let rest = h e.1 in
        let parts = or_parts (w.seq == v.seq) (is_pending v.seq vs) (sym (put_pending v.seq w vs) ∙ e.0) in
        let other : (v.seq == w.seq) ≡ false = turned v.seq w.seq ∙ parts.0 in
        record {
          none = pending_cons w.seq v vs ∙ (ap (λ (b : Bool). b || is_pending w.seq vs) other ∙ rest.none);
          rest = (parts.1, rest.rest);
        }

-- they are distinct in each order
pub age_distinct : {P : Type 0} (ws : List (Waiting P)) → AreDistinct (by_age ws) → AreDistinct ws
unfolding by_age
age_distinct [] d = tt
age_distinct (w ∷ ws) d = let parts = put_distinct w (by_age ws) d in (sym (age_pending w.seq ws) ∙ parts.none, age_distinct ws parts.rest)

purpose_cons : {P : Type 0} (n : ℕ) (v : Waiting P) (vs : List (Waiting P)) → purpose_of n (v ∷ vs) ≡ cond (v.seq == n) (Some v.purpose) (purpose_of n vs)
unfolding purpose_of
purpose_cons n v vs = refl

put_purpose : {P : Type 0} (n : ℕ) (w : Waiting P) (vs : List (Waiting P)) → is_pending w.seq vs ≡ false → purpose_of n (put_by_age w vs) ≡ cond (w.seq == n) (Some w.purpose) (purpose_of n vs)
unfolding is_pending purpose_of put_by_age
put_purpose n w [] none = refl
put_purpose {P} n w (v ∷ vs) none =
    let parts = or_parts (v.seq == w.seq) (list_any (λ (x : Waiting P). x.seq == w.seq) vs) none in
    by (nat_lt (age w) (age v)) parts.0 (put_purpose n w vs parts.1)
  where
    by : (b : Bool) → (v.seq == w.seq) ≡ false → purpose_of n (put_by_age w vs) ≡ cond (w.seq == n) (Some w.purpose) (purpose_of n vs)
        → purpose_of n (cond b (v ∷ put_by_age w vs) (w ∷ v ∷ vs))
        ≡ cond (w.seq == n) (Some w.purpose) (cond (v.seq == n) (Some v.purpose) (purpose_of n vs))
    by true other h =
        purpose_cons n v (put_by_age w vs)
        ∙ either_order v.purpose (Some w.purpose) (purpose_of n (put_by_age w vs)) (purpose_of n vs) (v.seq == n) (w.seq == n)
        (not_both v.seq w.seq n other) h
    by false other h = purpose_cons n w (v ∷ vs) ∙ ap (λ (o : Option P). cond (w.seq == n) (Some w.purpose) o) (purpose_cons n v vs)

pub age_purpose : {P : Type 0} (n : ℕ) (ws : List (Waiting P)) → AreDistinct ws → purpose_of n (by_age ws) ≡ purpose_of n ws
unfolding purpose_of by_age
age_purpose n [] d = refl
age_purpose n (w ∷ ws) d = put_purpose n w (by_age ws) (age_pending w.seq ws ∙ d.0) ∙ ap (λ (o : Option _). cond (w.seq == n) (Some w.purpose) o) (age_purpose n ws d.1)

-- ---- what holds of each

module _ {P : Type 0} (Q : Waiting P → Type 0) where
  put_all : (w : Waiting P) (vs : List (Waiting P)) → Q w → AllByRecursion Q vs → AllByRecursion Q (put_by_age w vs)
  unfolding put_by_age
  put_all w [] q all = (q, tt)
  put_all w (v ∷ vs) q all = by (nat_lt (age w) (age v)) (put_all w vs q all.1)
    where
      by : (b : Bool) → AllByRecursion Q (put_by_age w vs) → AllByRecursion Q (cond b (v ∷ put_by_age w vs) (w ∷ v ∷ vs))
      by true h = (all.0, h)
      by false h = (q, all)

  age_all : (ws : List (Waiting P)) → AllByRecursion Q ws → AllByRecursion Q (by_age ws)
  unfolding by_age
  age_all [] all = tt
  age_all (w ∷ ws) all = put_all w (by_age ws) all.0 (age_all ws all.1)

  from_put : (w : Waiting P) (vs : List (Waiting P)) → AllByRecursion Q (put_by_age w vs) → Q w × AllByRecursion Q vs
  unfolding put_by_age
  from_put w [] all = (all.0, tt)
  from_put w (v ∷ vs) all = by (nat_lt (age w) (age v)) all (λ (e : AllByRecursion Q (put_by_age w vs)). from_put w vs e)
    where
      by : (b : Bool) → AllByRecursion Q (cond b (v ∷ put_by_age w vs) (w ∷ v ∷ vs)) → (AllByRecursion Q (put_by_age w vs) → Q w × AllByRecursion Q vs) → Q w × AllByRecursion Q (v ∷ vs)
      by true e h = let rest = h e.1 in (rest.0, (e.0, rest.1))
      by false e h = (e.0, e.1)

  pub from_age : (ws : List (Waiting P)) → AllByRecursion Q (by_age ws) → AllByRecursion Q ws
  unfolding by_age
  from_age [] all = tt
  from_age (w ∷ ws) all = let parts = from_put w (by_age ws) all in (parts.0, from_age ws parts.1)

pub each : {X : Type 0} (Q : X → Type 0) (xs : List X) → All Q xs → AllByRecursion Q xs
each Q [] all = tt
each Q (x ∷ xs) all = (all 0 x (omega arith), each Q xs (λ i d lt. all (suc i) d (omega arith)))

weaker : {X : Type 0} (Q R : X → Type 0) (xs : List X) → ((x : X) → Q x → R x) → AllByRecursion Q xs → AllByRecursion R xs
weaker Q R [] h all = tt
weaker Q R (x ∷ xs) h all = (h x all.0, weaker Q R xs h all.1)

-- ---- the order

-- none is older than one before it
abbrev AreFalling : {P : Type 0} → List (Waiting P) → Type 0
AreFalling [] = Unit {0}
AreFalling (w ∷ ws) = AllByRecursion (λ v. age v ≤ age w) ws × AreFalling ws

put_falling : {P : Type 0} (w : Waiting P) (vs : List (Waiting P)) → AreFalling vs → AreFalling (put_by_age w vs)
unfolding put_by_age
put_falling w [] f = (tt, tt)
put_falling {P} w (v ∷ vs) f = by (nat_lt (age w) (age v)) refl (put_falling w vs f.1)
  where
    by : (b : Bool) → nat_lt (age w) (age v) ≡ b → AreFalling (put_by_age w vs) → AreFalling (cond b (v ∷ put_by_age w vs) (w ∷ v ∷ vs))
    by true e h = let less = older (age w) (age v) e in (put_all (λ (u : Waiting P). age u ≤ age v) w vs (omega (arith, less)) f.0, h)
    by false e h =
        let more = not_older (age w) (age v) e in
        ((more, weaker (λ (u : Waiting P). age u ≤ age v) (λ (u : Waiting P). age u ≤ age w) vs (λ u le. omega (arith, le, more)) f.0), f)

falling : {P : Type 0} (ws : List (Waiting P)) → AreFalling (by_age ws)
unfolding by_age
falling [] = tt
falling (w ∷ ws) = put_falling w (by_age ws) (falling ws)

-- one that was just sent is the youngest
put_push : {P : Type 0} (w : Waiting P) (vs : List (Waiting P)) (u : Waiting P) → age u ≡ 0 → put_by_age w (vs ++ u ∷ []) ≡ put_by_age w vs ++ u ∷ []
unfolding put_by_age
put_push w [] u new = ap (λ (b : Bool). cond b (u ∷ w ∷ []) (w ∷ u ∷ [])) (is_not_older (age w) (age u) (omega (arith, new)))
put_push w (v ∷ vs) u new = by (nat_lt (age w) (age v)) (put_push w vs u new)
  where
    by : (b : Bool) → put_by_age w (vs ++ u ∷ []) ≡ put_by_age w vs ++ u ∷ [] → cond b (v ∷ put_by_age w (vs ++ u ∷ [])) (w ∷ v ∷ (vs ++ u ∷ [])) ≡ cond b (v ∷ put_by_age w vs) (w ∷ v ∷ vs) ++ u ∷ []
    by true h = ap (λ (l : List _). v ∷ l) h
    by false h = refl

pub age_push : {P : Type 0} (ws : List (Waiting P)) (u : Waiting P) → age u ≡ 0 → by_age (ws ++ u ∷ []) ≡ by_age ws ++ u ∷ []
unfolding by_age put_by_age
age_push [] u new = refl
age_push (w ∷ ws) u new = ap (put_by_age w) (age_push ws u new) ∙ put_push w (by_age ws) u new

-- ---- a change of each that keeps their order

abbrev put_option : {P : Type 0} → Option (Waiting P) → List (Waiting P) → List (Waiting P)
put_option None zs = zs
put_option (Some w) zs = put_by_age w zs

age_option : {P : Type 0} (o : Option (Waiting P)) (ws : List (Waiting P)) → by_age (cons_option o ws) ≡ put_option o (by_age ws)
unfolding by_age
age_option None ws = refl
age_option (Some w) ws = refl

-- the change keeps which of two requests with a property is older
abbrev KeepsOrder : {P : Type 0} → (Waiting P → Option (Waiting P)) → (Waiting P → Type 0) → Type 0
KeepsOrder {P} f R = (x y x' y' : Waiting P) → R x → R y → f x ≡ Some x' → f y ≡ Some y' → nat_lt (age x') (age y') ≡ nat_lt (age x) (age y)

module _ {P : Type 0} (f : Waiting P → Option (Waiting P)) (R : Waiting P → Type 0) (keeps : KeepsOrder f R) where
  first_stays : (w w' : Waiting P) (us : List (Waiting P)) → R w → AllByRecursion R us → AllByRecursion (λ u. age u ≤ age w) us → f w ≡ Some w' → w' ∷ filter_map f us ≡ put_by_age w' (filter_map f us)
  unfolding put_by_age
  first_stays w w' [] r rs le e = refl
  first_stays w w' (u ∷ us) r rs le e = by (f u) refl (first_stays w w' us r rs.1 le.1 e)
    where
      by : (o : Option (Waiting P)) → f u ≡ o → w' ∷ filter_map f us ≡ put_by_age w' (filter_map f us) → w' ∷ cons_option o (filter_map f us) ≡ put_by_age w' (cons_option o (filter_map f us))
      by None g h = h
      by (Some u') g h = sym (put_here w' u' (filter_map f us) (keeps w u w' u' r rs.0 e g ∙ is_not_older (age w) (age u) le.0))

  put_change : (w : Waiting P) (vs : List (Waiting P)) → R w → AllByRecursion R vs → AreFalling vs → filter_map f (put_by_age w vs) ≡ put_option (f w) (filter_map f vs)
  unfolding put_by_age
  put_change w [] r rs falls = by (f w)
    where
      by : (o : Option (Waiting P)) → cons_option o [] ≡ put_option o []
      by None = refl
      by (Some w') = refl
  put_change w (v ∷ vs) r rs falls = by (nat_lt (age w) (age v)) refl (put_change w vs r rs.1 falls.1)
    where
      here : nat_lt (age w) (age v) ≡ false → (o : Option (Waiting P)) → f w ≡ o → cons_option o (filter_map f (v ∷ vs)) ≡ put_option o (filter_map f (v ∷ vs))
      here e None g = refl
      here e (Some w') g =
          let more = not_older (age w) (age v) e in
          first_stays w w' (v ∷ vs) r rs (more, weaker (λ (u : Waiting P). age u ≤ age v) (λ (u : Waiting P). age u ≤ age w) vs (λ u le. omega (arith, le, more)) falls.0) g

      over : nat_lt (age w) (age v) ≡ true → (o q : Option (Waiting P)) → f w ≡ o → f v ≡ q → cons_option q (put_option o (filter_map f vs)) ≡ put_option o (cons_option q (filter_map f vs))
      over e None q g h = refl
      over e (Some w') None g h = refl
      over e (Some w') (Some v') g h = sym (put_over w' v' (filter_map f vs) (keeps w v w' v' r rs.0 g h ∙ e))

      by : (b : Bool) → nat_lt (age w) (age v) ≡ b → filter_map f (put_by_age w vs) ≡ put_option (f w) (filter_map f vs)
          → filter_map f (cond b (v ∷ put_by_age w vs) (w ∷ v ∷ vs)) ≡ put_option (f w) (filter_map f (v ∷ vs))
      by true e h = ap (cons_option (f v)) h ∙ over e (f w) (f v) refl refl
      by false e h = here e (f w) refl

  pub age_change : (ws : List (Waiting P)) → AllByRecursion R ws → by_age (filter_map f ws) ≡ filter_map f (by_age ws)
  unfolding by_age
  age_change [] rs = refl
  age_change (w ∷ ws) rs =
      age_option (f w) (filter_map f ws)
      ∙ (ap (put_option (f w)) (age_change ws rs.1)
      ∙ sym (put_change w (by_age ws) rs.0 (age_all R ws rs.1) (falling ws)))

-- ---- some of them

abbrev keep : {X : Type 0} → (X → Bool) → X → Option X
keep p x = cond (p x) (Some x) None

pub filter_is : {X : Type 0} (p : X → Bool) (xs : List X) → filter p xs ≡ filter_map (keep p) xs
filter_is p [] = refl
filter_is p (x ∷ xs) = by (p x) (filter_is p xs)
  where
    by : (b : Bool) → filter p xs ≡ filter_map (keep p) xs → cond b (x ∷ filter p xs) (filter p xs) ≡ cons_option (cond b (Some x) None) (filter_map (keep p) xs)
    by true h = ap (λ (l : List _). x ∷ l) h
    by false h = h

kept : {X : Type 0} (b : Bool) (x y : X) → cond b (Some x) None ≡ Some y → x ≡ y
kept true x y h = cc
kept false x y h = absurd cc

all_so : {X : Type 0} (xs : List X) → AllByRecursion (λ (x : X). Unit {0}) xs
all_so [] = tt
all_so (x ∷ xs) = (tt, all_so xs)

pub age_filter : {P : Type 0} (p : Waiting P → Bool) (ws : List (Waiting P)) → by_age (filter p ws) ≡ filter p (by_age ws)
age_filter {P} p ws =
    ap by_age (filter_is p ws)
    ∙ (age_change (keep p) (λ (w : Waiting P). Unit {0}) same ws (all_so ws) ∙ sym (filter_is p (by_age ws)))
  where
    same : KeepsOrder (keep p) (λ (w : Waiting P). Unit {0})
    same x y x' y' r s e f = ap (λ (w : Waiting P). nat_lt (age w) (age y')) (sym (kept (p x) x x' e)) ∙ ap (λ (w : Waiting P). nat_lt (age x) (age w)) (sym (kept (p y) y y' f))

-- ---- two parts, the other one first

abbrev AreUnlike : {P : Type 0} → List (Waiting P) → List (Waiting P) → Type 0
AreUnlike xs ys = AllByRecursion (λ x. AllByRecursion (λ y. age x ≡ age y → ⊥) ys) xs

abbrev put_each : {P : Type 0} → List (Waiting P) → List (Waiting P) → List (Waiting P)
put_each [] zs = zs
put_each (x ∷ xs) zs = put_by_age x (put_each xs zs)

-- the older of two stands in front, in either order
put_lower : {P : Type 0} (x y : Waiting P) (zs : List (Waiting P)) → age x < age y → put_by_age x (put_by_age y zs) ≡ put_by_age y (put_by_age x zs)
unfolding put_by_age
put_lower x y [] lt = put_over x y [] (is_older (age x) (age y) lt) ∙ sym (put_here y x [] (is_not_older (age y) (age x) (omega arith)))
put_lower {P} x y (z ∷ zs) lt = by (nat_lt (age y) (age z)) refl (put_lower x y zs lt)
  where
    behind : (b : Bool) → nat_lt (age x) (age z) ≡ b → age z ≤ age y → put_by_age y (put_by_age x (z ∷ zs)) ≡ y ∷ put_by_age x (z ∷ zs)
    behind true e le =
        let over = put_over x z zs e in
        ap (put_by_age y) over ∙ (put_here y z (put_by_age x zs) (is_not_older (age y) (age z) le) ∙ ap (λ (l : List (Waiting P)). y ∷ l) (sym over))
    behind false e le =
        let here = put_here x z zs e in
        ap (put_by_age y) here ∙ (put_here y x (z ∷ zs) (is_not_older (age y) (age x) (omega arith)) ∙ ap (λ (l : List (Waiting P)). y ∷ l) (sym here))

    by : (b : Bool) → nat_lt (age y) (age z) ≡ b → put_by_age x (put_by_age y zs) ≡ put_by_age y (put_by_age x zs) → put_by_age x (put_by_age y (z ∷ zs)) ≡ put_by_age y (put_by_age x (z ∷ zs))
    by true e h =
        let less = older (age y) (age z) e in
        ap (put_by_age x) (put_over y z zs e)
        ∙ (put_over x z (put_by_age y zs) (is_older (age x) (age z) (omega (arith, less, lt)))
        ∙ (ap (λ (l : List (Waiting P)). z ∷ l) h
        ∙ (sym (put_over y z (put_by_age x zs) e)
        ∙ ap (put_by_age y) (sym (put_over x z zs (is_older (age x) (age z) (omega (arith, less, lt))))))))
    by false e h =
        let more = not_older (age y) (age z) e in
        ap (put_by_age x) (put_here y z zs e) ∙ (put_over x y (z ∷ zs) (is_older (age x) (age y) lt) ∙ sym (behind (nat_lt (age x) (age z)) refl more))

put_swap : {P : Type 0} (x y : Waiting P) (zs : List (Waiting P)) → (age x ≡ age y → ⊥) → put_by_age x (put_by_age y zs) ≡ put_by_age y (put_by_age x zs)
put_swap x y zs unlike =
    elim (cases_lt (age x) (age y)) [
      | inl lt ↦ put_lower x y zs lt
      | inr ge ↦ elim (cases_lt (age y) (age x)) [ inl lt ↦ sym (put_lower y x zs lt) | inr le ↦ absurd (unlike (omega (arith, ge, le))) ]
    ]

swap_one : {P : Type 0} (x : Waiting P) (ys zs : List (Waiting P)) → AllByRecursion (λ y. age x ≡ age y → ⊥) ys → put_by_age x (put_each ys zs) ≡ put_each ys (put_by_age x zs)
swap_one x [] zs unlike = refl
swap_one x (y ∷ ys) zs unlike = put_swap x y (put_each ys zs) unlike.0 ∙ ap (put_by_age y) (swap_one x ys zs unlike.1)

swap_each : {P : Type 0} (xs ys zs : List (Waiting P)) → AreUnlike xs ys → put_each xs (put_each ys zs) ≡ put_each ys (put_each xs zs)
swap_each [] ys zs unlike = refl
swap_each (x ∷ xs) ys zs unlike = ap (put_by_age x) (swap_each xs ys zs unlike.1) ∙ swap_one x ys (put_each xs zs) unlike.0

age_each : {P : Type 0} (xs ys : List (Waiting P)) → by_age (xs ++ ys) ≡ put_each xs (put_each ys [])
unfolding by_age
age_each [] [] = refl
age_each [] (y ∷ ys) = ap (put_by_age y) (age_each [] ys)
age_each (x ∷ xs) ys = ap (put_by_age x) (age_each xs ys)

pub age_swap : {P : Type 0} (xs ys : List (Waiting P)) → AreUnlike xs ys → by_age (xs ++ ys) ≡ by_age (ys ++ xs)
age_swap xs ys unlike = age_each xs ys ∙ (swap_each xs ys [] unlike ∙ sym (age_each ys xs))

-- ---- what is due

module _ {P Y : Type 0} (t3 : ℕ) (h : Waiting P → Option Y) (calm : (w : Waiting P) → w.waited + 1 < t3 → h w ≡ None) where
  put_calm : (w : Waiting P) (vs : List (Waiting P)) → h w ≡ None → filter_map h (put_by_age w vs) ≡ filter_map h vs
  unfolding put_by_age
  put_calm w [] none = ap (λ (o : Option Y). cons_option o []) none
  put_calm w (v ∷ vs) none = by (nat_lt (age w) (age v)) (put_calm w vs none)
    where
      by : (b : Bool) → filter_map h (put_by_age w vs) ≡ filter_map h vs → filter_map h (cond b (v ∷ put_by_age w vs) (w ∷ v ∷ vs)) ≡ filter_map h (v ∷ vs)
      by true k = ap (cons_option (h v)) k
      by false k = ap (λ (o : Option Y). cons_option o (filter_map h (v ∷ vs))) none

  put_due : (w : Waiting P) (vs : List (Waiting P)) → AllByRecursion (λ v. (v.waited + 1 < t3) ⊎ (age v ≤ age w)) vs → filter_map h (put_by_age w vs) ≡ cons_option (h w) (filter_map h vs)
  unfolding put_by_age
  put_due w [] all = refl
  put_due w (v ∷ vs) all = by (nat_lt (age w) (age v)) refl (put_due w vs all.1)
    where
      none : nat_lt (age w) (age v) ≡ true → h v ≡ None
      none e = elim all.0 [ inl lt ↦ calm v lt | inr le ↦ absurd (let less = older (age w) (age v) e in omega (arith, less, le)) ]

      by : (b : Bool) → nat_lt (age w) (age v) ≡ b → filter_map h (put_by_age w vs) ≡ cons_option (h w) (filter_map h vs)
          → filter_map h (cond b (v ∷ put_by_age w vs) (w ∷ v ∷ vs)) ≡ cons_option (h w) (filter_map h (v ∷ vs))
      by true e k =
          ap (λ (o : Option Y). cons_option o (filter_map h (put_by_age w vs))) (none e)
          ∙ (k ∙ ap (λ (o : Option Y). cons_option (h w) (cons_option o (filter_map h vs))) (sym (none e)))
      by false e k = refl

  -- in order of beginning it is the same as in turn
  pub due_age : (ws : List (Waiting P)) → AreInTurn t3 ws → filter_map h (by_age ws) ≡ filter_map h ws
  unfolding by_age
  due_age [] turn = refl
  due_age (w ∷ ws) turn = by (cases_lt (w.waited + 1) t3) (due_age ws turn.2)
    where
      so : t3 ≤ w.waited + 1 → (v : Waiting P) → IsBefore w v → (v.waited + 1 < t3) ⊎ (age v ≤ age w)
      so last v before = elim (cases_lt (v.waited + 1) t3) [ inl lt ↦ inl lt | inr le ↦ inr (not_before le) ]
        where
          not_before : t3 ≤ v.waited + 1 → age v ≤ age w
          not_before le =
              let same : v.waited ≡ w.waited = omega (arith, before.0, turn.0, le) in
              let fewer = before.1 same in
              omega (arith, same, fewer)

      by : (w.waited + 1 < t3) ⊎ (t3 ≤ w.waited + 1) → filter_map h (by_age ws) ≡ filter_map h ws → filter_map h (put_by_age w (by_age ws)) ≡ cons_option (h w) (filter_map h ws)
      by (inl lt) k =
          put_calm w (by_age ws) (calm w lt)
          ∙ (k ∙ ap (λ (o : Option Y). cons_option o (filter_map h ws)) (sym (calm w lt)))
      by (inr last) k =
          put_due w (by_age ws) (age_all (λ (v : Waiting P). (v.waited + 1 < t3) ⊎ (age v ≤ age w)) ws
          (weaker (IsBefore w) (λ (v : Waiting P). (v.waited + 1 < t3) ⊎ (age v ≤ age w)) ws (so last) turn.1))
          ∙ ap (cons_option (h w)) k

-- ---- fewer in turn

before_filter : {P : Type 0} (Q : Waiting P → Type 0) (p : Waiting P → Bool) (ws : List (Waiting P)) → AllByRecursion Q ws → AllByRecursion Q (filter p ws)
before_filter Q p [] all = tt
before_filter {P} Q p (w ∷ ws) all = by (p w) (before_filter Q p ws all.1)
  where
    by : (b : Bool) → AllByRecursion Q (filter p ws) → AllByRecursion Q (cond b (w ∷ filter p ws) (filter p ws))
    by true h = (all.0, h)
    by false h = h

pub turn_filter : {P : Type 0} (t3 : ℕ) (p : Waiting P → Bool) (ws : List (Waiting P)) → AreInTurn t3 ws → AreInTurn t3 (filter p ws)
turn_filter t3 p [] turn = tt
turn_filter {P} t3 p (w ∷ ws) turn = by (p w) (turn_filter t3 p ws turn.2)
  where
    by : (b : Bool) → AreInTurn t3 (filter p ws) → AreInTurn t3 (cond b (w ∷ filter p ws) (filter p ws))
    by true h = (turn.0, before_filter (IsBefore w) p ws turn.1, h)
    by false h = h

-- one more that was just sent
pub turn_push : {P : Type 0} (t3 : ℕ) (ws : List (Waiting P)) (u : Waiting P) → AreInTurn t3 ws → u.waited ≡ 0 → u.resent ≡ 0 → 1 ≤ t3 → AreInTurn t3 (ws ++ u ∷ [])
turn_push t3 [] u turn none never some = (omega arith, tt, tt)
turn_push {P} t3 (w ∷ ws) u turn none never some = (turn.0, youngest ws turn.1, turn_push t3 ws u turn.2 none never some)
  where
    youngest : (vs : List (Waiting P)) → AllByRecursion (IsBefore w) vs → AllByRecursion (IsBefore w) (vs ++ u ∷ [])
    youngest [] all = ((omega arith, λ same. omega arith), tt)
    youngest (v ∷ vs) all = (all.0, youngest vs all.1)
