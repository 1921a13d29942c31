-- Lists of which a tick keeps some, loops over them, and tests of their elements.
use Rattle.std.proofs.Common.{◌≡◌, ℕ, zero, suc, ◌+◌, ◌<◌, ◌≤◌, Bool, true, false, cond, List, [], ◌∷◌, ◌++◌, length, map, take, get_or, add-one, Option, Some, None, refl, sym, ap, ◌∙◌, arith}
use Rattle.std.specs.Prelude.{◌==◌, filter, is_some, unwrap_or}
use Rattle.std.specs.List.{filter_map, cons_option}
use Rattle.std.proofs.lemmas.List.{append-nil}
use Rattle.std.proofs.lemmas.Bool.Decides.{nat_tests}

-- ---- what stays, and what becomes of it

stay_by : {X : Type 0} (x : X) (f : X → X) (xs ys : List X) (o : Option X) → f x ≡ unwrap_or o x → map f xs ≡ ys → map f (cond (is_some o) (x ∷ xs) xs) ≡ cons_option o ys
stay_by x f xs ys (Some v) e h = ap (λ (y : _). y ∷ map f xs) e ∙ ap (λ (zs : List _). v ∷ zs) h
stay_by x f xs ys None e h = h

pub stay_and_pass : {X : Type 0} (h : X → Option X) (xs : List X) → map (λ x. unwrap_or (h x) x) (filter (λ x. is_some (h x)) xs) ≡ filter_map h xs
stay_and_pass h [] = refl
stay_and_pass h (x ∷ xs) = stay_by x (λ x. unwrap_or (h x) x) (filter (λ x. is_some (h x)) xs) (filter_map h xs) (h x) refl (stay_and_pass h xs)

fewer_cons : {X : Type 0} (x : X) (xs : List X) (b : Bool) (n : ℕ) → length xs ≤ n → length (cond b (x ∷ xs) xs) ≤ suc n
fewer_cons x xs true n h = omega arith
fewer_cons x xs false n h = omega arith

pub fewer_filter : {X : Type 0} (p : X → Bool) (xs : List X) → length (filter p xs) ≤ length xs
fewer_filter p [] = omega arith
fewer_filter p (x ∷ xs) = fewer_cons x (filter p xs) (p x) (length xs) (fewer_filter p xs)

-- ---- a loop that gathers

pub cons_append : {Y : Type 0} (o : Option Y) (xs ys : List Y) → cons_option o xs ++ ys ≡ cons_option o (xs ++ ys)
cons_append None xs ys = refl
cons_append (Some y) xs ys = refl

filter_map_next : {X Y : Type 0} (h : X → Option Y) (xs : List X) (i : ℕ) (d : X) → i < length xs → filter_map h (take (suc i) xs) ≡ filter_map h (take i xs) ++ cons_option (h (get_or xs i d)) []
filter_map_next h [] i d lt = absurd (omega arith)
filter_map_next h (x ∷ xs) zero d lt = refl
filter_map_next h (x ∷ xs) (suc i) d lt = ap (cons_option (h x)) (filter_map_next h xs i d (omega arith)) ∙ sym (cons_append (h x) (filter_map h (take i xs)) (cons_option (h (get_or xs i d)) []))

-- an element that gives something, and one that gives nothing
pub filter_map_some : {X Y : Type 0} (h : X → Option Y) (xs : List X) (i : ℕ) (d : X) (y : Y) → i < length xs → h (get_or xs i d) ≡ Some y
    → filter_map h (take (i + 1) xs) ≡ filter_map h (take i xs) ++ y ∷ []
filter_map_some h xs i d y lt e = ap (λ (n : ℕ). filter_map h (take n xs)) (add-one i) ∙ (filter_map_next h xs i d lt ∙ ap (λ o. filter_map h (take i xs) ++ cons_option o []) e)

pub filter_map_none : {X Y : Type 0} (h : X → Option Y) (xs : List X) (i : ℕ) (d : X) → i < length xs → h (get_or xs i d) ≡ None → filter_map h (take (i + 1) xs) ≡ filter_map h (take i xs)
filter_map_none h xs i d lt e =
    ap (λ (n : ℕ). filter_map h (take n xs)) (add-one i)
    ∙ (filter_map_next h xs i d lt ∙ (ap (λ o. filter_map h (take i xs) ++ cons_option o []) e ∙ append-nil (filter_map h (take i xs))))

pub none_of : {X : Type 0} (o : Option X) → is_some o ≡ false → o ≡ None
none_of None h = refl
none_of (Some x) h = absurd cc

-- ---- two tests

-- of two numbers that differ one is another number
pub not_both : (x y n : ℕ) → (x == y) ≡ false → (x == n) ≡ true → (y == n) ≡ true → ⊥
not_both x y n d a b = grind (arith, nat_tests)

-- two tests that do not hold together may be made in either order
pub either_order : {X : Type 0} (x : X) (y o q : Option X) (a b : Bool) → (a ≡ true → b ≡ true → ⊥) → o ≡ cond b y q → cond a (Some x) o ≡ cond b y (cond a (Some x) q)
either_order x y o q true true unlike h = absurd (unlike refl refl)
either_order x y o q true false unlike h = refl
either_order x y o q false b unlike h = h
