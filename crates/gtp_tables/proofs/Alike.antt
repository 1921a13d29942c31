-- Lists in which each test is met as often.
use Rattle.std.proofs.Common.{◌≡◌, ◌∙◌, ℕ, ◌<◌, ◌+◌, suc, Bool, true, false, cond, not, List, [], ◌∷◌, ◌++◌, length, map, Option, Some, None, nat_eq, refl, sym, ap, subst, arith}
use Rattle.std.specs.Prelude.{filter}
use Rattle.std.specs.List.{AllByRecursion, IsDistinct}
use Rattle.std.specs.Map.{lookup, keys_of}
use Rattle.std.specs.Cmp.{nat_cmp_total}
use Rattle.std.specs.Ordering.{nat_cmp, eq_by_cmp}
use Rattle.std.specs.FinMap.{empty, get, insert, remove, len, len-entries, values, entries, get-entries, get-insert, get-remove, same_map, nat_cmp-IsAntisymmetric}
use Rattle.std.proofs.lemmas.Bool.{eqb-true}
use Rattle.gtp_values.specs.FiniteMap.{FiniteMap, kept, Each}
use Rattle.gtp_tables.proofs.Found.{key_itself}
use Rattle.std.proofs.lemmas.List.{length-map}
use Rattle.gtp_tables.proofs.Rows.{turned, find_row, listed}
use Rattle.gtp_tables.proofs.Ordered.{entries_kept, removed, distinct_entries}

abbrev pub AreAlike : {X : Type 0} → List X → List X → Type 0
AreAlike {X} xs ys = (test : X → Bool) → length (filter test xs) ≡ length (filter test ys)

-- one more, where a test is passed
abbrev pub one_if : Bool → ℕ → ℕ
one_if true n = suc n
one_if false n = n

-- how many pass among one more
pub counted_more : {X : Type 0} (test : X → Bool) (x : X) (xs : List X) → length (filter test (x ∷ xs)) ≡ one_if (test x) (length (filter test xs))
counted_more {X} test x xs = by (test x)
  where
    by : (b : Bool) → length (cond b (x ∷ filter test xs) (filter test xs)) ≡ one_if b (length (filter test xs))
    by true = refl
    by false = refl

-- two change places
swapped : {X : Type 0} (test : X → Bool) (x y : X) (xs : List X) → length (filter test (x ∷ y ∷ xs)) ≡ length (filter test (y ∷ x ∷ xs))
swapped {X} test x y xs =
    counted_more test x (y ∷ xs) ∙ (ap (one_if (test x)) (counted_more test y xs)
    ∙ (by (test x) (test y) (length (filter test xs))
    ∙ sym (counted_more test y (x ∷ xs) ∙ ap (one_if (test y)) (counted_more test x xs))))
  where
    by : (a b : Bool) (n : ℕ) → one_if a (one_if b n) ≡ one_if b (one_if a n)
    by true true n = refl
    by true false n = refl
    by false true n = refl
    by false false n = refl

-- one comes to the front
pub moved : {X : Type 0} (front : List X) (x : X) (rest : List X) → AreAlike (front ++ x ∷ rest) (x ∷ front ++ rest)
moved [] x rest test = refl
moved (y ∷ front) x rest test =
    counted_more test y (front ++ x ∷ rest) ∙ (ap (one_if (test y)) (moved front x rest test)
    ∙ (sym (counted_more test y (x ∷ front ++ rest))
    ∙ swapped test y x (front ++ rest)))

-- lists that are alike are as long
pub as_long : {X : Type 0} (xs ys : List X) → AreAlike xs ys → length xs ≡ length ys
as_long {X} xs ys alike = sym (all xs) ∙ (alike (λ _. true) ∙ all ys)
  where
    all : (zs : List X) → length (filter (λ _. true) zs) ≡ length zs
    all [] = refl
    all (z ∷ zs) = ap suc (all zs)

-- ---- the values of a map

-- the others, and one that may stand there
abbrev pub joined : {X : Type 0} → Option X → List X → List X
joined None others = others
joined (Some x) others = x ∷ others

-- a key that is not there is taken out
stay : {X : Type 0} (k : ℕ) (es : List (ℕ × X)) → AllByRecursion (λ y. nat_eq k y ≡ false) (keys_of es) → filter (λ e. not (nat_eq k e.0)) es ≡ es
stay k [] h = refl
stay k (e ∷ es) h = rw h.0 (ap (λ (l : List (ℕ × _)). e ∷ l) (stay k es h.1))

parted : {X : Type 0} (test : X → Bool) (es : List (ℕ × X)) (k : ℕ) → IsDistinct nat_eq (keys_of es) → length (filter test (map (λ e. e.1) es))
    ≡ length (filter test (joined (lookup (nat_eq k) es) (map (λ e. e.1) (filter (λ e. not (nat_eq k e.0)) es))))
unfolding IsDistinct
parted test [] k d = refl
parted {X} test (e ∷ es) k d = by (nat_eq k e.0) refl (parted test es k d.1)
  where
    left : List (ℕ × X)
    left = filter (λ f. not (nat_eq k f.0)) es

    joined_later : (o : Option X) → length (filter test (map (λ f. f.1) es)) ≡ length (filter test (joined o (map (λ f. f.1) left)))
        → length (filter test (e.1 ∷ map (λ f. f.1) es)) ≡ length (filter test (joined o (e.1 ∷ map (λ f. f.1) left)))
    joined_later None rest = counted_more test e.1 (map (λ f. f.1) es) ∙ (ap (one_if (test e.1)) rest ∙ sym (counted_more test e.1 (map (λ f. f.1) left)))
    joined_later (Some x) rest =
        counted_more test e.1 (map (λ f. f.1) es) ∙ (ap (one_if (test e.1)) rest
        ∙ (sym (counted_more test e.1 (x ∷ map (λ f. f.1) left))
        ∙ swapped test e.1 x (map (λ f. f.1) left)))

    by : (b : Bool) → nat_eq k e.0 ≡ b → length (filter test (map (λ f. f.1) es)) ≡ length (filter test (joined (lookup (nat_eq k) es) (map (λ f. f.1) left)))
        → length (filter test (e.1 ∷ map (λ f. f.1) es)) ≡ length (filter test (joined (cond b (Some e.1) (lookup (nat_eq k) es)) (map (λ f. f.1) (cond (not b) (e ∷ left) left))))
    by true is rest =
        let apart : AllByRecursion (λ y. nat_eq k y ≡ false) (keys_of es) = subst (λ (q : ℕ). AllByRecursion (λ y. nat_eq q y ≡ false) (keys_of es)) (sym (eqb-true k e.0 is)) d.0 in
        ap (λ (l : List (ℕ × X)). length (filter test (e.1 ∷ map (λ f. f.1) l))) (sym (stay k es apart))
    by false is rest = joined_later (lookup (nat_eq k) es) rest

-- what stands under a key, and the others
pub values_parted : {X : Type 0} (m : FiniteMap X) (k : ℕ) → AreAlike (values m) (joined (get m k) (values (remove m k)))
values_parted {X} m k test =
    parted test (entries m) k (distinct_entries m)
    ∙ (ap (λ (o : Option X). length (filter test (joined o (map (λ e. e.1) (filter (λ e. not (nat_eq k e.0)) (entries m)))))) (sym (find_row (entries m) k) ∙ sym (get-entries m k))
    ∙ ap (λ (l : List (ℕ × X)). length (filter test (joined (get m k) (map (λ e. e.1) l)))) (sym (ap entries (removed m k) ∙ entries_kept (λ t _. not (nat_eq k t)) m)))

-- another is put there
pub values_inserted : {X : Type 0} (m : FiniteMap X) (k : ℕ) (x : X) → AreAlike (values (insert m k x)) (x ∷ values (remove m k))
values_inserted {X} m k x test =
    values_parted (insert m k x) k test
    ∙ (ap (λ (o : Option X). length (filter test (joined o (values (remove (insert m k x) k))))) (get-insert nat_cmp_total m k x k ∙ ap (λ (b : Bool). cond b (Some x) (get m k)) (key_itself k))
    ∙ ap (λ (n : FiniteMap X). length (filter test (x ∷ values n))) (same_map nat_cmp_total nat_cmp-IsAntisymmetric (remove (insert m k x) k) (remove m k) (λ q.
    get-remove nat_cmp_total (insert m k x) k q ∙ (ap (cond (eq_by_cmp nat_cmp q k) None) (get-insert nat_cmp_total m k x q) ∙
    (by (eq_by_cmp nat_cmp q k) (get m q) ∙ sym (get-remove nat_cmp_total m k q))))))
  where
    by : (b : Bool) (o : Option X) → cond b None (cond b (Some x) o) ≡ cond b None o
    by true o = refl
    by false o = refl

-- none stands under a key above all
pub none_removed : {X : Type 0} (m : FiniteMap X) (k : ℕ) → Each (λ key _. key < k) m → remove m k ≡ m
none_removed {X} m k rises = same_map nat_cmp_total nat_cmp-IsAntisymmetric (remove m k) m (λ q. get-remove nat_cmp_total m k q ∙ by q (eq_by_cmp nat_cmp q k) refl (get m q) refl)
  where
    by : (q : ℕ) (b : Bool) → eq_by_cmp nat_cmp q k ≡ b → (o : Option X) → get m q ≡ o → cond b None o ≡ o
    by q true is None at = refl
    by q true is (Some x) at = let below : q < k = rises q x at in let same : k ≡ q = eqb-true k q (sym (turned q k) ∙ is) in absurd (omega (arith, below, same))
    by q false is o at = refl

-- the values that are left
pub values_kept : {X : Type 0} (test : ℕ → X → Bool) (m : FiniteMap X) → values (kept test m) ≡ map (λ e. e.1) (filter (λ e. test e.0 e.1) (entries m))
values_kept test m = ap (map (λ e. e.1)) (entries_kept test m)

pub no_values : {X : Type 0} → values {X = X} {R = nat_cmp} empty ≡ []
no_values {X} = ap (map (λ e. e.1)) (listed [] tt)

-- as many values as fit, with one that is put there
pub values_fit : {X : Type 0} (m : FiniteMap X) (k : ℕ) (x : X) (most : ℕ) → len (insert m k x) < most → length (values (remove m k)) + 1 < most
values_fit m k x most lt =
    let long : length (values (insert m k x)) ≡ suc (length (values (remove m k))) = as_long (values (insert m k x)) (x ∷ values (remove m k)) (values_inserted m k x) in
    omega (arith, lt, long, len-entries (insert m k x), length-map (entries (insert m k x)) (λ e. e.1))
