-- Numbered lists, and their beginnings.
use Rattle.std.proofs.Common.{◌≡◌, ℕ, zero, suc, ◌+◌, ◌≤◌, ◌<◌, min, List, [], ◌∷◌, Some, map, length, take, drop, get_or, slice_get, refl, sym, ap, ◌∙◌, ⊎_elim, arith}
use Rattle.std.specs.List.{enumerate_from}
use Rattle.std.proofs.lemmas.Bool.{cases_lt}
use Rattle.std.proofs.lemmas.List.{drop_all, take_all, length-map}
use Rattle.std.proofs.lemmas.List.FromFn.{length-enumerate_from}
use Rattle.std.proofs.lemmas.Option.{slice_get-get_or}
use Rattle.gtp_tables.proofs.Listed.{drop_at}

-- the first of them are numbered as before
numbered_front : {X Y : Type 0} (f : X → Y) (first count : ℕ) (xs : List X) → enumerate_from first (map f (take count xs)) ≡ take count (enumerate_from first (map f xs))
numbered_front f first zero [] = refl
numbered_front f first (suc count) [] = refl
numbered_front f first zero (x ∷ xs) = refl
numbered_front f first (suc count) (x ∷ xs) = ap (λ ys. (first, f x) ∷ ys) (numbered_front f (first + 1) count xs)

-- and so are the others
numbered_rest : {X Y : Type 0} (f : X → Y) (first count : ℕ) (xs : List X) → enumerate_from (first + count) (map f (drop count xs)) ≡ drop count (enumerate_from first (map f xs))
numbered_rest f first zero [] = refl
numbered_rest f first (suc count) [] = refl
numbered_rest f first zero (x ∷ xs) = let none : first + 0 ≡ first = omega arith in ap (λ n. enumerate_from n (map f (x ∷ xs))) none
numbered_rest f first (suc count) (x ∷ xs) =
    let next : first + suc count ≡ (first + 1) + count = omega arith in
    ap (λ n. enumerate_from n (map f (drop count xs))) next ∙ numbered_rest f (first + 1) count xs

-- the first of the datagrams that are left, as many as there are at most
pub front_is : {X Y : Type 0} (f : X → Y) (first count sent : ℕ) (xs : List X) → count ≡ min (length xs) sent
    → enumerate_from first (map f (take count xs)) ≡ take sent (enumerate_from first (map f xs))
front_is f first count sent xs is = ⊎_elim
    (λ short. let all : count ≡ length xs = omega (arith, is, short) in
    ap (λ n. enumerate_from first (map f (take n xs))) all ∙ (ap (λ l. enumerate_from first (map f l)) (take_all (length xs) xs (omega arith))
    ∙ sym (take_all sent (enumerate_from first (map f xs)) (rw (length-enumerate_from first (map f xs), length-map xs f) (omega (arith, short))))))
    (λ enough. let some : count ≡ sent = omega (arith, is, enough) in ap (λ n. enumerate_from first (map f (take n xs))) some ∙ numbered_front f first sent xs)
    (cases_lt (length xs) sent)

-- and the others
pub rest_is : {X Y : Type 0} (f : X → Y) (first count sent : ℕ) (xs : List X) → count ≡ min (length xs) sent
    → enumerate_from (first + count) (map f (drop count xs)) ≡ drop sent (enumerate_from first (map f xs))
rest_is f first count sent xs is = ⊎_elim
    (λ short. let all : length xs ≤ count = omega (arith, is, short) in
    ap (λ l. enumerate_from (first + count) (map f l)) (drop_all count xs all)
    ∙ sym (drop_all sent (enumerate_from first (map f xs)) (rw (length-enumerate_from first (map f xs), length-map xs f) (omega (arith, short)))))
    (λ enough. let some : count ≡ sent = omega (arith, is, enough) in ap (λ n. enumerate_from (first + n) (map f (drop n xs))) some ∙ numbered_rest f first sent xs)
    (cases_lt (length xs) sent)

-- what is left of a list, seen by view, where this is the next
pub next_of : {X Y : Type 0} (view : X → Y) (xs : List X) (i : ℕ) (x : X) → slice_get xs i ≡ Some x → map view (drop i xs) ≡ view x ∷ map view (drop (i + 1) xs)
next_of view xs i x there = ap (map view) (drop_at xs i x there)

pub stands_at : {X : Type 0} (xs : List X) (i : ℕ) (x : X) → x ≡ get_or xs i x → i < length xs → slice_get xs i ≡ Some x
stands_at xs i x is lt = slice_get-get_or xs i x lt ∙ ap Some (sym is)
