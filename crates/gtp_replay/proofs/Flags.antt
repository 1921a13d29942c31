-- Flags of numbers, one of which is set after the other; and numbered lists.
use Rattle.std.proofs.Common.{rules, arith, zero, suc, ◌≡◌, ℕ, ◌+◌, ◌<◌, ◌≤◌, ◌==◌, Bool, true, false, ◌||◌, List, [], ◌∷◌, ◌++◌, map, length, take}
use Rattle.std.proofs.Common.{set, get_or, slice_get, Some, None, option_map, refl, sym, ap, ◌∙◌, ⊎_elim}
use Rattle.std.specs.List.{enumerate_from, list_any}
use Rattle.std.proofs.lemmas.List.{take_more, get_or-set_same, get_or-set_other}
use Rattle.std.proofs.lemmas.List.Folds.{list_any-append}
use Rattle.std.proofs.lemmas.Option.{slice_get_within, get_or_from_slice_get, slice_get-get_or, slice_get_past}
use Rattle.std.proofs.Math.Bool.{or_comm, or-true, or-false}
use Rattle.std.proofs.lemmas.Bool.{cases_eq}

-- one of these says so of a number, or the next
pub any_more : {H : Type 0} (says : ℕ → H → Bool) (hs : List H) (i : ℕ) (h : H) (n : ℕ) → slice_get hs i ≡ Some h → list_any (says n) (take (i + 1) hs) ≡ (list_any (says n) (take i hs) || says n h)
any_more says hs i h n there =
    let lt = slice_get_within hs i h there in
    ap (list_any (says n)) (take_more hs i h lt ∙ ap (λ x. take i hs ++ x ∷ []) (get_or_from_slice_get hs i h h there))
    ∙ (list_any-append (says n) (take i hs) (h ∷ []) ∙ ap (λ b. list_any (says n) (take i hs) || b) (or_comm (says n h) false))

is_eq : (k n : ℕ) → k ≡ n → (k == n) ≡ true
is_eq k n same = search rules

not_eq : (k n : ℕ) → (k ≡ n → ⊥) → (k == n) ≡ false
not_eq k n other = search rules

-- the flag of a number that is named is set, and no other changes
pub set_one : (f : ℕ → Bool) (flags : List Bool) (k : ℕ) → k < length flags → ((n : ℕ) → get_or flags n false ≡ f n) → (n : ℕ) → get_or (set flags k true) n false ≡ (f n || (k == n))
set_one f flags k lt are n = ⊎_elim
    (λ same. let at : get_or (set flags k true) n false ≡ true = ap (λ m. get_or (set flags k true) m false) (sym same) ∙ get_or-set_same flags k true false lt in
    at ∙ sym (ap (λ b. f n || b) (is_eq k n same) ∙ or-true (f n)))
    (λ other. get_or-set_other flags k n true false (λ e. other (sym e)) ∙ (are n ∙ sym (ap (λ b. f n || b) (not_eq k n other) ∙ or-false (f n))))
    (cases_eq k n)

-- the element of a numbered list, seen by f
pub numbered_at : {X Y : Type 0} (f : X → Y) (first : ℕ) (xs : List X) (n : ℕ) → slice_get (enumerate_from first (map f xs)) n ≡ option_map (λ x. (first + n, f x)) (slice_get xs n)
numbered_at f first [] n = refl
numbered_at f first (x ∷ xs) zero = search rules
numbered_at f first (x ∷ xs) (suc n) =
    let next : (first + 1) + n ≡ first + suc n = omega arith in
    numbered_at f (first + 1) xs n ∙ ap (λ m. option_map (λ y. (m, f y)) (slice_get xs n)) next

-- the same from 0, where there is one, and where there is none
pub is_there : {X Y : Type 0} (f : X → Y) (xs : List X) (n : ℕ) (x : X) → x ≡ get_or xs n x → n < length xs → Some (n, f x) ≡ slice_get (enumerate_from 0 (map f xs)) n
is_there f xs n x is lt =
    let same : 0 + n ≡ n = omega arith in
    sym (numbered_at f 0 xs n ∙ (ap (option_map (λ y. (0 + n, f y))) (slice_get-get_or xs n x lt ∙ ap Some (sym is)) ∙ ap (λ m. Some (m, f x)) same))

pub is_nowhere : {X Y : Type 0} (f : X → Y) (xs : List X) (n : ℕ) → length xs ≤ n → None ≡ slice_get (enumerate_from 0 (map f xs)) n
is_nowhere f xs n past = sym (numbered_at f 0 xs n ∙ ap (option_map (λ y. (0 + n, f y))) (slice_get_past xs n past))
