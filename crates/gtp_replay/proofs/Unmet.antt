-- The place of the first item that passes a test.
use Rattle.std.proofs.Common.{◌≡◌, ◌+◌, ◌<◌, ℕ, Bool, true, false, not, cond, nat_lt, List, [], ◌∷◌, length, map, Option, Some, None, refl, ap, arith}
use Rattle.std.specs.Prelude.{IfSome}
use Rattle.std.specs.List.{position, position_or_len}
use Rattle.std.proofs.lemmas.Bool.Decides.{nat_tests}
use Rattle.std.proofs.lemmas.List.{length-map}

first_mapped : {X Y : Type 0} (test : Y → Bool) (f : X → Y) (xs : List X) → position_or_len test (map f xs) ≡ position_or_len (λ x. test (f x)) xs
first_mapped test f [] = refl
first_mapped test f (x ∷ xs) = ap (λ n. cond (not (test (f x))) (1 + n) 0) (first_mapped test f xs)

-- among what is made of items
pub position_mapped : {X Y : Type 0} (test : Y → Bool) (f : X → Y) (xs : List X) → position test (map f xs) ≡ position (λ x. test (f x)) xs
position_mapped test f xs = λ i. cond (nat_lt (first_mapped test f xs i) (length-map xs f i)) (Some (first_mapped test f xs i)) None

-- it is below their number
pub position_below : {X : Type 0} (test : X → Bool) (xs : List X) (r : Option ℕ) → r ≡ position test xs → IfSome r (λ place. place < length xs)
position_below test xs None is = tt
position_below test xs (Some place) is = by (position_or_len test xs) (nat_lt (position_or_len test xs) (length xs)) refl is where
  by : (n : ℕ) (b : Bool) → nat_lt n (length xs) ≡ b → ◌≡◌ {A = Option ℕ} (Some place) (cond b (Some n) None) → place < length xs
  by n true below same = let here : place ≡ n = cc in grind (arith, nat_tests)
  by n false below same = absurd cc
