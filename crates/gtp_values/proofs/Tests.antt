-- What tests tell: two together, one that is negated, and tests of numbers.
use Rattle.std.proofs.Common.{◌≡◌, ◌∙◌, ℕ, ◌≤◌, ◌<◌, Bool, true, false, ◌&&◌, Option, Some, None, refl, ap, T, arith}
use Rattle.std.specs.Prelude.{◌==◌, not, nat_eq}
use Rattle.std.specs.Ordering.{nat_cmp, is_lt}
use Rattle.std.proofs.lemmas.Bool.Decides.{nat_tests}
use Rattle.gtp_values.specs.Bit.{bit}
use Rattle.gtp_values.specs.Number.{is_number}

-- two tests that hold together
pub record Both (a b : Bool) : Type 0 where
  pub left : a ≡ true
  pub right : b ≡ true

pub both : (a b : Bool) → (a && b) ≡ true → Both a b
both true b h = record { left = refl; right = h }
both false b h = absurd cc

-- the answer of a test that is negated
pub told_not : {X : Type 0} (meets : X → Bool) (Tells : X → Bool → Type 0) → ((x : X) (r : Bool) → Tells x r → r ≡ meets x) → (x : X) (b r : Bool) → Tells x r → b ≡ not r → b ≡ not (meets x)
told_not meets Tells right x b r told e = e ∙ ap not (right x r told)

-- ---- numbers

pub itself : (n : ℕ) → (n == n) ≡ true
itself n = grind (arith, nat_tests)

pub same_number : (m n : ℕ) → (m == n) ≡ true → m ≡ n
same_number m n is = grind (arith, nat_tests)

pub turned : (m n : ℕ) → (m == n) ≡ (n == m)
turned m n = grind (arith, nat_tests)

pub unequal : (m n : ℕ) → (m == n) ≡ false → m ≡ n → ⊥
unequal m n differ same = grind (arith, nat_tests)

pub at_most_one : (b : Bool) → bit b ≤ 1
at_most_one true = omega arith
at_most_one false = omega arith

pub number_is : (n : ℕ) (o : Option ℕ) → is_number n o ≡ true → o ≡ Some n
number_is n None h = absurd cc
number_is n (Some m) h = ap Some (same_number m n h)

pub less_by_cmp : (a b : ℕ) → T (is_lt (nat_cmp a b)) → a < b
less_by_cmp a b h = at (is_lt (nat_cmp a b)) refl h
  where
    at : (c : Bool) → is_lt (nat_cmp a b) ≡ c → T c → a < b
    at true is h = grind (arith, nat_tests)
    at false is h = absurd h

pub apart_by_cmp : (a b : ℕ) → T (is_lt (nat_cmp a b)) → nat_eq a b ≡ false
apart_by_cmp a b h = let less : a < b = less_by_cmp a b h in grind (arith, nat_tests)
