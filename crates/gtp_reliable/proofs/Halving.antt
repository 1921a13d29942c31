-- Halving a range, and what a comparison at its middle says of the other entries.
use Rattle.std.proofs.Common.{◌≡◌, ℕ, zero, suc, ◌+◌, ◌-◌, ◌<◌, ◌≤◌, List, [], ◌∷◌, get_or, length, refl, sym, ap, ◌∙◌, subst, arith, ◌⊎◌, inl, inr}
use Rattle.std.specs.declared.cmp.Ordering.TheVariants.{Less, Greater}
use Rattle.std.proofs.Math.Nat.{eq-or-lt_of_le}
use Rattle.gtp_reliable.specs.declared.held_answer.Pair.{Pair}
use Rattle.gtp_reliable.specs.Held.{Question}
use Rattle.gtp_reliable.specs.Order.{question_cmp}
use Rattle.gtp_reliable.specs.Index.{after, asked, questions, question_at, named_at, nobody, AreAscending}
use Rattle.gtp_reliable.proofs.Order.{question_total, reversed}

-- the longest index that so many comparisons search
abbrev pub reach : ℕ → ℕ
reach zero = 0
reach (suc k) = reach k + reach k + 1

pub one_left : (left n : ℕ) → 0 < n → n ≤ reach left → 0 < left
one_left zero n pos le = absurd (omega arith)
one_left (suc k) n pos le = omega arith

-- what is left after a comparison takes one comparison less
pub half_left : (left n m : ℕ) → 0 < n → n ≤ reach left → m + m ≤ n → m ≤ reach (left - 1)
half_left zero n m pos le half = absurd (omega arith)
half_left (suc k) n m pos le half = let e : suc k - 1 ≡ k = omega arith in rw e (omega arith)

-- as many requests as pairs
pub same_count : (ps : List Pair) → length (questions ps) ≡ length ps
same_count [] = refl
same_count (p ∷ ps) = ap (λ (n : ℕ). suc n) (same_count ps)

pub question_of_pair : (ps : List Pair) (n : ℕ) (p : Pair) → n < length ps → p ≡ get_or ps n p → question_at (questions ps) n ≡ asked p
question_of_pair ps n p lt found = at ps n p lt ∙ ap asked (sym found)
  where
    at : (ps : List Pair) (n : ℕ) (d : Pair) → n < length ps → get_or (questions ps) n nobody ≡ asked (get_or ps n d)
    at [] n d lt = absurd (omega arith)
    at (q ∷ qs) zero d lt = refl
    at (q ∷ qs) (suc n) d lt = at qs n d (omega arith)

-- the request of a pair that was looked up by its place
pub named_is : (first : ℕ) (index : List ℕ) (ps : List Pair) (i at : ℕ) (p : Pair) → at ≡ after first (get_or index i 0) → at < length ps → p ≡ get_or ps at p
    → named_at first index (questions ps) i ≡ asked p
named_is first index ps i at p is lt found =
    ap (λ (n : ℕ). question_at (questions ps) n) (sym is) ∙ question_of_pair ps at p lt found

module _ (first : ℕ) (index : List ℕ) (qs : List Question) (order : AreAscending first index qs) (q : Question) (m : ℕ) (within : m < length index) where
  abbrev name : ℕ → Question
  name = named_at first index qs

  -- what is before a lower one is lower
  pub below_lower : question_cmp (name m) q ≡ Less → (k : ℕ) → k < m + 1 → question_cmp (name k) q ≡ Less
  below_lower less k lt = by (eq-or-lt_of_le (omega arith))
    where
      by : (k ≡ m) ⊎ (k < m) → question_cmp (name k) q ≡ Less
      by (inr h) = question_total.trans (name k) (name m) q (order k m h within) less
      by (inl e) = subst (λ (i : ℕ). question_cmp (name i) q ≡ Less) (sym e) less

  -- what is after a higher one is higher
  pub above_higher : question_cmp (name m) q ≡ Greater → (k : ℕ) → m ≤ k → k < length index → question_cmp (name k) q ≡ Greater
  above_higher more k le lt = by (eq-or-lt_of_le le)
    where
      by : (m ≡ k) ⊎ (m < k) → question_cmp (name k) q ≡ Greater
      by (inr h) = reversed (name k) q Less (question_total.trans q (name m) (name k) (reversed q (name m) Greater more) (order m k h lt))
      by (inl e) = subst (λ (i : ℕ). question_cmp (name i) q ≡ Greater) e more
