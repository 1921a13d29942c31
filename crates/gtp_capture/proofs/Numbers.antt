-- Numbers in the octets at a front.
use Rattle.std.proofs.Common.{◌≡◌, ℕ, ◌+◌, ◌<◌, ◌≤◌, List, [], ◌∷◌, ◌++◌, length, slice_index, sym, ap, ◌∙◌, arith}
use Rattle.std.proofs.lemmas.List.{get_or_append_left}
use Rattle.gtp_capture.specs.Octets.{number, short, pair_at, four_at}
use Rattle.gtp_capture.specs.declared.octets.Order.{Order}

cells_same : (order : Order) (a b c d p q r s : ℕ) → a ≡ p → b ≡ q → c ≡ r → d ≡ s → number order (a ∷ b ∷ c ∷ d ∷ []) ≡ number order (p ∷ q ∷ r ∷ s ∷ [])
cells_same order a b c d p q r s e f g h =
    ap (λ x. number order (x ∷ b ∷ c ∷ d ∷ [])) e ∙ ap (λ x. number order (p ∷ x ∷ c ∷ d ∷ [])) f ∙ ap (λ x. number order (p ∷ q ∷ x ∷ d ∷ [])) g ∙ ap (λ x. number order (p ∷ q ∷ r ∷ x ∷ [])) h

pub four_left : (order : Order) (i : ℕ) (front more : List ℕ) → i + 4 ≤ length front → four_at order i (front ++ more) ≡ four_at order i front
four_left order i front more room =
    let at : (j : ℕ) → j < length front → slice_index (front ++ more) j ≡ slice_index front j = λ j h. get_or_append_left front more 0 j h in
    cells_same order _ _ _ _ _ _ _ _ (at i (omega (arith, room))) (at (i + 1) (omega (arith, room))) (at (i + 2) (omega (arith, room))) (at (i + 3) (omega (arith, room)))

pairs_same : (order : Order) (a b p q : ℕ) → a ≡ p → b ≡ q → short order (a ∷ b ∷ []) ≡ short order (p ∷ q ∷ [])
pairs_same order a b p q e f = ap (λ x. short order (x ∷ b ∷ [])) e ∙ ap (λ x. short order (p ∷ x ∷ [])) f

pub pair_left : (order : Order) (i : ℕ) (front more : List ℕ) → i + 2 ≤ length front → pair_at order i (front ++ more) ≡ pair_at order i front
pair_left order i front more room =
    let at : (j : ℕ) → j < length front → slice_index (front ++ more) j ≡ slice_index front j = λ j h. get_or_append_left front more 0 j h in
    pairs_same order _ _ _ _ (at i (omega (arith, room))) (at (i + 1) (omega (arith, room)))

-- two fronts of the same octets
pub four_same : (order : Order) (i : ℕ) (a b x y : List ℕ) → a ++ x ≡ b ++ y → i + 4 ≤ length a → i + 4 ≤ length b → four_at order i a ≡ four_at order i b
four_same order i a b x y e p q = sym (four_left order i a x p) ∙ ap (four_at order i) e ∙ four_left order i b y q
