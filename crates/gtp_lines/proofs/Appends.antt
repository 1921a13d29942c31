-- Texts appended one after the other.
use Rattle.std.proofs.Common.{◌≡◌, ◌∙◌, ℕ, List, ◌++◌, ap, append_assoc}
use Rattle.std.proofs.lemmas.List.{append-nil}

pub ruleset appending = (append_assoc, append-nil)

-- a text, and then another
pub twice : (before : List ℕ) (middle : List ℕ) (after : List ℕ) (a : List ℕ) (b : List ℕ) → middle ≡ before ++ a → after ≡ middle ++ b → after ≡ before ++ (a ++ b)
twice before middle after a b one two = two ∙ (ap (λ (xs : List ℕ). xs ++ b) one ∙ append_assoc before a b)
