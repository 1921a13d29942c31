-- Rules that are tried in order: the first that applies decides.
use Rattle.std.specs.Prelude.{◌⊎◌}

-- Fails where P does not hold, and else what comes next, which may use that P holds
abbrev pub Unless : (P : Type 0) → Type 0 → (P → Type 0) → Type 0
Unless P Fails Next = ((P → ⊥) × Fails) ⊎ ((holds : P) × Next holds)
