-- Measuring before writing.
use Rattle.std.specs.Prelude.{◌≡◌, ◌<◌, ◌+◌, ℕ, Option, Some, None}

-- what a room leaves after so many octets: the rest, or nothing where they don't fit
abbrev pub Leaves : ℕ → ℕ → Option ℕ → Type 0
Leaves room taken None = room < taken
Leaves room taken (Some left) = room ≡ taken + left
