-- A number that may be absent.
use Rattle.std.specs.Prelude.{ℕ, Bool, false, nat_eq, Option, Some, None}

-- whether there is a number, and it is this one
abbrev pub is_number : ℕ → Option ℕ → Bool
is_number n None = false
is_number n (Some m) = nat_eq m n
