-- A bit of an octet as a number.
use Rattle.std.specs.Prelude.{ℕ, Bool, true, false}

-- 1 or 0
abbrev pub bit : Bool → ℕ
bit true = 1
bit false = 0
