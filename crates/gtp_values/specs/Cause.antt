-- Causes (TS 29.274 8.4).
use Rattle.std.specs.Prelude.{ℕ, Bool, ◌&&◌, nat_le, nat_lt}

-- a cause value that accepts: 16 to 63, also those that the standard's table keeps for later (a choice of this product)
abbrev pub is_accepting_value : ℕ → Bool
is_accepting_value value = nat_le 16 value && nat_lt value 64
