-- Restart counters (TS 29.274 8.5).
use Rattle.std.specs.Prelude.{ℕ, ◌+◌, ◌-◌, ◌%◌, ◌==◌, nat_le, if◌then◌else◌}
use Rattle.gtp_values.specs.declared.counter.Age.{Age}
use Rattle.gtp_values.specs.declared.counter.Age.TheVariants.{Same, Later, Earlier}

-- how far a counter is ahead, modulo 256
abbrev pub lead : ℕ → ℕ → ℕ
lead old new = (new + 256 - old) % 256

-- the same, at most 127 ahead, or else earlier (a choice of this product: TS 23.007 18 leaves open how a counter turns over)
abbrev pub age_of : ℕ → ℕ → Age
age_of old new = if lead old new == 0 then Same else (if nat_le (lead old new) 127 then Later else Earlier)
