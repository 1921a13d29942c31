-- What a counter that is heard says of the peer (TS 29.274 7.1.1; TS 23.007 18).
use Rattle.std.specs.Prelude.{ℕ, Option, Some, None}
use Rattle.gtp_values.specs.Counter.{age_of}
use Rattle.gtp_values.specs.declared.counter.Age.{Age}
use Rattle.gtp_values.specs.declared.counter.Age.TheVariants.{Same, Later, Earlier}

-- how a counter stands to the one that is known; the first that is heard counts as the same
abbrev pub heard_as : Option ℕ → ℕ → Age
heard_as None counter = Same
heard_as (Some known) counter = age_of known counter

-- the later of a counter and the one that was known, by its age
abbrev pub later_of : Age → Option ℕ → ℕ → Option ℕ
later_of Same known counter = Some counter
later_of Later known counter = Some counter
later_of Earlier known counter = known

-- what is known after a counter is heard
abbrev pub known_after : Option ℕ → ℕ → Option ℕ
known_after known counter = later_of (heard_as known counter) known counter
