-- Restart counters that go round at 256, over at most 127 restarts.
use Rattle.std.proofs.Common.{◌≡◌, ℕ, ◌+◌, ◌%◌, ◌<◌, ◌≤◌, ◌==◌, nat_le, if◌then◌else◌, arith}
use Rattle.std.proofs.lemmas.Bool.Decides.{nat_tests}
use Rattle.gtp_values.specs.Counter.{age_of, lead}
use Rattle.gtp_values.specs.declared.counter.Age.{Age}
use Rattle.gtp_values.specs.declared.counter.Age.TheVariants.{Same, Later, Earlier}

abbrev age_by : ℕ → Age
age_by d = if d == 0 then Same else (if nat_le d 127 then Later else Earlier)

by_same : (d : ℕ) → age_by d ≡ Same → d ≡ 0
by_same d e = grind (arith, nat_tests)

by_later : (d : ℕ) → age_by d ≡ Later → (0 < d) × (d < 128)
by_later d e = grind (arith, nat_tests)

by_earlier : (d : ℕ) → age_by d ≡ Earlier → 128 ≤ d
by_earlier d e = grind (arith, nat_tests)

module _ (first known_start heard_start known heard : ℕ) (known_few : known_start ≤ 127) (heard_few : heard_start ≤ 127)
    (known_is : known ≡ (first + known_start) % 256) (heard_is : heard ≡ (first + heard_start) % 256) where
  pub same_start : age_of known heard ≡ Same → heard_start ≡ known_start
  same_start e = omega (arith, by_same (lead known heard) e)

  pub later_start : age_of known heard ≡ Later → known_start < heard_start
  later_start e = omega (arith, by_later (lead known heard) e)

  pub earlier_start : age_of known heard ≡ Earlier → heard_start < known_start
  earlier_start e = omega (arith, by_earlier (lead known heard) e)
