-- When a frame of a block was captured: a count of units since 1970 (draft-ietf-opsawg-pcapng, if_tsresol and if_tsoffset).
use Rattle.std.specs.Prelude.{ℕ, ◌+◌, ◌-◌, ◌*◌, ◌/◌, ◌%◌, ◌^◌, ◌==◌, nat_lt, if◌then◌else◌}
use Rattle.gtp_capture.specs.declared.captured.Time.{Time}
use Rattle.gtp_capture.specs.declared.head.Unit.TheVariants.{Microseconds, Nanoseconds}

-- How many units a second has: ten to the power of a resolution below 128; else two to the power of what is above 128.
abbrev pub per_second : ℕ → ℕ
per_second resolution = if nat_lt resolution 128 then 10 ^ resolution else 2 ^ (resolution - 128)

-- whole seconds, with the seconds of an offset; the low 32 bits of the sum are kept
abbrev pub seconds_in : ℕ → ℕ → ℕ
seconds_in seconds offset = (seconds + offset) % 4294967296

-- what so many units are beyond whole seconds, in nanoseconds, rounded down
abbrev pub nanoseconds_in : ℕ → ℕ → ℕ
nanoseconds_in count second = count % second * 1000000000 / second

-- A count of microseconds (resolution 6) is told in these, any other in nanoseconds.
abbrev pub time_at : ℕ → ℕ → ℕ → Time
time_at resolution offset count =
    if resolution == 6
    then record { seconds = seconds_in (count / 1000000) offset; fraction = count % 1000000; unit = Microseconds }
    else record { seconds = seconds_in (count / per_second resolution) offset; fraction = nanoseconds_in count (per_second resolution); unit = Nanoseconds }
