-- Proper prefixes of datagrams.
use Rattle.std.specs.Prelude.{ℕ, ◌-◌, nat_lt, ◌==◌, if◌then◌else◌}
use Rattle.gtp_v2.specs.declared.fault.V2Fault.{V2Fault}
use Rattle.gtp_v2.specs.declared.fault.V2Fault.TheVariants as faults

-- the fault of the first so many octets of a message that has so many in all: too few for a header's first four octets, or
-- fewer than that header states
abbrev pub prefix_fault : ℕ → ℕ → V2Fault
prefix_fault held whole = if nat_lt held 4 then faults.Short held else faults.Length (whole - 4) (held - 4)

-- the same of a datagram of two messages, of so many octets each
abbrev pub pair_prefix_fault : ℕ → ℕ → ℕ → V2Fault
pair_prefix_fault held front back =
    if nat_lt held front
    then prefix_fault held front
    else if held == front then faults.BadPiggyback front else prefix_fault (held - front) back
