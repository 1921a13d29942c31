-- The printed numbers of faults of the control plane, after H.
use Rattle.std.specs.Prelude.{ℕ}
use Rattle.gtp_v2.specs.declared.fault.V2Fault.{V2Fault}
use Rattle.gtp_v2.specs.declared.fault.V2Fault.TheVariants as faults

-- a header that is not whole
abbrev pub short_number : ℕ
short_number = 1

-- another length than the one that is stated
abbrev pub length_number : ℕ
length_number = 3

-- an element that is missing
abbrev pub missing_number : ℕ
missing_number = 6

-- an element that does not read, or a list of elements that is not whole
abbrev pub element_number : ℕ
element_number = 7

abbrev pub number_of : V2Fault → ℕ
number_of (faults.Short held) = short_number
number_of (faults.Version version) = 2
number_of (faults.Length stated held) = length_number
number_of (faults.FlagT kind) = 4
number_of (faults.BadPiggyback at) = 5
number_of (faults.Missing kind instance conditional group head) = missing_number
number_of (faults.Element fault head) = element_number
number_of faults.Memory = 8
number_of faults.TooLong = 9
