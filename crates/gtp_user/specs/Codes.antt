-- The printed numbers of faults of the user plane, after U.
use Rattle.std.specs.Prelude.{ℕ}
use Rattle.gtp_user.specs.declared.fault.UserFault.{UserFault}
use Rattle.gtp_user.specs.declared.fault.UserFault.TheVariants as faults

-- a header that is not whole
abbrev pub short_number : ℕ
short_number = 1

-- another length than the one that is stated
abbrev pub length_number : ℕ
length_number = 4

abbrev pub number_of : UserFault → ℕ
number_of (faults.Short held) = short_number
number_of (faults.Version version) = 2
number_of faults.Protocol = 3
number_of (faults.Length stated held) = length_number
number_of (faults.ExtensionZero at) = 5
number_of (faults.ExtensionPast at) = 6
number_of (faults.ExtensionNeeded kind at) = 7
number_of (faults.Missing kind) = 8
number_of (faults.Element at) = 9
number_of faults.Memory = 10
number_of faults.TooLong = 11
