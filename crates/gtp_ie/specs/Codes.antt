-- The printed numbers of faults of elements, after I.
use Rattle.std.specs.Prelude.{ℕ}
use Rattle.gtp_ie.specs.declared.fault.IeFault.{IeFault}
use Rattle.gtp_ie.specs.declared.fault.IeFault.TheVariants as faults

abbrev pub number_of : IeFault → ℕ
number_of (faults.Truncated at) = 1
number_of (faults.ShortValue kind instance at) = 2
number_of (faults.BadValue kind instance at) = 3
number_of faults.Memory = 4
number_of faults.TooLong = 5
