-- For private contracts and proofs: the place that a fault tells.
use Rattle.std.specs.Prelude.{ℕ, Some}
use Rattle.gtp_ie.specs.declared.fault.IeFault.{IeFault}
use Rattle.gtp_ie.specs.declared.fault.IeFault.TheVariants as elements
use Rattle.gtp_v2.specs.declared.fault.V2Fault.{V2Fault}
use Rattle.gtp_v2.specs.declared.fault.V2Fault.TheVariants as faults

abbrev pub place_of_element : IeFault → ℕ
place_of_element (elements.Truncated at) = at
place_of_element (elements.ShortValue kind instance at) = at
place_of_element (elements.BadValue kind instance at) = at
place_of_element fault = 0

abbrev pub place_of_fault : V2Fault → ℕ
place_of_fault (faults.BadPiggyback at) = at
place_of_fault (faults.Missing kind instance conditional (Some at) head) = at
place_of_fault (faults.Element fault head) = place_of_element fault
place_of_fault fault = 0
