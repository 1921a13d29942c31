-- Which faults a datagram can have, and which instance of an element they name: four bits (TS 29.274 8.2).
use Rattle.std.specs.Prelude.{◌<◌}
use Rattle.gtp_ie.specs.declared.fault.IeFault.{IeFault}
use Rattle.gtp_ie.specs.declared.fault.IeFault.TheVariants.{ShortValue, BadValue}
use Rattle.gtp_v2.specs.declared.fault.V2Fault.{V2Fault}
use Rattle.gtp_v2.specs.declared.fault.V2Fault.TheVariants as faults

-- of an element that does not read
abbrev pub ElementInstanceIsSmall : IeFault → Type 0
ElementInstanceIsSmall (ShortValue kind instance at) = instance < 16
ElementInstanceIsSmall (BadValue kind instance at) = instance < 16
ElementInstanceIsSmall fault = Unit {0}

-- an instance that the fault of a datagram names is below 16
abbrev pub InstanceIsSmall : V2Fault → Type 0
InstanceIsSmall (faults.Missing kind instance conditional group head) = instance < 16
InstanceIsSmall (faults.Element fault head) = ElementInstanceIsSmall fault
InstanceIsSmall fault = Unit {0}

-- a fault that octets can have: not out of memory, nor too long, which is answered where a message is written
abbrev pub IsOfOctets : V2Fault → Type 0
IsOfOctets faults.Memory = ⊥
IsOfOctets faults.TooLong = ⊥
IsOfOctets fault = Unit {0}
