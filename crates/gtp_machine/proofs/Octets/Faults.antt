-- A fault of reading is no message.
use Rattle.std.specs.Prelude.{ℕ, Option, Some, None}
use Rattle.gtp_ie.specs.declared.fault.IeFault.{IeFault}
use Rattle.gtp_ie.specs.declared.fault.IeFault.TheVariants as elements
use Rattle.gtp_v2.specs.declared.fault.Head.{Head}
use Rattle.gtp_v2.specs.declared.fault.V2Fault.{V2Fault}
use Rattle.gtp_v2.specs.declared.fault.V2Fault.TheVariants as faults
use Rattle.gtp_machine.specs.Input.{ControlReading, Control_message, Faulty, Control_fault, MessageType, Defect, Too_short, Out_of_range}
use Rattle.gtp_machine.specs.Reading.{request_type, defect_in, missing_in, element_fault, control_fault}

abbrev pub IsFault : ControlReading → Type 0
IsFault (Control_message m) = ⊥
IsFault (Faulty f) = Unit {0}
IsFault (Control_fault fault) = Unit {0}

defect_is : (kind : Option MessageType) (head : Head) (defect : Defect) (element instance : ℕ) → IsFault (defect_in kind head defect element instance)
defect_is None head defect element instance = tt
defect_is (Some kind) head defect element instance = tt

element_is : (head : Head) (fault : IeFault) → IsFault (element_fault head fault)
element_is head (elements.Truncated at) = tt
element_is head (elements.ShortValue kind instance at) = defect_is (request_type head.kind) head Too_short kind instance
element_is head (elements.BadValue kind instance at) = defect_is (request_type head.kind) head Out_of_range kind instance
element_is head elements.Memory = tt
element_is head elements.TooLong = tt

pub fault_is : (fault : V2Fault) → IsFault (control_fault fault)
fault_is (faults.Short held) = tt
fault_is (faults.Version version) = tt
fault_is (faults.BadPiggyback at) = tt
fault_is (faults.Length stated held) = tt
fault_is (faults.FlagT kind) = tt
fault_is (faults.Missing kind instance conditional group head) = defect_is (request_type head.kind) head (missing_in conditional) kind instance
fault_is (faults.Element fault head) = element_is head fault
fault_is faults.Memory = tt
fault_is faults.TooLong = tt
