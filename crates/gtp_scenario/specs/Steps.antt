-- Steps of reading, of which the first that fails decides.
use Rattle.std.specs.Prelude.{◌≡◌, Option, Some, None, Result, Ok, Err}
use Rattle.json.specs.declared.error.Error.{Error}
use Rattle.json.specs.declared.error.Error.TheVariants as errors
use Rattle.gtp_scenario.specs.declared.fault.Fault.{Fault}
use Rattle.gtp_scenario.specs.declared.fault.Fault.TheVariants as faults
use Rattle.gtp_scenario.specs.declared.fault.Refusal.{Refusal}
use Rattle.gtp_scenario.specs.declared.fault.ReadFault.{ReadFault}
use Rattle.gtp_scenario.specs.declared.fault.ReadFault.TheVariants as read_faults

-- the next step has the value of this one, and where there is none, both have none
infixl 10 ◌>>=◌
abbrev pub ◌>>=◌ : {A B : Type 0} → Option A → (A → Option B) → Option B
(Some x) >>= f = f x
None >>= f = None

-- no memory says nothing of what was read, and any other fault that it is none
abbrev pub IsNone : {Y : Type 0} → Fault → Option Y → Type 0
IsNone faults.Memory reading = Unit {0}
IsNone faults.Wrong reading = reading ≡ None

-- what a reader answers, its value seen by view, is what is read, unless memory ran out
abbrev pub Gives : {X Y : Type 0} → (X → Y) → Result X Fault → Option Y → Type 0
Gives view (Ok x) reading = reading ≡ Some (view x)
Gives view (Err fault) reading = IsNone fault reading

-- what a reader answers that says what it refuses, its value seen by view, is a reading, unless memory ran out
abbrev pub ReadsAs : {X Y : Type 0} → (X → Y) → Result X ReadFault → (Result Y Refusal → Type 0) → Type 0
ReadsAs view (Ok x) IsReading = IsReading (Ok (view x))
ReadsAs view (Err read_faults.Memory) IsReading = Unit {0}
ReadsAs view (Err (read_faults.Refused refusal)) IsReading = IsReading (Err refusal)

-- the fault of a scenario that is refused so where a part of it is wrong
abbrev pub refused_for : Refusal → Fault → ReadFault
refused_for refusal faults.Memory = read_faults.Memory
refused_for refusal faults.Wrong = read_faults.Refused refusal

-- the fault of a text that cannot be read
abbrev pub fault_for : Error → Fault
fault_for errors.OutOfMemory = faults.Memory
fault_for errors.Invalid = faults.Wrong
fault_for errors.TooLong = faults.Wrong
fault_for errors.DuplicateKey = faults.Wrong
