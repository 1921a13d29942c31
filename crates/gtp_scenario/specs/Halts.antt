-- Reading that stops at an entry.
use Rattle.std.specs.Prelude.{◌≡◌, ℕ, Result, Ok, Err}
use Rattle.gtp_scenario.specs.declared.fault.Fault.{Fault}
use Rattle.gtp_scenario.specs.declared.fault.Fault.TheVariants as faults
use Rattle.gtp_scenario.specs.declared.halt.Halt.{Halt}
use Rattle.gtp_scenario.specs.declared.halt.Halt.TheVariants as halts
use Rattle.gtp_scenario.specs.declared.halt.Halted.{Halted}
use Rattle.gtp_scenario.specs.declared.halt.ItemFault.{ItemFault}
use Rattle.gtp_scenario.specs.declared.halt.ItemFault.TheVariants as item
use Rattle.gtp_scenario.specs.declared.halt.ListFault.{ListFault}
use Rattle.gtp_scenario.specs.declared.halt.ListFault.TheVariants as list

-- the fault of an entry of which a part cannot be read
abbrev pub item_fault_for : Fault → ItemFault
item_fault_for faults.Memory = item.Memory
item_fault_for faults.Wrong = item.Halted halts.Wrong

-- the fault of a list whose entry at this place has a fault
abbrev pub list_fault_for : ℕ → ItemFault → ListFault
list_fault_for place item.Memory = list.Memory
list_fault_for place (item.Halted halt) = list.Halted (record { place = place; halt = halt })

-- what a reader of an entry answers, its value seen by view, is a reading, unless memory ran out
abbrev pub ReadsItem : {X Y : Type 0} → (X → Y) → Result X ItemFault → (Result Y Halt → Type 0) → Type 0
ReadsItem view (Ok x) IsReading = IsReading (Ok (view x))
ReadsItem view (Err item.Memory) IsReading = Unit {0}
ReadsItem view (Err (item.Halted halt)) IsReading = IsReading (Err halt)

-- the same of a list
abbrev pub ReadsList : {X Y : Type 0} → (X → Y) → Result X ListFault → (Result Y Halted → Type 0) → Type 0
ReadsList view (Ok x) IsReading = IsReading (Ok (view x))
ReadsList view (Err list.Memory) IsReading = Unit {0}
ReadsList view (Err (list.Halted halted)) IsReading = IsReading (Err halted)
