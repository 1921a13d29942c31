-- What a message says, what a fault in it tells of it, and for which messages memory is allocated.
use Rattle.std.specs.Prelude.{◌≡◌, ◌<◌, ◌||◌, length, IsOkAnd, ℕ, List, Option, Some, None, Result, Ok, Err, true}
use Rattle.gtp_values.specs.TunnelEnd.{TunnelEnd}
use Rattle.gtp_v2.specs.declared.fault.Head.{Head}
use Rattle.gtp_v2.specs.declared.fault.RowFault.{RowFault}
use Rattle.gtp_v2.specs.declared.fault.RowFault.TheVariants as row_faults
use Rattle.gtp_v2.specs.declared.fault.V2Fault.{V2Fault}
use Rattle.gtp_v2.specs.declared.fault.V2Fault.TheVariants as faults
use Rattle.gtp_v2.specs.Table.{Line, Field, Table, allocates}
use Rattle.gtp_v2.specs.Headed.{Headed}
use Rattle.gtp_v2.specs.Tables.{table_of, is_boxed}

-- what a fault in an element tells of the message
abbrev pub head_of : Headed → Option TunnelEnd → Head
head_of h sender = record { kind = h.kind; teid = h.teid; seq = h.seq; priority = h.priority; sender = sender }

-- a fault in a row, told with the head
abbrev pub with_head : Head → RowFault → V2Fault
with_head head (row_faults.Missing kind instance conditional group) = faults.Missing kind instance conditional group head
with_head head (row_faults.Element fault) = faults.Element fault head

-- what a message carries: the fields of its table's lines, or octets
pub data Content : Type 0 where
  Fields : List Field → Content
  Raw : List ℕ → Content

-- the octets, where they are kept
abbrev pub raw_of : Content → Option (List ℕ)
raw_of (Fields fields) = None
raw_of (Raw octets) = Some octets

-- a message, without how it is kept
pub record MessageValue : Type 0 where
  pub kind : ℕ
  pub teid : Option ℕ
  pub seq : ℕ
  pub priority : Option ℕ
  pub content : Content

-- out of memory, where the outcome would be something for which memory is allocated; or the outcome is this fault
abbrev pub FaultIs : {Y : Type 0} → (Y → Type 0) → V2Fault → Result Y V2Fault → Type 0
FaultIs Allocates faults.Memory outcome = IsOkAnd outcome Allocates
FaultIs Allocates fault outcome = outcome ≡ Err fault

-- the outcome of a call, its value seen by view, is this one, unless memory ran out
abbrev pub MessageGives : {X Y : Type 0} → (Y → Type 0) → (X → Y) → Result X V2Fault → Result Y V2Fault → Type 0
MessageGives Allocates view (Ok x) outcome = outcome ≡ Ok (view x)
MessageGives Allocates view (Err fault) outcome = FaultIs Allocates fault outcome

-- memory is allocated for fields that are kept in a box, for a list that has a member, and for octets that are kept
abbrev pub FieldsAllocate : ℕ → List Line → Content → Type 0
FieldsAllocate kind lines (Fields fields) = (is_boxed kind || allocates lines fields) ≡ true
FieldsAllocate kind lines (Raw octets) = ⊥

abbrev pub ContentAllocates : Option Table → Content → Type 0
ContentAllocates (Some table) content = FieldsAllocate table.kind table.lines content
ContentAllocates None (Raw octets) = 0 < length octets
ContentAllocates table content = ⊥

abbrev pub MessageAllocates : MessageValue → Type 0
MessageAllocates m = ContentAllocates (table_of m.kind) m.content

abbrev pub with_content : Headed → Content → MessageValue
with_content h content = record { kind = h.kind; teid = h.teid; seq = h.seq; priority = h.priority; content = content }
