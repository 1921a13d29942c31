-- Reading functions, for private contracts and proofs: what a message says, or its first fault. `gtp_machine` cites
-- `message_at` in its `control_reading`, and has a law that this is the grammar's answer (`ControlByGrammar`).
use Rattle.std.specs.Prelude.{ℕ, Bool, true, List, Option, Some, None, is_some, Result, Ok, Err, ◌==◌, if◌then◌else◌}
use Rattle.std.specs.Bool.{beq}
use Rattle.gtp_values.specs.Steps.{◌>>=◌}
use Rattle.gtp_ie.specs.Element.{Element, elements_of}
use Rattle.gtp_ie.specs.Form.{number_of}
use Rattle.gtp_ie.specs.declared.form.Form.TheVariants.{FTeid}
use Rattle.gtp_ie.specs.Value.{Value, OfFTeid}
use Rattle.gtp_values.specs.TunnelEnd.{TunnelEnd}
use Rattle.gtp_v2.specs.declared.fault.Head.{Head}
use Rattle.gtp_v2.specs.declared.fault.RowFault.{RowFault}
use Rattle.gtp_v2.specs.declared.fault.V2Fault.{V2Fault}
use Rattle.gtp_v2.specs.declared.fault.V2Fault.TheVariants as faults
use Rattle.gtp_v2.specs.Table.{Line, Field, Table, start}
use Rattle.gtp_v2.specs.reading.Rows.{whole, lines_at}
use Rattle.gtp_v2.specs.Viewed.{optional_at}
use Rattle.gtp_v2.specs.Headed.{Headed}
use Rattle.gtp_v2.specs.reading.Headed.{header_at}
use Rattle.gtp_v2.specs.CreateSessionRequest.{create_session_request}
use Rattle.gtp_v2.specs.Tables.{table_of}
use Rattle.gtp_v2.specs.Asks.{Asks}
use Rattle.gtp_v2.specs.Message.{head_of, with_head, Content, Fields, Raw, MessageValue, with_content}

-- a reading of elements or rows, its fault told with the head
abbrev pub told : {X : Type 0} → Head → Result X RowFault → Result X V2Fault
told head (Ok x) = Ok x
told head (Err f) = Err (with_head head f)

-- the tunnel end that a value is
abbrev pub end_in : Option Value → Option TunnelEnd
end_in (Some (OfFTeid e)) = Some e
end_in _ = None

-- the sender's end for control messages, which a Create Session Request gives
unfoldable pub sender_of : ℕ → List Element → Option TunnelEnd
sender_of kind es = if kind == create_session_request.kind then end_in (optional_at (number_of FTeid) 0 es) else None

-- the elements after a header, whose form comes first
unfoldable pub list_at : Bool → Headed → Result (List Element) V2Fault
list_at has_teid h = if beq (is_some h.teid) has_teid then told (head_of h None) (whole (elements_of h.at h.rest)) else Err (faults.FlagT h.kind)

-- the fields that elements after a header give lines
abbrev pub fields_at : List Line → Headed → List Element → Result (List Field) V2Fault
fields_at lines h es = told (head_of h (sender_of h.kind es)) (lines_at start lines es)

-- the fields of a message with a table
unfoldable pub typed_at : Bool → List Line → Headed → Result (List Field) V2Fault
typed_at has_teid lines h = list_at has_teid h >>= λ es. fields_at lines h es

-- these fields are what it carries
abbrev pub as_fields : Result (List Field) V2Fault → Result Content V2Fault
as_fields r = r >>= λ fields. Ok (Fields fields)

-- what elements give lines, as what a message carries
abbrev pub carried_at : List Line → List Element → Result Content RowFault
carried_at lines es = lines_at start lines es >>= λ fields. Ok (Fields fields)

-- what a message carries, by its kind's table
abbrev pub by_table : Option Table → Headed → Result Content V2Fault
by_table None h = Ok (Raw h.rest)
by_table (Some table) h = as_fields (typed_at table.has_teid table.lines h)

-- the same where the elements after its header are these
abbrev pub content_among : Option Table → Headed → List Element → Result Content V2Fault
content_among None h es = Ok (Raw h.rest)
content_among (Some table) h es = as_fields (fields_at table.lines h es)

-- what a message carries
unfoldable pub content_at : Headed → Result Content V2Fault
content_at h = by_table (table_of h.kind) h

-- the message that octets spell
unfoldable pub message_at : List ℕ → Result MessageValue V2Fault
message_at octets = do
  h ← header_at octets
  content ← content_at h
  Ok (with_content h content)

-- ---- by what is asked of each type

-- a header has the form that is asked for
abbrev pub has_form : Option Bool → Headed → Bool
has_form None h = true
has_form (Some has_teid) h = beq (is_some h.teid) has_teid

-- the elements after a header
unfoldable pub list_by : Option Bool → Headed → Result (List Element) V2Fault
list_by form h = if has_form form h then told (head_of h None) (whole (elements_of h.at h.rest)) else Err (faults.FlagT h.kind)

-- the fields of a message of which lines are asked
unfoldable pub typed_by : Option Bool → List Line → Headed → Result (List Field) V2Fault
typed_by form lines h = list_by form h >>= λ es. fields_at lines h es

-- what a message carries
abbrev pub content_by : Option Asks → Headed → Result Content V2Fault
content_by None h = Ok (Raw h.rest)
content_by (Some asks) h = as_fields (typed_by asks.has_teid asks.lines h)

-- the message that octets spell
unfoldable pub message_by : (ℕ → Option Asks) → List ℕ → Result MessageValue V2Fault
message_by asked octets = do
  h ← header_at octets
  content ← content_by (asked h.kind) h
  Ok (with_content h content)
