-- The lines of a control datagram.
use Rattle.std.specs.Prelude.{ℕ, ◌+◌, ◌==◌, if◌then◌else◌, Bool, true, false, List, [], ◌++◌, Option, Some, None, Result, Ok, Err, codes, decimal}
use Rattle.std.specs.List.{flat_map}
use Rattle.gtp_ie.specs.declared.fault.IeFault.{IeFault}
use Rattle.gtp_ie.specs.declared.fault.IeFault.TheVariants as elements
use Rattle.gtp_ie.specs.Codes as element_codes
use Rattle.gtp_ie.specs.Element.{Element, elements_of}
use Rattle.gtp_ie.specs.Form.{bearer_context}
use Rattle.gtp_v2.specs.declared.fault.V2Fault.{V2Fault}
use Rattle.gtp_v2.specs.declared.fault.V2Fault.TheVariants as faults
use Rattle.gtp_v2.specs.Codes.{number_of}
use Rattle.gtp_v2.specs.Table.{Table}
use Rattle.gtp_v2.specs.Tables.{table_of}
use Rattle.gtp_v2.specs.Message.{Content, Fields, Raw, MessageValue}
use Rattle.gtp_v2.specs.Viewed.{Viewed}
use Rattle.gtp_values.specs.Teid.{teid_text}
use Rattle.gtp_lines.specs.Text.{octets_text}
use Rattle.gtp_lines.specs.Values.{field_shown, raw_shown, body_shown}

-- what stands before an element's value
abbrev pub element_head : Element → List ℕ
element_head e = codes "ie " ++ (decimal e.kind ++ (codes " " ++ (decimal e.instance ++ codes " ")))

-- the line of an element inside a group
abbrev pub inner_line : Element → List ℕ
inner_line e = codes "  " ++ (element_head e ++ (body_shown e.kind e.body ++ codes "\n"))

-- a bearer context by its elements; or its octets where they are not whole elements
abbrev pub group_shown : Element → Result (List Element) ℕ → List ℕ
group_shown e (Ok inner) = codes "bearer-context\n" ++ flat_map inner_line inner
group_shown e (Err at) = raw_shown e.body ++ codes "\n"

-- the lines of an element
abbrev pub element_lines : Element → List ℕ
element_lines e = element_head e ++ (if e.kind == bearer_context then group_shown e (elements_of (e.at + 4) e.body) else (body_shown e.kind e.body ++ codes "\n"))

-- the name of a type of message: that of its table, where it has one
abbrev pub name_shown : Option Table → List ℕ
name_shown None = codes "other"
name_shown (Some table) = table.name

abbrev pub message_name : ℕ → List ℕ
message_name kind = name_shown (table_of kind)

abbrev pub teid_shown : Option ℕ → List ℕ
teid_shown None = []
teid_shown (Some teid) = codes " teid " ++ teid_text teid

abbrev pub priority_shown : Option ℕ → List ℕ
priority_shown None = []
priority_shown (Some priority) = codes " priority " ++ decimal priority

-- the type of a message, by its number and its name
unfoldable pub title_shown : List ℕ → ℕ → List ℕ
title_shown name kind = field_shown (codes "gtpv2 type ") kind ++ (codes " " ++ name)

-- the first line of a message of this name, type, TEID, sequence number and priority
abbrev pub first_line : List ℕ → ℕ → Option ℕ → ℕ → Option ℕ → List ℕ
first_line name kind teid seq priority = title_shown name kind ++ (teid_shown teid ++ (field_shown (codes " seq ") seq ++ (priority_shown priority ++ codes "\n")))

abbrev pub head_line : MessageValue → List ℕ
head_line m = first_line (message_name m.kind) m.kind m.teid m.seq m.priority

-- the lines after the first: those of the elements in the datagram's order, or the octets of a message of another type
abbrev pub carried_lines : Content → List Element → List ℕ
carried_lines (Raw carried) es = codes "octets " ++ (octets_text carried ++ codes "\n")
carried_lines (Fields fields) es = flat_map element_lines es

-- the lines of a message that is viewed
abbrev pub seen_lines : Viewed → List ℕ
seen_lines v = head_line v.message ++ carried_lines v.message.content v.elements

-- the same of a datagram: those of its second message after those of the first
abbrev pub datagram_lines : Viewed → Option Viewed → List ℕ
datagram_lines first None = seen_lines first
datagram_lines first (Some second) = seen_lines first ++ seen_lines second

-- what follows the number of a fault of elements: the element, and its place
abbrev pub element_fault_detail : IeFault → List ℕ
element_fault_detail (elements.Truncated at) = codes " at " ++ decimal at
element_fault_detail (elements.ShortValue kind instance at) = codes " type " ++ (decimal kind ++ (codes " instance " ++ (decimal instance ++ (codes " at " ++ decimal at))))
element_fault_detail (elements.BadValue kind instance at) = codes " type " ++ (decimal kind ++ (codes " instance " ++ (decimal instance ++ (codes " at " ++ decimal at))))
element_fault_detail fault = []

-- a fault of elements
abbrev pub element_fault : IeFault → List ℕ
element_fault f = field_shown (codes "I") (element_codes.number_of f) ++ element_fault_detail f

abbrev pub mark_shown : Bool → List ℕ
mark_shown true = codes " conditional"
mark_shown false = codes " mandatory"

-- what follows the number of a fault
abbrev pub fault_detail : V2Fault → List ℕ
fault_detail (faults.Short held) = codes " held " ++ decimal held
fault_detail (faults.Version version) = codes " version " ++ decimal version
fault_detail (faults.Length stated held) = codes " stated " ++ (decimal stated ++ (codes " held " ++ decimal held))
fault_detail (faults.FlagT kind) = codes " type " ++ decimal kind
fault_detail (faults.Missing kind instance conditional group head) =
    codes " type " ++ (decimal kind ++ (codes " instance " ++ (decimal instance ++ mark_shown conditional)))
fault_detail (faults.Element fault head) = codes " " ++ element_fault fault
fault_detail (faults.BadPiggyback at) = codes " at " ++ decimal at
fault_detail fault = []

-- what follows the word of a fault
abbrev pub fault_shown : V2Fault → List ℕ
fault_shown f = field_shown (codes "H") (number_of f) ++ fault_detail f

-- the line of a fault
abbrev pub fault_line : V2Fault → List ℕ
fault_line f = codes "fault " ++ (fault_shown f ++ codes "\n")
