-- A control datagram as JSON: the reading of `gtp_lines`, by members of objects.
use Rattle.std.specs.Prelude.{◌≡◌, ℕ, ◌+◌, ◌==◌, if◌then◌else◌, Bool, true, false, List, [], ◌++◌, map, drop, Option, Some, None, option_map, Result, Ok, Err, codes}
use Rattle.json.specs.Json.{Json, string}
use Rattle.gtp_ie.specs.declared.fault.IeFault.{IeFault}
use Rattle.gtp_ie.specs.declared.fault.IeFault.TheVariants as elements
use Rattle.gtp_ie.specs.Element.{Element, elements_of}
use Rattle.gtp_ie.specs.Form.{bearer_context}
use Rattle.gtp_ie.specs.Octets.{AreElements}
use Rattle.gtp_v2.specs.declared.fault.V2Fault.{V2Fault}
use Rattle.gtp_v2.specs.declared.fault.V2Fault.TheVariants as faults
use Rattle.gtp_v2.specs.Table.{Table}
use Rattle.gtp_v2.specs.Tables.{table_of}
use Rattle.gtp_v2.specs.Message.{Content, Fields, Raw, MessageValue}
use Rattle.gtp_v2.specs.Datagram.{IsMessage}
use Rattle.gtp_v2.specs.Pair.{Announces}
use Rattle.gtp_v2.specs.Viewed.{Viewed, place_of}
use Rattle.gtp_lines.specs.All.{fault_context}
use Rattle.gtp_json.specs.Tree.{member, object_of, array_of, number_of}
use Rattle.gtp_json.specs.Values.{teid_value, octets_members, body_members}

-- ---- elements

-- what stands before an element's value
abbrev pub element_head : Element → List (List ℕ × Json)
element_head e = member (codes "type") (number_of e.kind) ++ member (codes "instance") (number_of e.instance)

-- an element inside a group
abbrev pub inner_json : Element → Json
inner_json e = object_of (element_head e ++ body_members e.kind e.body)

-- a bearer context by its elements; or its octets where they are not whole elements
abbrev pub group_members : Element → Result (List Element) ℕ → List (List ℕ × Json)
group_members e (Ok inner) = member (codes "name") (string (codes "bearer-context")) ++ member (codes "elements") (array_of (map inner_json inner))
group_members e (Err at) = octets_members e.body

abbrev pub element_members : Element → List (List ℕ × Json)
element_members e = if e.kind == bearer_context then group_members e (elements_of (e.at + 4) e.body) else body_members e.kind e.body

abbrev pub element_json : Element → Json
element_json e = object_of (element_head e ++ element_members e)

-- ---- messages

-- a name, where there is one
abbrev pub name_members : Option (List ℕ) → List (List ℕ × Json)
name_members None = []
name_members (Some name) = member (codes "name") (string name)

-- the type of a message, by its number and its name
unfoldable pub title_members : Option (List ℕ) → ℕ → List (List ℕ × Json)
title_members name kind = member (codes "type") (number_of kind) ++ name_members name

abbrev pub teid_members : Option ℕ → List (List ℕ × Json)
teid_members None = []
teid_members (Some teid) = member (codes "teid") (teid_value teid)

abbrev pub priority_members : Option ℕ → List (List ℕ × Json)
priority_members None = []
priority_members (Some priority) = member (codes "priority") (number_of priority)

-- what a header says
abbrev pub header_members : Option (List ℕ) → ℕ → Option ℕ → ℕ → Option ℕ → List (List ℕ × Json)
header_members name kind teid seq priority = title_members name kind ++ (teid_members teid ++ (member (codes "seq") (number_of seq) ++ priority_members priority))

-- the name of a type of message, where it has a table
abbrev pub name_of : ℕ → Option (List ℕ)
name_of kind = option_map (λ (t : Table). t.name) (table_of kind)

abbrev pub head_members : MessageValue → List (List ℕ × Json)
head_members m = header_members (name_of m.kind) m.kind m.teid m.seq m.priority

-- elements in the datagram's order
abbrev pub elements_members : List Element → List (List ℕ × Json)
elements_members es = member (codes "elements") (array_of (map element_json es))

-- what a message carries: the elements that its octets are; or the octets, where its type has no table
abbrev pub CarriedMembers : List ℕ → MessageValue → Content → List (List ℕ × Json) → Type 0
CarriedMembers octets m (Raw carried) ms = ms ≡ octets_members carried
CarriedMembers octets m (Fields fields) ms = (es : List Element) × AreElements (place_of m.teid) (drop (place_of m.teid) octets) es × (ms ≡ elements_members es)

-- the members of the message that octets spell
abbrev pub MessageMembers : List ℕ → List (List ℕ × Json) → Type 0
MessageMembers octets ms = (m : MessageValue) × IsMessage octets m × ((carried : List (List ℕ × Json)) × CarriedMembers octets m m.content carried × (ms ≡ head_members m ++ carried))

-- a second message, an object in that of the first
abbrev pub second_member : List (List ℕ × Json) → List (List ℕ × Json)
second_member ms = member (codes "second") (object_of ms)

-- the members of two messages, of which the first announces the second
abbrev pub PairMembers : List ℕ → List (List ℕ × Json) → Type 0
PairMembers octets ms =
    (front : List ℕ) × (back : List ℕ) × Announces octets front back
    × ((a : List (List ℕ × Json)) × (b : List (List ℕ × Json)) × MessageMembers front a × MessageMembers back b × (ms ≡ a ++ second_member b))

-- the same of elements that are at hand
abbrev pub carried_members : Content → List Element → List (List ℕ × Json)
carried_members (Raw carried) es = octets_members carried
carried_members (Fields fields) es = elements_members es

-- the members of a message that is viewed
abbrev pub seen_members : Viewed → List (List ℕ × Json)
seen_members v = head_members v.message ++ carried_members v.message.content v.elements

abbrev pub second_members : Option Viewed → List (List ℕ × Json)
second_members None = []
second_members (Some v) = second_member (seen_members v)

-- ---- faults

-- the code of a fault of elements
abbrev pub element_code : IeFault → List ℕ
element_code (elements.Truncated at) = codes "I1"
element_code (elements.ShortValue kind instance at) = codes "I2"
element_code (elements.BadValue kind instance at) = codes "I3"
element_code elements.Memory = codes "I4"
element_code elements.TooLong = codes "I5"

-- what follows it: the element, and its place
abbrev pub element_fault_detail : IeFault → List (List ℕ × Json)
element_fault_detail (elements.Truncated at) = member (codes "at") (number_of at)
element_fault_detail (elements.ShortValue kind instance at) = member (codes "type") (number_of kind) ++ (member (codes "instance") (number_of instance) ++ member (codes "at") (number_of at))
element_fault_detail (elements.BadValue kind instance at) = member (codes "type") (number_of kind) ++ (member (codes "instance") (number_of instance) ++ member (codes "at") (number_of at))
element_fault_detail fault = []

-- a fault of elements
abbrev pub element_fault_members : IeFault → List (List ℕ × Json)
element_fault_members f = member (codes "code") (string (element_code f)) ++ element_fault_detail f

abbrev pub mark_word : Bool → List ℕ
mark_word true = codes "conditional"
mark_word false = codes "mandatory"

-- the code of a fault
abbrev pub code_of : V2Fault → List ℕ
code_of (faults.Short held) = codes "H1"
code_of (faults.Version version) = codes "H2"
code_of (faults.Length stated held) = codes "H3"
code_of (faults.FlagT kind) = codes "H4"
code_of (faults.BadPiggyback at) = codes "H5"
code_of (faults.Missing kind instance conditional group head) = codes "H6"
code_of (faults.Element fault head) = codes "H7"
code_of faults.Memory = codes "H8"
code_of faults.TooLong = codes "H9"

-- what follows it
abbrev pub fault_detail : V2Fault → List (List ℕ × Json)
fault_detail (faults.Short held) = member (codes "held") (number_of held)
fault_detail (faults.Version version) = member (codes "version") (number_of version)
fault_detail (faults.Length stated held) = member (codes "stated") (number_of stated) ++ member (codes "held") (number_of held)
fault_detail (faults.FlagT kind) = member (codes "type") (number_of kind)
fault_detail (faults.Missing kind instance conditional group head) =
    member (codes "type") (number_of kind)
    ++ (member (codes "instance") (number_of instance) ++ member (codes "mark") (string (mark_word conditional)))
fault_detail (faults.Element fault head) = member (codes "element") (object_of (element_fault_members fault))
fault_detail (faults.BadPiggyback at) = member (codes "at") (number_of at)
fault_detail fault = []

abbrev pub fault_members : V2Fault → List (List ℕ × Json)
fault_members f = member (codes "code") (string (code_of f)) ++ fault_detail f

-- the number of the bearer context in which an element at fault lies, where it lies in one
abbrev pub context_members : Option ℕ → List (List ℕ × Json)
context_members None = []
context_members (Some number) = member (codes "bearer_context") (number_of number)

-- a fault of a datagram
abbrev pub placed_members : List ℕ → V2Fault → List (List ℕ × Json)
placed_members octets f = fault_members f ++ context_members (fault_context octets f)

-- a fault, as a member
abbrev pub fault_member : List (List ℕ × Json) → List (List ℕ × Json)
fault_member ms = member (codes "fault") (object_of ms)
