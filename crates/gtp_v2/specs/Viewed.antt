-- What a view of a message stands for.
use Rattle.std.specs.Prelude.{◌≡◌, ℕ, ◌+◌, ◌==◌, ◌&&◌, Bool, true, false, List, [], ◌∷◌, ◌++◌, Option, Some, None, if◌then◌else◌, drop, is_some, option_map, option_to_list, unwrap_or, Result, Ok, Err}
use Rattle.gtp_ie.specs.Element.{Element, elements_of, list_of, first_of}
use Rattle.gtp_ie.specs.Form.{bearer_context}
use Rattle.gtp_ie.specs.Octets.{AreElements}
use Rattle.gtp_ie.specs.Value.{Value, value_at}
use Rattle.gtp_v2.specs.Table.{Row, Mandatory, Conditional, Line, Single, Grouped, Several, Field, Plain, Groups, Table, kind_of, instance_of}
use Rattle.gtp_v2.specs.Message.{Content, Fields, Raw, MessageValue}
use Rattle.gtp_v2.specs.Tables.{table_of}
use Rattle.gtp_ie.specs.declared.fault.ReadFault.{ReadFault}

-- the message that is spelled, the octets after its header, and the elements that these are (none of a message kept as octets)
pub record Viewed : Type 0 where
  pub message : MessageValue
  pub octets : List ℕ
  pub elements : List Element

-- a datagram's message, the second one where it announces one, and the octets of that
pub record ViewedDatagram : Type 0 where
  pub message : Viewed
  pub second : Option Viewed
  pub back : List ℕ

-- where what a message carries begins: after a header without a TEID, or with one (TS 29.274 5.1)
abbrev pub place_of : Option ℕ → ℕ
place_of None = 8
place_of (Some teid) = 12

-- the elements that a message's octets carry; of a message that is kept as octets there are none
abbrev pub ElementsAre : List ℕ → MessageValue → Content → List Element → Type 0
ElementsAre octets m (Raw carried) es = es ≡ []
ElementsAre octets m (Fields fields) es = AreElements (place_of m.teid) (drop (place_of m.teid) octets) es

abbrev pub Carries : List ℕ → Viewed → Type 0
Carries octets v = ElementsAre octets v.message v.message.content v.elements

-- the octets after the header of a message
abbrev pub Follows : List ℕ → Viewed → Type 0
Follows octets v = v.octets ≡ drop (place_of v.message.teid) octets

-- ---- what a message has in a line of its table

-- the first of these lines that is asked for, and its field
abbrev pub found_among : (Line → Bool) → List Line → List Field → Option (Line × Field)
found_among asked (line ∷ lines) (field ∷ fields) = if asked line then Some (line, field) else found_among asked lines fields
found_among asked lines fields = None

-- the same of what a message carries, by its table
abbrev pub found_by : (Line → Bool) → Option Table → Content → Option (Line × Field)
found_by asked (Some table) (Fields fields) = found_among asked table.lines fields
found_by asked table content = None

-- the values of a field that has no groups
abbrev pub plain_of : Field → List Value
plain_of (Plain values) = values
plain_of (Groups groups) = []

-- ---- rows of at most one value

-- a row of this type and instance
abbrev pub is_row : ℕ → ℕ → Line → Bool
is_row kind instance (Single row) = (kind_of row == kind) && (instance_of row == instance)
is_row kind instance line = false

abbrev pub values_by : ℕ → ℕ → Option Table → Content → Option (List Value)
values_by kind instance table content = option_map (λ (p : Line × Field). plain_of p.1) (found_by (is_row kind instance) table content)

-- the value in the row of a type and instance, in a list of at most one; None where the table of the message has no such row
abbrev pub in_row : ℕ → ℕ → MessageValue → Option (List Value)
in_row kind instance m = values_by kind instance (table_of m.kind) m.content

-- the first of these lines that is asked for
abbrev pub line_among : (Line → Bool) → List Line → Option Line
line_among asked [] = None
line_among asked (line ∷ lines) = if asked line then Some line else line_among asked lines

-- the same of a table
abbrev pub line_by : (Line → Bool) → Option Table → Option Line
line_by asked None = None
line_by asked (Some table) = line_among asked table.lines

-- messages of this type have a row of a type and instance
abbrev pub has_row : ℕ → ℕ → ℕ → Bool
has_row message kind instance = is_some (line_by (is_row kind instance) (table_of message))

-- what a message has in the row of a type and instance; none where its table has no such row
abbrev pub row_of : ℕ → ℕ → MessageValue → List Value
row_of kind instance m = unwrap_or (in_row kind instance m) []

-- a row that always has a value, or a group
abbrev pub always_there : Row → Bool
always_there (Mandatory kind instance) = true
always_there (Conditional kind instance) = true
always_there row = false

-- a row that always has a value
abbrev pub is_needed : Line → Bool
is_needed (Single row) = always_there row
is_needed line = false

-- the first row of this type and instance always has a value
abbrev pub needs_among : ℕ → ℕ → List Line → Bool
needs_among kind instance [] = false
needs_among kind instance (line ∷ lines) = if is_row kind instance line then is_needed line else needs_among kind instance lines

abbrev pub needs_by : ℕ → ℕ → Option Table → Bool
needs_by kind instance None = false
needs_by kind instance (Some table) = needs_among kind instance table.lines

-- messages of this type always have a value in the row of a type and instance
abbrev pub always_has : ℕ → ℕ → ℕ → Bool
always_has message kind instance = needs_by kind instance (table_of message)

abbrev pub front_value : List Value → Option Value
front_value [] = None
front_value (v ∷ values) = Some v

-- the value of a reading, if it has one
abbrev pub value_or_none : Result Value ReadFault → Option Value
value_or_none (Ok v) = Some v
value_or_none (Err f) = None

-- the value of an element that is not needed
abbrev pub welcome : ℕ → Option Element → Option Value
welcome kind None = None
welcome kind (Some e) = value_or_none (value_at kind e.body)

-- the value of the first element of a type and instance, where there is one and it reads
unfoldable pub optional_at : ℕ → ℕ → List Element → Option Value
optional_at kind instance es = welcome kind (first_of kind instance es)

-- ---- lists of values

-- the values of those elements that spell one, in order
abbrev pub values_of : ℕ → List Element → List Value
values_of kind [] = []
values_of kind (e ∷ es) = option_to_list (value_or_none (value_at kind e.body)) ++ values_of kind es

-- a row of several values, of this type and instance
abbrev pub is_list : ℕ → ℕ → Line → Bool
is_list kind instance (Several k i missed) = (k == kind) && (i == instance)
is_list kind instance line = false

abbrev pub list_by : ℕ → ℕ → Option Table → Content → Option (List Value)
list_by kind instance table content = option_map (λ (p : Line × Field). plain_of p.1) (found_by (is_list kind instance) table content)

-- the values in the row of a type and instance of which a message may have several; None where its table has no such row
abbrev pub in_list : ℕ → ℕ → MessageValue → Option (List Value)
in_list kind instance m = list_by kind instance (table_of m.kind) m.content

-- messages of this type may have several values of a type and instance
abbrev pub has_several : ℕ → ℕ → ℕ → Bool
has_several message kind instance = is_some (line_by (is_list kind instance) (table_of message))

-- the several values of a type and instance in a message; none where its table has no such row
abbrev pub several_of : ℕ → ℕ → MessageValue → List Value
several_of kind instance m = unwrap_or (in_list kind instance m) []

-- ---- groups

-- the elements in a group
abbrev pub inner_of : Element → List Element
inner_of e = list_of (elements_of (e.at + 4) e.body)

-- what the rows of a group have in elements that were checked: each the value of its first element, or none
abbrev pub values_in : List Row → List Element → List (List Value)
values_in [] es = []
values_in (row ∷ rows) es = option_to_list (optional_at (kind_of row) (instance_of row) es) ∷ values_in rows es

-- a row of groups, of this type and instance
abbrev pub is_groups : ℕ → ℕ → Line → Bool
is_groups kind instance (Grouped row rows) = (kind_of row == kind) && (instance_of row == instance)
is_groups kind instance line = false

-- the rows in each group of a line, and the groups of a field
abbrev pub rows_of : Line → List Row
rows_of (Grouped row rows) = rows
rows_of line = []

abbrev pub groups_of : Field → List (List (List Value))
groups_of (Groups groups) = groups
groups_of (Plain values) = []

abbrev pub groups_by : ℕ → ℕ → Option Table → Content → Option (List Row × List (List (List Value)))
groups_by kind instance table content = option_map (λ (p : Line × Field). (rows_of p.0, groups_of p.1)) (found_by (is_groups kind instance) table content)

-- the rows of the groups of a type and instance in a message, and what the groups have; None where its table has no such groups
abbrev pub in_groups : ℕ → ℕ → MessageValue → Option (List Row × List (List (List Value)))
in_groups kind instance m = groups_by kind instance (table_of m.kind) m.content

-- ---- bearer contexts, which are the groups of instance 0

-- the line of bearer contexts in the table of messages of this type
abbrev pub context_line : ℕ → Option Line
context_line message = line_by (is_groups bearer_context 0) (table_of message)

-- messages of this type may have bearer contexts
abbrev pub has_contexts : ℕ → Bool
has_contexts message = is_some (context_line message)

-- the rows of a bearer context of a message of this type
abbrev pub context_rows : ℕ → List Row
context_rows message = unwrap_or (option_map rows_of (context_line message)) []

-- groups of which there always is one
abbrev pub always_some : Line → Bool
always_some (Grouped row rows) = always_there row
always_some line = false

-- messages of this type always have a bearer context
abbrev pub always_has_context : ℕ → Bool
always_has_context message = unwrap_or (option_map always_some (context_line message)) false

-- the first of these rows of a type and instance always has a value
abbrev pub always_among : ℕ → ℕ → List Row → Bool
always_among kind instance [] = false
always_among kind instance (row ∷ rows) = if (kind_of row == kind) && (instance_of row == instance) then always_there row else always_among kind instance rows

-- bearer contexts of messages of this type always have a value in the row of a type and instance
abbrev pub context_always_has : ℕ → ℕ → ℕ → Bool
context_always_has message kind instance = always_among kind instance (context_rows message)

-- what the rows of each bearer context of a message have; none where its table has no bearer contexts
abbrev pub contexts_of : MessageValue → List (List (List Value))
contexts_of m = (unwrap_or (in_groups bearer_context 0 m) ([], [])).1
