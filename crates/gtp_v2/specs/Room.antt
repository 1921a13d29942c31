-- How many octets the rows of a table take.
use Rattle.std.specs.Prelude.{◌<◌, ◌≤◌, ◌+◌, ◌*◌, ℕ, List, [], ◌∷◌, length, Option, Some, None}
use Rattle.gtp_ie.specs.Value.{Value, encoding_of}
use Rattle.gtp_v2.specs.Table.{Row, Line, Single, Grouped, Several, Field, Plain, Groups, Table}
use Rattle.gtp_v2.specs.Message.{Content, Fields, Raw, MessageValue}
use Rattle.gtp_v2.specs.Tables.{table_of}

-- the element of a value, where there is one: four octets before its body
abbrev pub value_length : List Value → ℕ
value_length [] = 0
value_length (v ∷ values) = 4 + length (encoding_of v)

-- an element for each value
abbrev pub several_length : List Value → ℕ
several_length [] = 0
several_length (v ∷ values) = 4 + length (encoding_of v) + several_length values

-- at most so many octets of a room were taken
abbrev pub TakesAtMost : ℕ → ℕ → Option ℕ → Type 0
TakesAtMost room most None = room < most
TakesAtMost room most (Some left) = room ≤ most + left

-- the most octets that a group of these rows can take: four, and an element of at most 259 octets for each row
abbrev pub most_of_group : List Row → ℕ
most_of_group rows = 4 + 259 * length rows

-- the most octets that a line can take: 259 for each element of a value
abbrev pub most_of_line : Line → Field → ℕ
most_of_line (Single row) field = 259
most_of_line (Grouped row rows) (Groups groups) = most_of_group rows * length groups
most_of_line (Several kind instance missed) (Plain values) = 259 * length values
most_of_line line field = 0

abbrev pub most_of_lines : List Line → List Field → ℕ
most_of_lines (line ∷ lines) (field ∷ fields) = most_of_line line field + most_of_lines lines fields
most_of_lines lines fields = 0

-- the most octets that what a message carries can take
abbrev pub most_carried_by : Option Table → Content → ℕ
most_carried_by (Some table) (Fields fields) = most_of_lines table.lines fields
most_carried_by None (Raw octets) = length octets
most_carried_by table content = 0

abbrev pub most_carried : MessageValue → ℕ
most_carried m = most_carried_by (table_of m.kind) m.content

-- how many members the list of a line has, where it has one
abbrev pub members_of_line : Line → Field → ℕ
members_of_line (Single row) field = 0
members_of_line (Grouped row rows) (Groups groups) = length groups
members_of_line (Several kind instance missed) (Plain values) = length values
members_of_line line field = 0

abbrev pub members_of_lines : List Line → List Field → ℕ
members_of_lines (line ∷ lines) (field ∷ fields) = members_of_line line field + members_of_lines lines fields
members_of_lines lines fields = 0

abbrev pub members_by : Option Table → Content → ℕ
members_by (Some table) (Fields fields) = members_of_lines table.lines fields
members_by None (Raw octets) = length octets
members_by table content = 0

-- how many members the lists of a message have, all together: bearer contexts, identities of bearers, or octets that are kept
abbrev pub members : MessageValue → ℕ
members m = members_by (table_of m.kind) m.content
