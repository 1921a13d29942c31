-- The canonical encoding of the rows of a table, in the table's order.
use Rattle.std.specs.Prelude.{ℕ, List, [], ◌∷◌, ◌++◌}
use Rattle.std.specs.List.{flat_map}
use Rattle.gtp_ie.specs.Text.{element_encoding}
use Rattle.gtp_ie.specs.Value.{Value, encoding_of}
use Rattle.gtp_v2.specs.Table.{Row, Line, Single, Grouped, Several, Field, Plain, Groups, kind_of, instance_of}

-- the element of a value, where there is one
unfoldable pub value_encoding : ℕ → ℕ → List Value → List ℕ
value_encoding kind instance [] = []
value_encoding kind instance (v ∷ values) = element_encoding kind instance (encoding_of v)

abbrev pub rows_encoding : List Row → List (List Value) → List ℕ
rows_encoding (row ∷ rows) (values ∷ others) = value_encoding (kind_of row) (instance_of row) values ++ rows_encoding rows others
rows_encoding rows all = []

-- a group for each list of values
unfoldable pub groups_encoding : ℕ → ℕ → List Row → List (List (List Value)) → List ℕ
groups_encoding kind instance rows groups = flat_map (λ group. element_encoding kind instance (rows_encoding rows group)) groups

-- an element for each value
unfoldable pub several_encoding : ℕ → ℕ → List Value → List ℕ
several_encoding kind instance values = flat_map (λ v. element_encoding kind instance (encoding_of v)) values

abbrev pub line_encoding : Line → Field → List ℕ
line_encoding (Single row) (Plain values) = value_encoding (kind_of row) (instance_of row) values
line_encoding (Grouped row rows) (Groups groups) = groups_encoding (kind_of row) (instance_of row) rows groups
line_encoding (Several kind instance missed) (Plain values) = several_encoding kind instance values
line_encoding line field = []

abbrev pub lines_encoding : List Line → List Field → List ℕ
lines_encoding (line ∷ lines) (field ∷ fields) = line_encoding line field ++ lines_encoding lines fields
lines_encoding lines fields = []
