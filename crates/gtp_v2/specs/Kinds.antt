-- Values of the types that a table's rows have, whether or not its marks are met.
use Rattle.std.specs.Prelude.{ℕ, List, [], ◌∷◌, Option, Some, None, All}
use Rattle.gtp_ie.specs.Value.{Value, encoding_of}
use Rattle.gtp_ie.specs.Spelling.{Spells}
use Rattle.gtp_v2.specs.Table.{Row, Line, Single, Grouped, Several, Field, Plain, Groups, Table, kind_of}
use Rattle.gtp_v2.specs.Message.{Content, Fields, Raw}

-- a value of a type of element: its text spells it
abbrev pub HasKind : ℕ → Value → Type 0
HasKind kind v = Spells kind (encoding_of v) v

-- at most one value, of this type
abbrev pub AtMostOneOf : ℕ → List Value → Type 0
AtMostOneOf kind [] = Unit {0}
AtMostOneOf kind (v ∷ []) = HasKind kind v
AtMostOneOf kind (v ∷ w ∷ values) = ⊥

-- at most one value of its type in each row
abbrev pub RowsHaveKinds : List Row → List (List Value) → Type 0
RowsHaveKinds [] [] = Unit {0}
RowsHaveKinds (row ∷ rows) (values ∷ others) = AtMostOneOf (kind_of row) values × RowsHaveKinds rows others
RowsHaveKinds rows all = ⊥

-- values of a line's types
abbrev pub LineHasKind : Line → Field → Type 0
LineHasKind (Single row) (Plain values) = AtMostOneOf (kind_of row) values
LineHasKind (Grouped row rows) (Groups groups) = All (RowsHaveKinds rows) groups
LineHasKind (Several kind instance missed) (Plain values) = All (HasKind kind) values
LineHasKind line field = ⊥

abbrev pub LinesHaveKinds : List Line → List Field → Type 0
LinesHaveKinds [] [] = Unit {0}
LinesHaveKinds (line ∷ lines) (field ∷ fields) = LineHasKind line field × LinesHaveKinds lines fields
LinesHaveKinds lines fields = ⊥

-- values of the table's types, or octets where there is no table
abbrev pub ContentHasKinds : Option Table → Content → Type 0
ContentHasKinds (Some table) (Fields fields) = LinesHaveKinds table.lines fields
ContentHasKinds None (Raw octets) = Unit {0}
ContentHasKinds table content = ⊥
