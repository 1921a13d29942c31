-- Which messages meet the marks of their table (TS 29.274 6.1.1): what is needed is there.
use Rattle.std.specs.Prelude.{◌≡◌, ◌<◌, Bool, true, ◌&&◌, List, ◌∷◌, length, Option, Some, is_some, All}
use Rattle.gtp_ie.specs.Value.{Value}
use Rattle.gtp_v2.specs.Table.{Row, Line, Single, Grouped, Several, Field, Plain, Groups, State, start, Table, accepts, after, need_of}
use Rattle.gtp_v2.specs.Grammar.{IsEnough}
use Rattle.gtp_v2.specs.Message.{Content, Fields, MessageValue}
use Rattle.gtp_v2.specs.Tables.{table_of}

-- the rows of a group, each by the causes before it
abbrev pub RowsMarked : Bool → List Row → List (List Value) → Type 0
RowsMarked accepting (row ∷ rows) (values ∷ others) = IsEnough (need_of accepting row) values × RowsMarked (accepting && accepts values) rows others
RowsMarked accepting rows all = Unit {0}

-- a line, by what the lines before it say: a row of groups, and the rows in each; a row of any number, where nothing stands before it
abbrev pub LineMarked : State → Line → Field → Type 0
LineMarked state (Single row) (Plain values) = IsEnough (need_of state.accepting row) values
LineMarked state (Grouped row rows) (Groups groups) = IsEnough (need_of state.accepting row) groups × All (RowsMarked state.accepting rows) groups
LineMarked state (Several kind instance missed) (Plain values) = state.silent ≡ true → 0 < length values
LineMarked state line field = Unit {0}

abbrev pub LinesMarked : State → List Line → List Field → Type 0
LinesMarked state (line ∷ lines) (field ∷ fields) = LineMarked state line field × LinesMarked (after state field) lines fields
LinesMarked state lines fields = Unit {0}

-- a TEID stands exactly where the kind has one, and what is needed is there
abbrev pub ContentMarked : Option Table → Bool → Content → Type 0
ContentMarked (Some table) has_teid (Fields fields) = (has_teid ≡ table.has_teid) × LinesMarked start table.lines fields
ContentMarked table has_teid content = Unit {0}

-- a message that meets the marks of its kind's table, where it has one
abbrev pub MeetsMarks : MessageValue → Type 0
MeetsMarks m = ContentMarked (table_of m.kind) (is_some m.teid) m.content
