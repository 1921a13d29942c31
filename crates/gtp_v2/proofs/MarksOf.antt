-- What was read meets the marks of its table.
use Rattle.std.proofs.Common.{ℕ, ◌<◌, Bool, true, false, ◌&&◌, List, [], ◌∷◌, length, Option, Some, None, sym, subst, arith}
use Rattle.std.specs.Prelude.{is_some}
use Rattle.std.specs.List.{AllByRecursion}
use Rattle.std.proofs.lemmas.List.Elements.{All-from_recursion}
use Rattle.gtp_ie.specs.Element.{Element, all_of}
use Rattle.gtp_ie.specs.Value.{Value}
use Rattle.gtp_v2.specs.Table.{Row, Mandatory, Conditional, Accepted, Optional, Line, Single, Grouped, Several, Field, State, start, Table, accepts, after, need_of, kind_of, instance_of}
use Rattle.gtp_v2.specs.Grammar.{One, RowIs, RowsAre, GroupsAre, IsEnough, LineIs, LinesAre}
use Rattle.gtp_v2.specs.Marks.{RowsMarked, LineMarked, LinesMarked, ContentMarked, MeetsMarks}
use Rattle.gtp_v2.specs.Headed.{Headed}
use Rattle.gtp_v2.specs.Message.{Content, MessageValue}
use Rattle.gtp_v2.specs.Tables.{table_of}
use Rattle.gtp_v2.specs.Datagram.{CarriesBy, IsMessage}

one_there : (kind instance : ℕ) (es : List Element) (values : List Value) → One kind instance es values → 0 < length values
one_there kind instance es [] one = absurd cc
one_there kind instance es (v ∷ values) one = omega arith

row_marked : (accepting : Bool) (row : Row) (es : List Element) (values : List Value) → RowIs accepting row es values → IsEnough (need_of accepting row) values
row_marked accepting (Mandatory kind instance) es values is = one_there kind instance es values is
row_marked accepting (Conditional kind instance) es values is = one_there kind instance es values is
row_marked true (Accepted kind instance) es values is = one_there kind instance es values is
row_marked false (Accepted kind instance) es values is = tt
row_marked accepting (Optional kind instance) es values is = tt

rows_marked : (accepting : Bool) (rows : List Row) (es : List Element) (all : List (List Value)) → RowsAre accepting rows es all → RowsMarked accepting rows all
rows_marked accepting [] es all are = tt
rows_marked accepting (row ∷ rows) es [] are = tt
rows_marked accepting (row ∷ rows) es (values ∷ others) are = (row_marked accepting row es values are.0, rows_marked (accepting && accepts values) rows es others are.1)

groups_marked : (accepting : Bool) (rows : List Row) (es : List Element) (groups : List (List (List Value))) → GroupsAre accepting rows es groups → AllByRecursion (RowsMarked accepting rows) groups
groups_marked accepting rows [] [] are = tt
groups_marked accepting rows [] (g ∷ gs) are = absurd cc
groups_marked accepting rows (e ∷ es) [] are = tt
groups_marked accepting rows (e ∷ es) (g ∷ gs) are = (rows_marked accepting rows are.0.0 g are.0.2, groups_marked accepting rows es gs are.1)

line_marked : (state : State) (line : Line) (es : List Element) (field : Field) → LineIs state line es field → LineMarked state line field
line_marked state (Single row) es field is = subst (LineMarked state (Single row)) (sym is.2) (row_marked state.accepting row es is.0 is.1)
line_marked state (Grouped row rows) es field is =
    let each = All-from_recursion (RowsMarked state.accepting rows) is.0 (groups_marked state.accepting rows (all_of (kind_of row) (instance_of row) es) is.0 is.1.0) in
    subst (LineMarked state (Grouped row rows)) (sym is.2) (is.1.1, each)
line_marked state (Several kind instance missed) es field is = subst (LineMarked state (Several kind instance missed)) (sym is.2) is.1.1

lines_marked : (state : State) (lines : List Line) (es : List Element) (fields : List Field) → LinesAre state lines es fields → LinesMarked state lines fields
lines_marked state [] es fields are = tt
lines_marked state (line ∷ lines) es [] are = tt
lines_marked state (line ∷ lines) es (field ∷ fields) are = (line_marked state line es field are.0, lines_marked (after state field) lines es fields are.1)

pub content_marked : (table : Option Table) (h : Headed) (content : Content) → CarriesBy table h content → ContentMarked table (is_some h.teid) content
content_marked None h content carries = tt
content_marked (Some table) h content carries = subst (ContentMarked (Some table) (is_some h.teid)) (sym carries.3) (carries.0, lines_marked start table.lines carries.2.0 carries.1 carries.2.2)

pub message_marked : (octets : List ℕ) (m : MessageValue) → IsMessage octets m → MeetsMarks m
message_marked octets m is = subst MeetsMarks (sym is.2.2) (content_marked (table_of is.0.kind) is.0 is.2.0 is.2.1)
