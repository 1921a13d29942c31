-- The canonical_encoding of a message spells it, where its values are of its table's types and what the marks ask is there.
use Rattle.std.proofs.Common.{◌≡◌, ℕ, ◌<◌, ◌≤◌, ltb, Bool, true, false, ◌&&◌, List, [], ◌∷◌, length, Option, Some, None, refl, arith, length-append}
use Rattle.std.specs.Prelude.{is_some}
use Rattle.std.specs.List.{AllByRecursion}
use Rattle.std.proofs.lemmas.Bool.{ltb-true}
use Rattle.std.proofs.lemmas.List.Elements.{recursion_from_All}
use Rattle.gtp_values.proofs.Decided.{bind_ok}
use Rattle.gtp_ie.specs.Element.{Element, elements_of}
use Rattle.gtp_ie.specs.Octets.{AreElements}
use Rattle.gtp_ie.specs.Text.{element_encoding}
use Rattle.gtp_ie.specs.Value.{Value, encoding_of}
use Rattle.gtp_values.proofs.Tests.{both}
use Rattle.gtp_v2.specs.Table.{Row, Mandatory, Conditional, Accepted, Optional, Line, Single, Grouped, Several, Field, Plain, Groups, State, start}
use Rattle.gtp_v2.specs.Table.{Table, accepts, after, need_of, kind_of, instance_of}
use Rattle.gtp_v2.specs.reading.Rows.{whole, lines_at}
use Rattle.gtp_v2.specs.Grammar.{IsEnough, LinesAre}
use Rattle.gtp_v2.specs.Text.{value_encoding, rows_encoding, groups_encoding, several_encoding, line_encoding, lines_encoding}
use Rattle.gtp_v2.specs.Apart.{are_apart, all_small, fits, lines_apart, all_fit, is_table}
use Rattle.gtp_v2.proofs.Meets.{IsOf, Alone, AtMostAlone, RowMeets, RowsMeet, GroupMeets, LineMeets, LinesMeet}
use Rattle.gtp_v2.specs.Kinds.{HasKind, AtMostOneOf, RowsHaveKinds, LineHasKind, LinesHaveKinds, ContentHasKinds}
use Rattle.gtp_v2.specs.Marks.{RowsMarked, LineMarked, LinesMarked, ContentMarked}
use Rattle.gtp_v2.specs.Message.{Content, Fields, Raw, MessageValue}
use Rattle.gtp_v2.specs.Tables.{table_of}
use Rattle.gtp_v2.specs.Datagram.{IsMessage}
use Rattle.gtp_v2.specs.Encoding.{carried, carried_by, headed_encoding, canonical_encoding, Meets}
use Rattle.gtp_v2.proofs.Decided.{whole_decided, lines_decided}
use Rattle.gtp_v2.proofs.Again.{fields_again}
use Rattle.gtp_v2.proofs.Encoded.{ContentMeets, tables_fit, text_again}

-- ---- rows

at_most_alone : (kind instance : ℕ) (values : List Value) → AtMostOneOf kind values → length (value_encoding kind instance values) < 65536 → AtMostAlone kind values
unfolding value_encoding
at_most_alone kind instance [] have short = tt
at_most_alone kind instance (v ∷ []) have short = record { again = have; short = omega arith }
at_most_alone kind instance (v ∷ w ∷ values) have short = absurd have

alone : (kind : ℕ) (values : List Value) → 0 < length values → AtMostAlone kind values → Alone kind values
alone kind [] there m = absurd (omega arith)
alone kind (v ∷ values) there m = m

row_meets : (accepting : Bool) (row : Row) (values : List Value) → IsEnough (need_of accepting row) values → AtMostAlone (kind_of row) values → RowMeets accepting row values
row_meets accepting (Mandatory kind instance) values there m = alone kind values there m
row_meets accepting (Conditional kind instance) values there m = alone kind values there m
row_meets true (Accepted kind instance) values there m = alone kind values there m
row_meets false (Accepted kind instance) values there m = m
row_meets accepting (Optional kind instance) values there m = m

rows_meet : (accepting : Bool) (rows : List Row) (all : List (List Value)) → RowsMarked accepting rows all → RowsHaveKinds rows all → all_small rows ≡ true
    → length (rows_encoding rows all) < 65536 → RowsMeet accepting rows all
rows_meet accepting [] [] marked have small short = refl
rows_meet accepting [] (values ∷ others) marked have small short = absurd have
rows_meet accepting (row ∷ rows) [] marked have small short = absurd have
rows_meet accepting (row ∷ rows) (values ∷ others) marked have small short =
    let s = both (ltb (instance_of row) 16) (all_small rows) small in
    let long = length-append (value_encoding (kind_of row) (instance_of row) values) (rows_encoding rows others) in
    let m = at_most_alone (kind_of row) (instance_of row) values have.0 (omega arith) in
    (row_meets accepting row values marked.0 m, ltb-true _ _ s.left, rows_meet (accepting && accepts values) rows others marked.1 have.1 s.right (omega arith))

-- ---- lines

groups_meet : (kind instance : ℕ) (accepting : Bool) (rows : List Row) (groups : List (List (List Value))) → AllByRecursion (RowsMarked accepting rows) groups
    → AllByRecursion (RowsHaveKinds rows) groups → all_small rows ≡ true
    → length (groups_encoding kind instance rows groups) < 65536 → AllByRecursion (GroupMeets accepting rows) groups
unfolding groups_encoding
groups_meet kind instance accepting rows [] marked have small short = tt
groups_meet kind instance accepting rows (g ∷ gs) marked have small short =
    let long = length-append (element_encoding kind instance (rows_encoding rows g)) (groups_encoding kind instance rows gs) in
    let here : length (rows_encoding rows g) < 65536 = omega arith in
    (record { rows_meet = rows_meet accepting rows g marked.0 have.0 small here; short = here }, groups_meet kind instance accepting rows gs marked.1 have.1 small (omega arith))

values_meet : (kind instance : ℕ) (values : List Value) → AllByRecursion (HasKind kind) values → length (several_encoding kind instance values) < 65536 → AllByRecursion (IsOf kind) values
unfolding several_encoding
values_meet kind instance [] have short = tt
values_meet kind instance (v ∷ vs) have short =
    let long = length-append (element_encoding kind instance (encoding_of v)) (several_encoding kind instance vs) in
    (record { again = have.0; short = omega arith }, values_meet kind instance vs have.1 (omega arith))

line_meets : (state : State) (line : Line) (field : Field) → LineMarked state line field → LineHasKind line field → fits line ≡ true
    → length (line_encoding line field) < 65536 → LineMeets state line field
line_meets state (Single row) (Plain values) marked have fit short =
    (row_meets state.accepting row values marked (at_most_alone (kind_of row) (instance_of row) values have short), ltb-true _ _ fit)
line_meets state (Single row) (Groups groups) marked have fit short = absurd have
line_meets state (Grouped row rows) (Plain values) marked have fit short = absurd have
line_meets state (Grouped row rows) (Groups groups) marked have fit short =
    let a = both (ltb (instance_of row) 16) (all_small rows && are_apart rows) fit in
    let b = both (all_small rows) (are_apart rows) a.right in
    let each = recursion_from_All (RowsMarked state.accepting rows) groups marked.1 in
    let kinds = recursion_from_All (RowsHaveKinds rows) groups have in
    (groups_meet (kind_of row) (instance_of row) state.accepting rows groups each kinds b.left short, marked.0, ltb-true _ _ a.left, b.right)
line_meets state (Several kind instance missed) (Plain values) marked have fit short =
    (values_meet kind instance values (recursion_from_All (HasKind kind) values have) short, marked, ltb-true _ _ (both (ltb instance 16) (ltb missed 16) fit).left)
line_meets state (Several kind instance missed) (Groups groups) marked have fit short = absurd have

lines_meet : (state : State) (lines : List Line) (fields : List Field) → LinesMarked state lines fields → LinesHaveKinds lines fields → all_fit lines ≡ true
    → length (lines_encoding lines fields) < 65536 → LinesMeet state lines fields
lines_meet state [] [] marked have fit short = refl
lines_meet state [] (field ∷ fields) marked have fit short = absurd have
lines_meet state (line ∷ lines) [] marked have fit short = absurd have
lines_meet state (line ∷ lines) (field ∷ fields) marked have fit short =
    let f = both (fits line) (all_fit lines) fit in
    let long = length-append (line_encoding line field) (lines_encoding lines fields) in
    (line_meets state line field marked.0 have.0 f.left (omega arith), lines_meet (after state field) lines fields marked.1 have.1 f.right (omega arith))

-- ---- any table

-- the canonical_encoding of its lines spells them
pub lines_again : (at : ℕ) (lines : List Line) (fields : List Field) → is_table lines ≡ true → LinesHaveKinds lines fields → LinesMarked start lines fields
    → length (lines_encoding lines fields) < 65536
    → (es : List Element) × AreElements at (lines_encoding lines fields) es × LinesAre start lines es fields
lines_again at lines fields table have marked short =
    let p = both (lines_apart lines) (all_fit lines) table in
    let b =
    bind_ok (whole (elements_of at (lines_encoding lines fields))) (λ es. lines_at start lines es) fields
    (fields_again at lines fields p.left (lines_meet start lines fields marked have p.right short)) in
    (b.0, (whole_decided at (lines_encoding lines fields)).ok b.0 b.1, (lines_decided start lines b.0).ok fields b.2)

-- ---- messages

content_meets : (table : Option Table) (teid : Option ℕ) (content : Content) → ((t : Table) → table ≡ Some t → all_fit t.lines ≡ true)
    → ContentMarked table (is_some teid) content → ContentHasKinds table content → length (carried_by table content) < 65536
    → ContentMeets table teid content
content_meets None teid (Raw octets) fit marked have short = tt
content_meets None teid (Fields fields) fit marked have short = absurd have
content_meets (Some table) teid (Raw octets) fit marked have short = absurd have
content_meets (Some table) teid (Fields fields) fit marked have short = (marked.0, lines_meet start table.lines fields marked.1 have (fit table refl) short)

carried_short : (kind : ℕ) (teid : Option ℕ) (seq : ℕ) (priority : Option ℕ) (rest : List ℕ) → length (headed_encoding kind teid seq priority rest) ≤ 65539 → length rest < 65536
carried_short kind None seq priority rest short = omega arith
carried_short kind (Some teid) seq None rest short = omega arith
carried_short kind (Some teid) seq (Some priority) rest short = omega arith

pub marked_again : (m : MessageValue) → Meets m → IsMessage (canonical_encoding m) m
marked_again m meets =
    let carries = carried_short m.kind m.teid m.seq m.priority (carried m) meets.short in
    text_again m meets.header (content_meets (table_of m.kind) m.teid m.content (tables_fit m.kind) meets.marks meets.kinds carries) meets.short
