-- Reading, for private contracts and proofs: the lines of a table as the program has them, for checking.
use Rattle.std.specs.Prelude.{ℕ, Bool, true, false, ◌==◌, ◌&&◌, not, List, [], ◌∷◌, map, if◌then◌else◌}
use Rattle.gtp_ie.specs.Form.{number_of}
use Rattle.gtp_ie.specs.declared.form.Form.TheVariants.{Cause}
use Rattle.gtp_v2.specs.declared.table.Shape.{Shape}
use Rattle.gtp_v2.specs.declared.asked.Asked.{Asked}
use Rattle.gtp_v2.specs.Asks.{Asks, asks_by}
use Rattle.gtp_v2.specs.Asked.{asks_kept}
pub use Rattle.gtp_v2.specs.Asked.{line_of}
use Rattle.gtp_v2.specs.Table.{Row, Optional, Table, Line, Single, Grouped, Several}

-- an optional row is never at fault; unless it is a cause, no other row depends on its value
abbrev pub is_unchecked : Row → Bool
is_unchecked (Optional kind instance) = not (kind == number_of Cause)
is_unchecked row = false

-- the rows of a group that are checked
abbrev pub checked_rows : List Row → List Row
checked_rows [] = []
checked_rows (row ∷ rows) = if is_unchecked row then checked_rows rows else row ∷ checked_rows rows

-- some line has several values, of which one is needed where no line before has one
abbrev pub has_list : List Line → Bool
has_list [] = false
has_list (Several kind instance missed ∷ lines) = true
has_list (Single row ∷ lines) = has_list lines
has_list (Grouped row rows ∷ lines) = has_list lines

-- the lines that are checked
abbrev pub checked_lines : List Line → List Line
checked_lines [] = []
checked_lines (Single row ∷ lines) = if is_unchecked row && not (has_list lines) then checked_lines lines else Single row ∷ checked_lines lines
checked_lines (Grouped row rows ∷ lines) = Grouped row (checked_rows rows) ∷ checked_lines lines
checked_lines (Several kind instance missed ∷ lines) = Several kind instance missed ∷ checked_lines lines

-- what of a table is checked, and the same of the program's
abbrev pub shape_in : Table → Bool × List Line
shape_in table = (table.has_teid, checked_lines table.lines)

abbrev pub shape_of : Shape → Bool × List Line
shape_of shape = (shape.has_teid, map line_of shape.lines.now)

-- what is checked of what is asked
abbrev pub checked : Asks → Asks
checked asks = record { has_teid = asks.has_teid; lines = checked_lines asks.lines }

-- a type and what of its table is checked, and the same of the program's
abbrev pub asked_in : Table → ℕ × Asks
asked_in table = (table.kind, checked (asks_by table))

abbrev pub asked_kept : Asked → ℕ × Asks
asked_kept asked = (asked.kind, asks_kept asked)
