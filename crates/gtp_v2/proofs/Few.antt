-- A message whose lists have few members is not too long.
use Rattle.std.proofs.Common.{◌≡◌, ◌+◌, ◌*◌, ◌<◌, ◌≤◌, Bool, true, ◌&&◌, List, [], ◌∷◌, length, Option, Some, None, refl, arith}
use Rattle.std.specs.Prelude.{nat_lt}
use Rattle.std.proofs.Math.Nat.{mul-le-mul_right}
use Rattle.std.proofs.lemmas.Bool.{ltb-true}
use Rattle.gtp_values.proofs.Tests.{both}
use Rattle.gtp_v2.specs.Table.{Line, Single, Grouped, Several, Field, Plain, Groups, Table}
use Rattle.gtp_v2.specs.Message.{Content, Fields, Raw, MessageValue}
use Rattle.gtp_v2.specs.Tables.{table_of}
use Rattle.gtp_v2.specs.Room.{most_of_line, most_of_lines, most_carried_by, most_carried, members_of_line, members_of_lines, members_by, members}
use Rattle.gtp_v2.proofs.Encoded.{tables_pass}

-- a group has at most five rows
abbrev rows_few : Line → Bool
rows_few (Single row) = true
rows_few (Grouped row rows) = nat_lt (length rows) 6
rows_few (Several kind instance missed) = true

abbrev all_few : List Line → Bool
all_few [] = true
all_few (line ∷ lines) = rows_few line && all_few lines

-- and a table at most eleven
abbrev is_short : Table → Bool
is_short table = nat_lt (length table.lines) 12 && all_few table.lines

line_most : (line : Line) (field : Field) → rows_few line ≡ true → most_of_line line field ≤ 259 + 1299 * members_of_line line field
line_most (Single row) field few = omega arith
line_most (Grouped row rows) (Groups groups) few =
    let rows_are : length rows < 6 = ltb-true _ _ few in
    let each : (4 + 259 * length rows) * length groups ≤ 1299 * length groups = mul-le-mul_right (length groups) (omega arith) in
    omega (arith, each)
line_most (Several kind instance missed) (Plain values) few = omega arith
line_most (Grouped row rows) (Plain values) few = omega arith
line_most (Several kind instance missed) (Groups groups) few = omega arith

lines_most : (lines : List Line) (fields : List Field) → all_few lines ≡ true → most_of_lines lines fields ≤ 259 * length lines + 1299 * members_of_lines lines fields
lines_most (line ∷ lines) (field ∷ fields) few =
    let p = both (rows_few line) (all_few lines) few in
    let one = line_most line field p.left in
    let others = lines_most lines fields p.right in
    omega (arith, one, others)
lines_most [] fields few = omega arith
lines_most (line ∷ lines) [] few = omega arith

many_by : (table : Option Table) (content : Content) → ((t : Table) → table ≡ Some t → is_short t ≡ true) → 65527 < most_carried_by table content → 48 < members_by table content
many_by None (Raw octets) short long = long_enough long where
  long_enough : 65527 < length octets → 48 < length octets
  long_enough h = omega (arith, h)
many_by (Some table) (Fields fields) short long =
    let p = both (nat_lt (length table.lines) 12) (all_few table.lines) (short table refl) in
    let lines : length table.lines < 12 = ltb-true _ _ p.left in
    let most = lines_most table.lines fields p.right in
    omega (arith, lines, most, long)
many_by None (Fields fields) short long = absurd (omega (arith, long))
many_by (Some table) (Raw octets) short long = absurd (omega (arith, long))

pub many_where_long : (m : MessageValue) → 65527 < most_carried m → 48 < members m
many_where_long m long = many_by (table_of m.kind) m.content (tables_pass is_short refl m.kind) long
