-- Tables in which each row can be found again.
use Rattle.std.specs.Prelude.{◌==◌, not, map, ℕ, nat_lt, Bool, true, ◌&&◌, List, [], ◌∷◌}
use Rattle.gtp_v2.specs.Table.{Row, Optional, Line, Single, Grouped, Several, kind_of, instance_of}

-- no row has this type and instance
abbrev pub is_free : ℕ → ℕ → List Row → Bool
is_free kind instance [] = true
is_free kind instance (row ∷ rows) = not ((kind_of row == kind) && (instance_of row == instance)) && is_free kind instance rows

-- no two rows have one type and instance
abbrev pub are_apart : List Row → Bool
are_apart [] = true
are_apart (row ∷ rows) = is_free (kind_of row) (instance_of row) rows && are_apart rows

abbrev pub row_of : Line → Row
row_of (Single row) = row
row_of (Grouped row rows) = row
row_of (Several kind instance missed) = Optional kind instance

-- no two lines have one type and instance
abbrev pub lines_apart : List Line → Bool
lines_apart lines = are_apart (map row_of lines)

-- all instances are below 16: they have four bits (TS 29.274 8.2)
abbrev pub all_small : List Row → Bool
all_small [] = true
all_small (row ∷ rows) = nat_lt (instance_of row) 16 && all_small rows

-- so are a line's, and the rows of a group are apart
abbrev pub fits : Line → Bool
fits (Single row) = nat_lt (instance_of row) 16
fits (Grouped row rows) = nat_lt (instance_of row) 16 && (all_small rows && are_apart rows)
fits (Several kind instance missed) = nat_lt instance 16 && nat_lt missed 16

abbrev pub all_fit : List Line → Bool
all_fit [] = true
all_fit (line ∷ lines) = fits line && all_fit lines

-- a table: each line, and each row of a group, has a type and an instance of its own, of four bits
abbrev pub is_table : List Line → Bool
is_table lines = lines_apart lines && all_fit lines
