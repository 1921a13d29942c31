-- What a caller's tables ask of messages by their type.
use Rattle.std.specs.Prelude.{ℕ, List, [], ◌∷◌, Option, Some, None, map, ◌==◌, if◌then◌else◌}
use Rattle.gtp_v2.specs.declared.table.Line.{Line as Kept}
use Rattle.gtp_v2.specs.declared.table.Line.TheVariants as kept
use Rattle.gtp_v2.specs.declared.asked.Asked.{Asked}
use Rattle.gtp_v2.specs.declared.asked.Others.{Others}
use Rattle.gtp_v2.specs.declared.asked.Others.TheVariants as others
use Rattle.gtp_v2.specs.declared.asked.Tables.{Tables}
use Rattle.gtp_v2.specs.Table.{Line, Single, Grouped, Several}
use Rattle.gtp_v2.specs.Asks.{Asks}

-- a line, without where its rows lie
abbrev pub line_of : Kept → Line
line_of (kept.Single row) = Single row
line_of (kept.Grouped row rows) = Grouped row rows.now
line_of (kept.Several kind instance missed) = Several kind instance missed

-- what a caller's table asks
abbrev pub asks_kept : Asked → Asks
asks_kept asked = record { has_teid = asked.has_teid; lines = map line_of asked.lines.now }

-- whole elements, and nothing else
abbrev pub whole_elements : Asks
whole_elements = record { has_teid = None; lines = [] }

-- the first table of a type
abbrev pub first_asked : ℕ → List Asked → Option Asked
first_asked kind [] = None
first_asked kind (asked ∷ tables) = if kind == asked.kind then Some asked else first_asked kind tables

-- what is asked of a type without a table
abbrev pub asked_of_others : Others → Option Asks
asked_of_others others.Octets = None
asked_of_others others.Elements = Some whole_elements

-- what a table asks, or what is asked of a type without one
abbrev pub asked_or : Others → Option Asked → Option Asks
asked_or others None = asked_of_others others
asked_or others (Some asked) = Some (asks_kept asked)

-- what these tables ask of a type
abbrev pub asked_by : Tables → ℕ → Option Asks
asked_by tables kind = asked_or tables.others (first_asked kind tables.tables.now)
