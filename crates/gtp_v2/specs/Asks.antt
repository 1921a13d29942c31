-- What is asked of messages by their type.
use Rattle.std.specs.Prelude.{ℕ, Bool, List, Option, Some, None}
use Rattle.gtp_v2.specs.Table.{Line, Table}
use Rattle.gtp_v2.specs.Tables.{table_of}

-- whether the header has a TEID, where that is asked, and the lines by which the elements are read
pub record Asks : Type 0 where
  pub has_teid : Option Bool
  pub lines : List Line

-- what a table asks
abbrev pub asks_by : Table → Asks
asks_by table = record { has_teid = Some table.has_teid; lines = table.lines }

-- where there is one; of a message of a type without a table nothing is asked, and it is kept as octets
abbrev pub asks_in : Option Table → Option Asks
asks_in None = None
asks_in (Some table) = Some (asks_by table)

-- what the tables here ask of each type
abbrev pub asks_of : ℕ → Option Asks
asks_of kind = asks_in (table_of kind)
