-- What is asked of the headers of messages, beside lines (TS 29.274 5.5.1).
use Rattle.std.specs.Prelude.{true, false, List, Some}
use Rattle.gtp_v2.specs.Table.{Line}
use Rattle.gtp_v2.specs.Asks.{Asks}

-- no TEID, and these lines
abbrev pub without_teid : List Line → Asks
without_teid lines = record { has_teid = Some false; lines = lines }

-- a TEID, and these lines
abbrev pub with_teid : List Line → Asks
with_teid lines = record { has_teid = Some true; lines = lines }
