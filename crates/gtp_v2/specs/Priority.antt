-- Where a priority stands.
use Rattle.std.specs.Prelude.{Option, is_some, IsTrue}

-- a priority stands in a header with a TEID alone (TS 29.274 5.1)
abbrev pub PriorityNeedsTeid : {X Y : Type 0} → Option X → Option Y → Type 0
PriorityNeedsTeid teid priority = IsTrue (is_some priority) → IsTrue (is_some teid)
