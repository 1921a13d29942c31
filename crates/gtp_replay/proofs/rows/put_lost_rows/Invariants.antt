use Rattle.std.proofs.Common.{◌≡◌, ◌+◌, ◌++◌, List, map, drop}
use Rattle.std.specs.List.{flat_map}
use Rattle.gtp_replay.specs.Rows.{Numbered, Happened, comes_by, lost_rows}
use Rattle.gtp_replay.specs.RowViews.{numbered_from, row_of, AreFlags}
use Rattle.gtp_replay.proofs.rows.put_lost_rows.Given as goal

-- the rows so far, and those of the datagrams that are left
abbrev pub invariant-loop-place : goal.invariant-loop-place
invariant-loop-place l =
    (datagrams : List Numbered) (all : List Happened) → AreFlags (comes_by datagrams all) l.fn.comes
    → map row_of l.rows.items ++ flat_map (lost_rows datagrams all) (numbered_from (l.fn.first + l.place) (drop l.place l.fn.sent))
    ≡ map row_of l.fn.rows.items ++ flat_map (lost_rows datagrams all) (numbered_from l.fn.first l.fn.sent)
