use Rattle.std.proofs.Common.{◌≡◌, map, take, length}
use Rattle.gtp_replay.specs.Rows.{comes_by}
use Rattle.gtp_replay.specs.RowViews.{numbered, happened_of, AreFlags}
use Rattle.gtp_replay.proofs.rows.all_that_come.Given as goal

-- what comes by those so far
abbrev pub invariant-loop-one : goal.invariant-loop-one
invariant-loop-one l = record {
  flags : AreFlags (comes_by (numbered l.fn.datagrams) (map happened_of (take l.one-index l.all))) l.comes.items;
  count : length l.comes.items ≡ length l.fn.datagrams;
}
