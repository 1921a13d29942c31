use Rattle.std.proofs.Common.{◌≡◌, ◌+◌, map, drop}
use Rattle.gtp_replay.specs.Rows.{idle_next}
use Rattle.gtp_replay.specs.RowViews.{happened_of}
use Rattle.gtp_replay.proofs.rows.idle_next.Given as goal

-- those so far, and those that come next of what is left
abbrev pub invariant-loop-one : goal.invariant-loop-one
invariant-loop-one l = record {
  whole : l.count + idle_next l.fn.node (map happened_of (drop l.one-index l.after)) ≡ idle_next l.fn.node (map happened_of l.fn.after);
  count : l.count ≡ l.one-index;
}
