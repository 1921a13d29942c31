use Rattle.std.proofs.Common.{◌≡◌, ◌++◌, map, take, drop, length}
use Rattle.gtp_replay.specs.Rows.{comes_by, rows_from, rows_in}
use Rattle.gtp_replay.specs.RowViews.{numbered, happened_of, row_of, AreFlags}
use Rattle.gtp_replay.proofs.rows.rows_in.Given as goal

-- the rows so far and those of what is left are all; and what has come
abbrev pub invariant-loop-place : goal.invariant-loop-place
invariant-loop-place l = record {
  rows : map row_of l.rows.items
      ++ rows_from (numbered l.fn.datagrams) (map happened_of l.fn.all) l.place l.last (map happened_of (drop l.place l.fn.all))
      ≡ rows_in (numbered l.fn.datagrams) (map happened_of l.fn.all);
  came : AreFlags (comes_by (numbered l.fn.datagrams) (map happened_of (take l.place l.fn.all))) l.came.items;
  count : length l.came.items ≡ length l.fn.datagrams;
}
