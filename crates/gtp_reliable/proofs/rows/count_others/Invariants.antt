use Rattle.std.proofs.Common.{◌≡◌, ◌≤◌, length, take}
use Rattle.gtp_reliable.specs.Rows.{rows_of, others_of}
use Rattle.gtp_reliable.proofs.rows.count_others.Given as goal

abbrev pub ghost-is_other : goal.ghost-is_other
ghost-is_other g a = g.meets

abbrev pub invariant-loop-at : goal.invariant-loop-at
invariant-loop-at g l = record {
  count : l.count ≡ length (others_of g.meets (rows_of (take l.at l.slots.items)));
  few : l.count ≤ l.at;
}
