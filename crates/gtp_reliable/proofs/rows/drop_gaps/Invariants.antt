use Rattle.std.proofs.Common.{◌≡◌, ◌≤◌, ℕ}
use Rattle.std.specs.VecDeque.{deque_len, deque_capacity}
use Rattle.gtp_reliable.specs.Rows.{rows_of, slot_of}
use Rattle.gtp_reliable.proofs.rows.drop_gaps.Given as goal

abbrev pub invariant-loop-slots : goal.invariant-loop-slots
invariant-loop-slots g l = record {
  rows : rows_of l.slots.items ≡ rows_of l.fn.slots.items;
  names : (n : ℕ) → slot_of n l.first l.slots.items ≡ slot_of n l.fn.first l.fn.slots.items;
  capacity : deque_capacity l.slots ≡ deque_capacity l.fn.slots;
  len : deque_len l.slots ≤ deque_len l.fn.slots;
}

abbrev pub decreases-loop-slots : goal.decreases-loop-slots
decreases-loop-slots g l = deque_len l.slots
