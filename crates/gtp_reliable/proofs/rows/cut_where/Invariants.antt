use Rattle.std.proofs.Common.{◌≡◌, ◌≤◌, length}
use Rattle.std.specs.VecDeque.{deque_len, deque_capacity}
use Rattle.indexmap.specs.IndexMap.{spare}
use Rattle.gtp_reliable.specs.Rows.{rows_of, AreNamed, AreApart}
use Rattle.gtp_reliable.proofs.Slots.{cut_first}
use Rattle.gtp_reliable.proofs.rows.cut_where.Given as goal

abbrev pub ghost-number_where : goal.ghost-number_where
ghost-number_where g a = g.meets

abbrev pub invariant-loop-at : goal.invariant-loop-at
invariant-loop-at g l = record {
  slots : l.slots.items ≡ cut_first g.meets l.at l.fn.slots.items;
  named : AreNamed l.names.entries l.first l.slots.items;
  apart : AreApart (rows_of l.slots.items);
  count : length l.names.entries ≡ length (rows_of l.slots.items);
  len : deque_len l.slots ≡ deque_len l.fn.slots;
  capacity : deque_capacity l.slots ≡ deque_capacity l.fn.slots;
  room : spare l.fn.names ≤ spare l.names;
}
