use Rattle.std.proofs.Common.{◌≡◌, ◌≤◌, length, map}
use Rattle.std.specs.List.{filter_map}
use Rattle.gtp_reliable.specs.Held.{after_tick}
use Rattle.gtp_reliable.specs.Index.{IsIndex, questions}
use Rattle.gtp_reliable.specs.Aging.{seen, AreAging}
use Rattle.gtp_reliable.proofs.queue.tick_all.Given as goal

abbrev pub invariant-loop-pairs : goal.invariant-loop-pairs
invariant-loop-pairs l = record {
  few : length l.pairs.items ≤ 4096;
  indexed : IsIndex l.first l.index.items (questions l.pairs.items);
  aging : AreAging l.now l.hold l.pairs.items;
  same : filter_map (after_tick l.hold) (map (seen l.now) l.pairs.items) ≡ filter_map (after_tick l.hold) (map (seen l.now) l.fn.pairs.items);
}

abbrev pub decreases-loop-pairs : goal.decreases-loop-pairs
decreases-loop-pairs l = length l.pairs.items
