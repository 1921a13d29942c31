use Rattle.std.proofs.Common.{◌-◌, ◌≡◌, ◌≤◌, ◌<◌, length, ℕ}
use Rattle.std.specs.declared.cmp.Ordering.TheVariants.{Less, Greater}
use Rattle.gtp_reliable.specs.Order.{question_cmp}
use Rattle.gtp_reliable.specs.Index.{question, questions, named_at}
use Rattle.gtp_reliable.proofs.Halving.{reach}
use Rattle.gtp_reliable.proofs.queue.halve.Given as goal

abbrev pub invariant-loop-low : goal.invariant-loop-low
invariant-loop-low l = record {
  low : l.low ≤ l.high;
  high : l.high ≤ length l.index;
  lower : (k : ℕ) → k < l.low → question_cmp (named_at l.first l.index (questions l.pairs.items) k) (question l.fn.source l.request) ≡ Less;
  higher : (k : ℕ) → l.high ≤ k → k < length l.index → question_cmp (named_at l.first l.index (questions l.pairs.items) k) (question l.fn.source l.request) ≡ Greater;
  most : l.compared ≤ 13;
  left : l.high - l.low ≤ reach (13 - l.compared);
}

abbrev pub decreases-loop-low : goal.decreases-loop-low
decreases-loop-low l = l.high - l.low
