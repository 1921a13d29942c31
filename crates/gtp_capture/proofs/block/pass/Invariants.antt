use Rattle.std.proofs.Common.{◌≡◌, ℕ, ◌+◌, List, ◌++◌, length}
use Rattle.gtp_capture.specs.Outcome.{Known}
use Rattle.gtp_capture.proofs.block.pass.Given as goal

abbrev pub invariant-loop-left : goal.invariant-loop-left
invariant-loop-left g l = record {
  passed : (front : List ℕ) × (length front + l.left ≡ l.size) × Known (λ x y. x ≡ front ++ y) (g.R.Read.remaining l.fn.reader.inner) (g.R.Read.remaining l.reader.inner);
  count : l.reader.failures ≡ l.fn.reader.failures;
}

abbrev pub decreases-loop-left : goal.decreases-loop-left
decreases-loop-left g l = l.left
