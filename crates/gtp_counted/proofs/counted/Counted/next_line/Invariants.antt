use Rattle.std.proofs.Common.{◌≡◌, ◌≤◌, length}
use Rattle.gtp_counted.proofs.Lines.{HeldSoFar}
use Rattle.gtp_counted.proofs.counted.Counted.next_line.Given as goal

abbrev pub invariant-loop : goal.invariant-loop
invariant-loop g l = record {
  so_far : HeldSoFar l.fn.most (g.R.Read.remaining l.fn.self.inner) (g.R.Read.remaining l.self.inner) l.line.items l.counter;
  room : length l.line.items ≤ l.fn.most;
  count : l.self.failures ≡ l.fn.self.failures;
}
