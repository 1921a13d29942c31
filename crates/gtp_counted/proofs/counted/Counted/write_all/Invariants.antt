use Rattle.std.proofs.Common.{◌≡◌, length}
use Rattle.gtp_counted.specs.Streams.{WritesSoFar}
use Rattle.gtp_counted.proofs.counted.Counted.write_all.Given as goal

abbrev pub invariant-loop-rest : goal.invariant-loop-rest
invariant-loop-rest g l = record {
  so_far : WritesSoFar (g.W.Write.contents l.fn.self.inner) (g.W.Write.contents l.self.inner) l.octets l.rest;
  count : l.self.failures ≡ l.fn.self.failures;
}

abbrev pub decreases-loop-rest : goal.decreases-loop-rest
decreases-loop-rest g l = length l.rest
