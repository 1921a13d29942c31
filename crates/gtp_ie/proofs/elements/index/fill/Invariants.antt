use Rattle.std.proofs.Common.{length}
use Rattle.gtp_ie.proofs.Indexing.{Indexes}
use Rattle.gtp_ie.proofs.elements.index.fill.Given as goal

abbrev pub invariant-loop-rest : goal.invariant-loop-rest
invariant-loop-rest l = Indexes l.base l.octets l.lefts l.rest l.at

abbrev pub decreases-loop-rest : goal.decreases-loop-rest
decreases-loop-rest l = length l.rest
