use Rattle.std.proofs.Common.{length}
use Rattle.gtp_c.specs.Names.{words_of}
use Rattle.gtp_c.proofs.Naming.{AreRead}
use Rattle.gtp_c.proofs.names.count_of_names.Given as goal

abbrev pub invariant-loop-after : goal.invariant-loop-after
invariant-loop-after l = AreRead l.octets l.rest l.count

abbrev pub decreases-loop-after : goal.decreases-loop-after
decreases-loop-after l = length (words_of l.rest)
