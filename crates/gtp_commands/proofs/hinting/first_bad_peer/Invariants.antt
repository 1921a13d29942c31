use Rattle.std.proofs.Common.{length}
use Rattle.gtp_commands.proofs.hinting.first_bad_peer.Given as goal

abbrev pub decreases-loop-value : goal.decreases-loop-value
decreases-loop-value l = length l.values
