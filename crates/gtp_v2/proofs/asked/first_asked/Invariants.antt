use Rattle.std.proofs.Common.{◌≡◌, drop}
use Rattle.gtp_v2.specs.Asked.{first_asked}
use Rattle.gtp_v2.proofs.asked.first_asked.Given as goal

abbrev pub invariant-loop-asked : goal.invariant-loop-asked
invariant-loop-asked l = first_asked l.kind (drop l.asked-index l.tables) ≡ first_asked l.kind l.tables
