use Rattle.std.proofs.Common.{take}
use Rattle.gtp_outcomes.specs.Owed.{WasOwed}
use Rattle.gtp_outcomes.specs.Each.{AddsEach}
use Rattle.gtp_replay.specs.Verdicts.{taken_line}
use Rattle.gtp_replay.proofs.reporting.verdicts.put_all_taken.Given as goal

-- the packets before this one have their lines
abbrev pub invariant-loop-index : goal.invariant-loop-index
invariant-loop-index l = AddsEach (WasOwed l.world.log) taken_line (take l.index l.world.log.accepted) l.fn.out.items l.out.items
