use Rattle.std.proofs.Common.{◌≡◌, ◌++◌, List}
use Rattle.gtp_world.specs.Naming.{Pair, mutual_pairs, DoAgree}
use Rattle.gtp_outcomes.specs.Each.{AddsEach}
use Rattle.gtp_replay.specs.Verdicts.{mutual_line}
use Rattle.gtp_replay.proofs.reporting.verdicts.put_all_mutual.Given as goal

-- the pairs before those that are left have their lines
abbrev pub invariant-loop-pair : goal.invariant-loop-pair
invariant-loop-pair l = (done : List Pair) × (done ++ l.pair-iterator ≡ mutual_pairs l.world) × AddsEach (DoAgree l.world) mutual_line done l.fn.out.items l.out.items
