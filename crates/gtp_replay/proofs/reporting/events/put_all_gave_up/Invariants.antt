use Rattle.std.proofs.Common.{◌≡◌, ◌++◌, drop}
use Rattle.std.specs.List.{flat_map}
use Rattle.gtp_replay.specs.Events.{gave_up_line}
use Rattle.gtp_replay.proofs.reporting.events.put_all_gave_up.Given as goal

-- the lines so far, and those of what is left
abbrev pub invariant-loop-seq : goal.invariant-loop-seq
invariant-loop-seq l = l.out.items ++ flat_map gave_up_line (drop l.seq-index l.gave_up) ≡ l.fn.out.items ++ flat_map gave_up_line l.gave_up
