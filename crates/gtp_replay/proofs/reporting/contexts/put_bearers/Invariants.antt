use Rattle.std.proofs.Common.{◌≡◌, ◌++◌}
use Rattle.std.specs.FinMap.{entries}
use Rattle.std.specs.List.{flat_map}
use Rattle.gtp_replay.specs.Contexts.{bearer_line}
use Rattle.gtp_replay.proofs.reporting.contexts.put_bearers.Given as goal

-- the lines so far, and those of what is left
abbrev pub invariant-loop-own : goal.invariant-loop-own
invariant-loop-own l = l.out.items ++ flat_map (bearer_line l.node) l.own-iterator ≡ l.fn.out.items ++ flat_map (bearer_line l.node) (entries l.gateway.node.bearers)
