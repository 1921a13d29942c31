use Rattle.std.proofs.Common.{◌≡◌, ◌++◌, drop}
use Rattle.std.specs.List.{flat_map}
use Rattle.gtp_gateway.specs.Tick.{arrivals_of}
use Rattle.gtp_replay.specs.Events.{forgot_line}
use Rattle.gtp_replay.proofs.reporting.events.put_all_forgot.Given as goal

-- the lines so far, and those of what is left
abbrev pub invariant-loop-request : goal.invariant-loop-request
invariant-loop-request l = l.out.items ++ flat_map forgot_line (arrivals_of (drop l.request-index l.forgotten)) ≡ l.fn.out.items ++ flat_map forgot_line (arrivals_of l.forgotten)
