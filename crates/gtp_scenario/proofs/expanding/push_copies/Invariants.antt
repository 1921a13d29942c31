use Rattle.std.proofs.Common.{◌≡◌, ◌++◌, map, replicate}
use Rattle.gtp_world.specs.Events.{event_of}
use Rattle.gtp_scenario.proofs.expanding.push_copies.Given as goal

-- the copies so far
abbrev pub invariant-loop : goal.invariant-loop
invariant-loop l = map event_of l.events.items ≡ map event_of l.fn.events.items ++ replicate l.counter (event_of l.event)
