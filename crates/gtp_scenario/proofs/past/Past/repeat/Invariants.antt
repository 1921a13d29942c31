use Rattle.std.proofs.Common.{replicate}
use Rattle.gtp_world.specs.Events.{event_of}
use Rattle.gtp_scenario.specs.Past.{Happen}
use Rattle.gtp_scenario.specs.Views.{past}
use Rattle.gtp_scenario.proofs.past.Past.repeat.Given as goal

-- it has happened so often
abbrev pub invariant-loop : goal.invariant-loop
invariant-loop l = Happen (past l.fn.self) (replicate l.counter (event_of l.event)) (past l.self)
