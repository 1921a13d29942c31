use Rattle.std.proofs.Common.{map, take}
use Rattle.gtp_world.specs.Events.{event_of}
use Rattle.gtp_world.specs.Stepped.{EventsLeave}
use Rattle.gtp_world.proofs.world.World.resume.Given as goal

-- what the events so far come to
abbrev pub invariant-loop-at : goal.invariant-loop-at
invariant-loop-at l = EventsLeave l.fn.self (map event_of (take l.at l.events)) l.world
