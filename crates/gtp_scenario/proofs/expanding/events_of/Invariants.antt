use Rattle.std.proofs.Common.{◌≡◌, ◌++◌, map, drop}
use Rattle.std.specs.List.{flat_map}
use Rattle.gtp_world.specs.Events.{event_of}
use Rattle.gtp_scenario.specs.Entries.{events_in}
use Rattle.gtp_scenario.specs.Views.{entry}
use Rattle.gtp_scenario.proofs.expanding.events_of.Given as goal

-- the events so far, and those of what is left
abbrev pub invariant-loop-entry : goal.invariant-loop-entry
invariant-loop-entry l = map event_of l.events.items ++ flat_map events_in (map entry (drop l.entry-index l.entries)) ≡ flat_map events_in (map entry l.entries)
