use Rattle.std.proofs.Common.{◌≡◌, ◌≤◌, length, map, take, Result}
use Rattle.std.specs.Prelude.{List}
use Rattle.gtp_scenario.specs.Entries.{Entry}
use Rattle.gtp_scenario.specs.Trees.{items_view}
use Rattle.gtp_scenario.specs.declared.halt.Halted.{Halted}
use Rattle.gtp_world.specs.Runs.{Setup}
use Rattle.gtp_scenario.specs.Past.{just_begun}
use Rattle.gtp_scenario.specs.Scenarios.{AreRead, IsListRead, HasHappened}
use Rattle.gtp_scenario.specs.Views.{entry, past}
use Rattle.gtp_scenario.proofs.items.entries_after.Given as goal

-- what is left comes to what all comes to, and the first of the entries have happened
abbrev pub invariant-loop-value : goal.invariant-loop-value
invariant-loop-value l =
    record {
      within : l.followed ≤ length l.entries.items;
      on : (setup : Setup) → past l.fn.past ≡ just_begun setup → record {
        rest : (reading : Result (List Entry) Halted) → AreRead setup l.place (map entry l.entries.items) l.room (items_view l.values) reading → IsListRead setup (items_view l.initial.values) reading;
        happened : HasHappened setup (take l.followed (map entry l.entries.items)) (past l.past);
      };
    }

abbrev pub decreases-loop-value : goal.decreases-loop-value
decreases-loop-value l = length l.values
