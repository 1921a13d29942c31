use Rattle.std.proofs.Common.{◌≡◌, ◌≤◌, ◌-◌, map, drop, length}
use Rattle.gtp_world.specs.Record.{told_by}
use Rattle.gtp_scenario.specs.Views.{entry as entry_view}
use Rattle.gtp_replay.specs.Expected.{unmet_after}
use Rattle.gtp_replay.proofs.expected.first_unmet.Given as goal

-- what is left decides
abbrev pub invariant-loop-entry : goal.invariant-loop-entry
invariant-loop-entry l =
    (length l.rest ≤ length l.notes)
    × (unmet_after (length l.notes - length l.rest) (map entry_view (drop l.entry-index l.entries)) (map told_by l.rest) ≡ unmet_after 0 (map entry_view l.entries) (map told_by l.notes))
