use Rattle.std.proofs.Common.{◌≡◌, ◌+◌, map, drop}
use Rattle.gtp_scenario.specs.Scenarios.{count_in}
use Rattle.gtp_scenario.specs.Views.{entry}
use Rattle.gtp_scenario.proofs.items.count_in.Given as goal

-- the count so far, and that of the entries that are left
abbrev pub invariant-loop-entry : goal.invariant-loop-entry
invariant-loop-entry l = l.count + count_in (map entry (drop l.entry-index l.entries)) ≡ count_in (map entry l.entries)
