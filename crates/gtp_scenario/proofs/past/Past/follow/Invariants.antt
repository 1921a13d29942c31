use Rattle.std.proofs.Common.{map, drop}
use Rattle.std.specs.List.{flat_map}
use Rattle.gtp_scenario.specs.Entries.{events_in}
use Rattle.gtp_scenario.specs.Past.{Past, Happen}
use Rattle.gtp_scenario.specs.Views.{entry, past}
use Rattle.gtp_scenario.proofs.past.Past.follow.Given as goal

-- where those that are left happen, all have happened
abbrev pub invariant-loop-entry : goal.invariant-loop-entry
invariant-loop-entry l =
    (new : Past) → Happen (past l.self) (flat_map events_in (map entry (drop l.entry-index l.entries))) new
    → Happen (past l.fn.self) (flat_map events_in (map entry l.entries)) new
