use Rattle.std.proofs.Common.{◌≡◌, length}
use Rattle.gtp_scenario.specs.Heads.{with_each}
use Rattle.gtp_scenario.specs.Trees.{items_view}
use Rattle.gtp_scenario.proofs.head.with_each.Given as goal

-- the settings so far, and what is left
abbrev pub invariant-loop-value : goal.invariant-loop-value
invariant-loop-value l = with_each (items_view l.values) l.config ≡ with_each (items_view l.initial.values) l.initial.config

abbrev pub decreases-loop-value : goal.decreases-loop-value
decreases-loop-value l = length l.values
