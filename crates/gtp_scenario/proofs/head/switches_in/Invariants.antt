use Rattle.std.proofs.Common.{◌≡◌, length}
use Rattle.gtp_machine.specs.Config.{no_switches}
use Rattle.gtp_scenario.specs.Heads.{switches_in}
use Rattle.gtp_scenario.specs.Trees.{items_view}
use Rattle.gtp_scenario.proofs.head.switches_in.Given as goal

-- the switches so far, and what is left
abbrev pub invariant-loop-word : goal.invariant-loop-word
invariant-loop-word l = switches_in (items_view l.words) l.switches ≡ switches_in (items_view l.initial.words) no_switches

abbrev pub decreases-loop-word : goal.decreases-loop-word
decreases-loop-word l = length l.words
