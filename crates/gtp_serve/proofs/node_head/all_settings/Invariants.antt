use Rattle.std.proofs.Common.{◌≡◌, length}
use Rattle.gtp_scenario.specs.Trees.{view}
use Rattle.gtp_scenario.proofs.Lists.{some_with_front}
use Rattle.gtp_serve.specs.NodeHeads.{all_settings}
use Rattle.gtp_serve.proofs.node_head.all_settings.Given as goal

-- the settings so far, and those of the peers that are left
abbrev pub invariant-loop-peer : goal.invariant-loop-peer
invariant-loop-peer l =
    some_with_front l.configs.items (all_settings l.role (view l.value) (length l.configs.items) l.rest) ≡ all_settings l.role (view l.value) 0 l.initial.rest

abbrev pub decreases-loop-peer : goal.decreases-loop-peer
decreases-loop-peer l = length l.rest
