use Rattle.std.proofs.Common.{◌≡◌, length}
use Rattle.gtp_scenario.specs.Trees.{items_view}
use Rattle.gtp_scenario.proofs.Lists.{some_with_front}
use Rattle.gtp_serve.specs.NodeHeads.{peers_in}
use Rattle.gtp_serve.proofs.node_head.peers_in.Given as goal

-- the peers so far, and what is left
abbrev pub invariant-loop-value : goal.invariant-loop-value
invariant-loop-value l = some_with_front l.peers.items (peers_in (items_view l.values)) ≡ peers_in (items_view l.initial.values)

abbrev pub decreases-loop-value : goal.decreases-loop-value
decreases-loop-value l = length l.values
