use Rattle.std.proofs.Common.{◌≡◌, length}
use Rattle.gtp_node.specs.Routing.{peers_of, no_peers}
use Rattle.gtp_serve.specs.NodeAnswers.{with_peers, HasRole}
use Rattle.gtp_serve.proofs.node_server.node_for.Given as goal

-- the peers so far, and those that are left
abbrev pub invariant-loop-config : goal.invariant-loop-config
invariant-loop-config l = record {
  peers : with_peers l.role l.counter.0 l.rest (peers_of l.node) ≡ with_peers l.role l.counter.0 l.initial.rest no_peers;
  role : HasRole l.role (peers_of l.node).gateways;
}

abbrev pub decreases-loop-config : goal.decreases-loop-config
decreases-loop-config l = length l.rest
