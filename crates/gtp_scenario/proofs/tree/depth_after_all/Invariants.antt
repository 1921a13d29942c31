use Rattle.std.proofs.Common.{◌≡◌, map, drop}
use Rattle.json.specs.Tape.{node_token}
use Rattle.gtp_scenario.specs.Trees.{depth_after_all}
use Rattle.gtp_scenario.proofs.tree.depth_after_all.Given as goal

-- what is left decides
abbrev pub invariant-loop-node : goal.invariant-loop-node
invariant-loop-node l = depth_after_all l.depth (map node_token (drop l.node-index l.nodes)) ≡ depth_after_all 0 (map node_token l.nodes)
