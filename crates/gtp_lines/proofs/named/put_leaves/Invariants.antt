use Rattle.std.proofs.Common.{◌≡◌, ◌++◌}
use Rattle.std.specs.List.{flat_map}
use Rattle.gtp_lines.specs.Named.{leaf_lines}
use Rattle.gtp_lines.proofs.named.put_leaves.Given as goal

abbrev pub invariant-loop-view : goal.invariant-loop-view
invariant-loop-view l = l.out.items ++ flat_map (leaf_lines l.names l.message l.depth) l.view-iterator ≡ l.fn.out.items ++ flat_map (leaf_lines l.names l.message l.depth) l.elements
