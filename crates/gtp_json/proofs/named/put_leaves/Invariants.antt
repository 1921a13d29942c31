use Rattle.std.proofs.Common.{◌≡◌, ◌++◌}
use Rattle.std.specs.List.{flat_map}
use Rattle.json.specs.Tree.{json_tokens}
use Rattle.gtp_json.specs.Named.{leaf_json}
use Rattle.gtp_json.proofs.named.put_leaves.Given as goal

abbrev pub invariant-loop-view : goal.invariant-loop-view
invariant-loop-view l =
    l.out ++ flat_map (λ e. json_tokens (leaf_json l.places l.names l.message e)) l.view-iterator ≡ l.fn.out ++ flat_map (λ e. json_tokens (leaf_json l.places l.names l.message e)) l.elements
