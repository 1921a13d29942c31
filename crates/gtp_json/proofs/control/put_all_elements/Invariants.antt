use Rattle.std.proofs.Common.{◌≡◌, ◌++◌}
use Rattle.std.specs.List.{flat_map}
use Rattle.json.specs.Tree.{json_tokens}
use Rattle.gtp_json.specs.Control.{element_json}
use Rattle.gtp_json.proofs.control.put_all_elements.Given as goal

abbrev pub invariant-loop-view : goal.invariant-loop-view
invariant-loop-view l = l.out ++ flat_map (λ e. json_tokens (element_json e)) l.view-iterator ≡ l.fn.out ++ flat_map (λ e. json_tokens (element_json e)) l.elements
