use Rattle.std.proofs.Common.{◌≡◌, ◌++◌}
use Rattle.std.specs.List.{flat_map}
use Rattle.gtp_lines.specs.Control.{inner_line}
use Rattle.gtp_lines.proofs.control.put_all_inner.Given as goal

abbrev pub invariant-loop-view : goal.invariant-loop-view
invariant-loop-view l = l.out.items ++ flat_map inner_line l.view-iterator ≡ l.fn.out.items ++ flat_map inner_line l.elements
