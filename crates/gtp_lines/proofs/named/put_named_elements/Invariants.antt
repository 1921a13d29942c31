use Rattle.std.proofs.Common.{◌≡◌, ◌++◌}
use Rattle.std.specs.List.{flat_map}
use Rattle.gtp_lines.specs.Named.{named_lines}
use Rattle.gtp_lines.proofs.named.put_named_elements.Given as goal

abbrev pub invariant-loop-view : goal.invariant-loop-view
invariant-loop-view l = l.out.items ++ flat_map (named_lines l.names l.message) l.view-iterator ≡ l.fn.out.items ++ flat_map (named_lines l.names l.message) l.elements
