use Rattle.std.proofs.Common.{◌≡◌, ◌++◌}
use Rattle.std.specs.List.{flat_map}
use Rattle.gtp_lines.specs.Named.{extension_lines}
use Rattle.gtp_lines.proofs.named.put_extensions.Given as goal

abbrev pub invariant-loop-header : goal.invariant-loop-header
invariant-loop-header l = l.out.items ++ flat_map (extension_lines l.names) l.header-iterator ≡ l.fn.out.items ++ flat_map (extension_lines l.names) l.extensions
