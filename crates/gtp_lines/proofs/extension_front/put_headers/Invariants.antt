use Rattle.std.proofs.Common.{◌≡◌, ◌++◌, map, drop}
use Rattle.std.specs.List.{flat_map}
use Rattle.gtp_user.specs.Chain.{extension_of}
use Rattle.gtp_lines.specs.Named.{extension_lines}
use Rattle.gtp_lines.proofs.extension_front.put_headers.Given as goal

abbrev pub invariant-loop-header : goal.invariant-loop-header
invariant-loop-header l =
    l.out.items ++ flat_map (extension_lines l.names) (map extension_of (drop l.header-index l.headers)) ≡ l.fn.out.items ++ flat_map (extension_lines l.names) (map extension_of l.headers)
