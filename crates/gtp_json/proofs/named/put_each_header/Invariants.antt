use Rattle.std.proofs.Common.{◌≡◌, ◌++◌, map, drop}
use Rattle.std.specs.List.{flat_map}
use Rattle.json.specs.Tree.{json_tokens}
use Rattle.gtp_user.specs.Chain.{extension_of}
use Rattle.gtp_json.specs.Named.{named_extension_json}
use Rattle.gtp_json.proofs.named.put_each_header.Given as goal

abbrev pub invariant-loop-header : goal.invariant-loop-header
invariant-loop-header l =
    l.out ++ flat_map (λ e. json_tokens (named_extension_json l.names e)) (map extension_of (drop l.header-index l.headers))
    ≡ l.fn.out ++ flat_map (λ e. json_tokens (named_extension_json l.names e)) (map extension_of l.headers)
