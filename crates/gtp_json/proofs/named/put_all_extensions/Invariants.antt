use Rattle.std.proofs.Common.{◌≡◌, ◌++◌}
use Rattle.std.specs.List.{flat_map}
use Rattle.json.specs.Tree.{json_tokens}
use Rattle.gtp_json.specs.Named.{named_extension_json}
use Rattle.gtp_json.proofs.named.put_all_extensions.Given as goal

abbrev pub invariant-loop-header : goal.invariant-loop-header
invariant-loop-header l =
    l.out ++ flat_map (λ e. json_tokens (named_extension_json l.names e)) l.header-iterator ≡ l.fn.out ++ flat_map (λ e. json_tokens (named_extension_json l.names e)) l.extensions
