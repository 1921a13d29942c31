use Rattle.std.proofs.Common.{◌≡◌, ◌++◌}
use Rattle.std.specs.List.{flat_map}
use Rattle.json.specs.Tree.{json_tokens}
use Rattle.gtp_json.specs.User.{extension_json}
use Rattle.gtp_json.proofs.user.put_all_extensions.Given as goal

abbrev pub invariant-loop-header : goal.invariant-loop-header
invariant-loop-header l = l.out ++ flat_map (λ e. json_tokens (extension_json e)) l.header-iterator ≡ l.fn.out ++ flat_map (λ e. json_tokens (extension_json e)) l.extensions
