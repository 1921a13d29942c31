use Rattle.std.proofs.Common.{◌≡◌, ◌++◌, map}
use Rattle.std.specs.FinMap.{entries}
use Rattle.std.specs.List.{flat_map}
use Rattle.json.specs.Tree.{json_tokens}
use Rattle.gtp_run_json.specs.Contexts.{bearer_json}
use Rattle.gtp_run_json.proofs.contexts.put_bearers_of.Given as goal

-- the objects so far, and those of what is left
abbrev pub invariant-loop-own : goal.invariant-loop-own
invariant-loop-own l = l.out ++ flat_map json_tokens (map (bearer_json l.node) l.own-iterator) ≡ l.fn.out ++ flat_map json_tokens (map (bearer_json l.node) (entries l.gateway.node.bearers))
