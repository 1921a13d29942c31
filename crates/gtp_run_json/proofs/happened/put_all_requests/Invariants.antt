use Rattle.std.proofs.Common.{◌≡◌, ◌++◌, map, drop}
use Rattle.std.specs.List.{flat_map}
use Rattle.json.specs.Tree.{json_tokens}
use Rattle.gtp_gateway.specs.Tick.{arrivals_of}
use Rattle.gtp_run_json.specs.Happened.{forgot_json}
use Rattle.gtp_run_json.proofs.happened.put_all_requests.Given as goal

-- the octets so far, and those of what is left
abbrev pub invariant-loop-request : goal.invariant-loop-request
invariant-loop-request l = l.out ++ flat_map json_tokens (map forgot_json (arrivals_of (drop l.request-index l.requests))) ≡ l.fn.out ++ flat_map json_tokens (map forgot_json (arrivals_of l.requests))
