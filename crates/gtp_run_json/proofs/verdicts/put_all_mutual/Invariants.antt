use Rattle.std.proofs.Common.{◌≡◌, ◌++◌, List}
use Rattle.json.specs.Tree.{json_tokens}
use Rattle.gtp_world.specs.Naming.{Pair, mutual_pairs, DoAgree}
use Rattle.gtp_outcomes.specs.Each.{AddsEach}
use Rattle.gtp_run_json.specs.Verdicts.{mutual_json}
use Rattle.gtp_run_json.proofs.verdicts.put_all_mutual.Given as goal

-- the pairs before those that are left have their objects
abbrev pub invariant-loop-pair : goal.invariant-loop-pair
invariant-loop-pair l = (done : List Pair) × (done ++ l.pair-iterator ≡ mutual_pairs l.world) × AddsEach (DoAgree l.world) (λ pair agree. json_tokens (mutual_json pair agree)) done l.fn.out l.out
