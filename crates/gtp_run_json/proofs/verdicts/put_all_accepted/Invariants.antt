use Rattle.std.proofs.Common.{take}
use Rattle.json.specs.Tree.{json_tokens}
use Rattle.gtp_outcomes.specs.Owed.{WasOwed}
use Rattle.gtp_outcomes.specs.Each.{AddsEach}
use Rattle.gtp_run_json.specs.Verdicts.{accepted_json}
use Rattle.gtp_run_json.proofs.verdicts.put_all_accepted.Given as goal

-- the packets before this one have their objects
abbrev pub invariant-loop-index : goal.invariant-loop-index
invariant-loop-index l = AddsEach (WasOwed l.world.log) (λ entry owed. json_tokens (accepted_json entry owed)) (take l.index l.world.log.accepted) l.fn.out l.out
