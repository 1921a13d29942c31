use Rattle.json.specs.Tree.{json_tokens}
use Rattle.gtp_world.specs.Naming.{pair_of, mutual_pairs, DoAgree}
use Rattle.gtp_outcomes.proofs.Each.{goes_on}
use Rattle.gtp_run_json.specs.Verdicts.{mutual_json}
use Rattle.gtp_run_json.proofs.verdicts.put_all_mutual.Goals as goal

pub loop-pair-preserved : goal.loop-pair-preserved
loop-pair-preserved c =
    goes_on (DoAgree c.args.world.now) (λ pair agree. json_tokens (mutual_json pair agree)) (mutual_pairs c.args.world.now) c.loop-pair.pair-iterator
    c.next.new.self (pair_of c.in-Some.pair) c.agrees-agree.result
    c.args.out.now c.loop-pair.out c.put_contexts.new.out
    c.loop-pair.invariant c.in-Some.ensures.steps c.agrees-agree.ensures c.in_ok-put_contexts.ensures.ok
