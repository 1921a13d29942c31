use Rattle.gtp_world.specs.Naming.{pair_of, mutual_pairs, DoAgree}
use Rattle.gtp_replay.specs.Verdicts.{mutual_line}
use Rattle.gtp_outcomes.proofs.Each.{goes_on}
use Rattle.gtp_replay.proofs.reporting.verdicts.put_all_mutual.Goals as goal

pub loop-pair-preserved : goal.loop-pair-preserved
loop-pair-preserved c =
    goes_on (DoAgree c.args.world.now) mutual_line (mutual_pairs c.args.world.now) c.loop-pair.pair-iterator c.next.new.self (pair_of c.in-Some.pair) c.agrees-agree.result
    c.args.out.now.items c.loop-pair.out.items c.put_mutual.new.out.items
    c.loop-pair.invariant c.in-Some.ensures.steps c.agrees-agree.ensures c.in_ok-put_mutual.ensures.ok
