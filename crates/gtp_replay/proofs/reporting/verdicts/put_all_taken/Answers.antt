use Rattle.gtp_world.specs.Record.{entry_by}
use Rattle.gtp_outcomes.specs.Owed.{WasOwed}
use Rattle.gtp_replay.specs.Verdicts.{taken_line}
use Rattle.gtp_outcomes.proofs.Each.{takes_item}
use Rattle.gtp_replay.proofs.reporting.verdicts.put_all_taken.Goals as goal

pub loop-index-preserved : goal.loop-index-preserved
loop-index-preserved c =
    takes_item (WasOwed c.args.world.now.log) taken_line entry_by c.accepted-taken-items.result.now c.args.world.now.log.accepted c.loop-index.index c.taken-item.result c.in-Some.owed
    c.args.out.now.items c.loop-index.out.items c.put_taken.new.out.items
    c.accepted-taken-items.ensures c.taken-item.is c.loop-index-test.true c.in-Some.ensures.some c.loop-index.invariant c.in_ok-put_taken.ensures.ok
