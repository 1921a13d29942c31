use Rattle.json.specs.Tree.{json_tokens}
use Rattle.gtp_world.specs.Record.{entry_by}
use Rattle.gtp_outcomes.specs.Owed.{WasOwed}
use Rattle.gtp_outcomes.proofs.Each.{takes_item}
use Rattle.gtp_run_json.specs.Verdicts.{accepted_json}
use Rattle.gtp_run_json.proofs.verdicts.put_all_accepted.Goals as goal

pub loop-index-preserved : goal.loop-index-preserved
loop-index-preserved c =
    takes_item (WasOwed c.args.world.now.log) (λ entry owed. json_tokens (accepted_json entry owed)) entry_by c.accepted-packet-items.result.now
    c.args.world.now.log.accepted c.loop-index.index c.packet-item.result c.in-Some.owed
    c.args.out.now c.loop-index.out c.put_packet.new.out
    c.accepted-packet-items.ensures c.packet-item.is c.loop-index-test.true c.in-Some.ensures.some c.loop-index.invariant c.in_ok-put_packet.ensures.ok
