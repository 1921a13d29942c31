use Rattle.std.specs.Prelude.{codes}
use Rattle.gtp_values.specs.Bit.{bit}
use Rattle.gtp_json.specs.Tree.{member, number_of}
use Rattle.gtp_json.specs.Values.{level_member}
use Rattle.gtp_json.proofs.Tokens.{thrice}
use Rattle.gtp_json.proofs.values.put_retention.Goals as goal

pub returns : goal.returns
returns c =
    let q = c.args.qos.now in
    let first = member (codes "preemption_capability") (number_of (bit q.pci)) in
    let last = member (codes "preemption_vulnerability") (number_of (bit q.pvi)) in
    record {
      ok =
          thrice c.args.out.now c.put_bit.new.out c.put_level.new.out c.put_bit-2.new.out first (level_member q) last c.in_ok-put_bit.ensures.ok
          c.in_ok-put_level.ensures.ok c.in_ok-put_bit-2.ensures.ok;
    }
