use Rattle.std.proofs.Common.{◌<◌, arith}
use Rattle.gtp_ie.proofs.Again.{qos_again}
use Rattle.gtp_ie.proofs.value.qos.QosIeValue.write.Goals as goal

pub returns-clause-again : goal.returns-clause-again
returns-clause-again c =
    let small : c.args.self.now.pl < 16 = omega arith in
    qos_again c.args.self.now small c.octets_of-mbr.ensures.range c.octets_of-gbr.ensures.range
