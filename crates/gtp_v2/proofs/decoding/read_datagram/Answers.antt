use Rattle.gtp_v2.proofs.Answered.{built_so_marked}
use Rattle.gtp_v2.proofs.decoding.read_datagram.Goals as goal

pub returns-in-Some-clause-marks : goal.returns-in-Some-clause-marks
returns-in-Some-clause-marks c = built_so_marked c.args.octets.now c.in-Some.datagram c.in-Some.ensures.messages
