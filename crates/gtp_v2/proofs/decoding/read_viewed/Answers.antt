use Rattle.std.proofs.Common.{subst, sym}
use Rattle.std.specs.Prelude.{Result}
use Rattle.gtp_v2.specs.declared.fault.V2Fault.{V2Fault}
use Rattle.gtp_v2.specs.declared.message.Datagram.{Datagram}
use Rattle.gtp_v2.specs.Message.{MessageGives}
use Rattle.gtp_v2.specs.Pair.{DatagramAllocates, datagram_value}
use Rattle.gtp_v2.specs.reading.Pair.{datagram_at}
use Rattle.gtp_v2.proofs.Answered.{fault_is_told}
use Rattle.gtp_v2.proofs.decoding.read_viewed.Goals as goal

pub returns-in-Err-clause-messages : goal.returns-in-Err-clause-messages
returns-in-Err-clause-messages c =
    subst (λ (r : Result Datagram V2Fault). MessageGives DatagramAllocates datagram_value r (datagram_at c.args.octets.now))
    (sym c.refused.ensures) (fault_is_told c.in-Err.fault c.args.octets.now c.in-Err.ensures.messages)
