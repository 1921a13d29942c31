use Rattle.gtp_v2.specs.Pair.{datagram_value}
use Rattle.gtp_v2.proofs.Answered.{answers_ok, answers_fault, answers_only, answers_first, answers_memory, answers_small}
use Rattle.gtp_v2.proofs.decoding.decode.Goals as goal

pub returns-clause-found : goal.returns-clause-found
returns-clause-found c = answers_ok datagram_value c.read_datagram.result c.args.octets.now c.read_datagram.ensures.messages

pub returns-clause-only : goal.returns-clause-only
returns-clause-only c = answers_only datagram_value c.read_datagram.result c.args.octets.now c.read_datagram.ensures.messages

pub returns-clause-fault : goal.returns-clause-fault
returns-clause-fault c = answers_fault datagram_value c.read_datagram.result c.args.octets.now c.read_datagram.ensures.messages

pub returns-clause-first : goal.returns-clause-first
returns-clause-first c = answers_first datagram_value c.read_datagram.result c.args.octets.now c.read_datagram.ensures.messages

pub returns-clause-instance : goal.returns-clause-instance
returns-clause-instance c = answers_small datagram_value c.read_datagram.result c.args.octets.now c.read_datagram.ensures.messages

pub returns-clause-memory : goal.returns-clause-memory
returns-clause-memory c = answers_memory datagram_value c.read_datagram.result c.args.octets.now c.read_datagram.ensures.messages
