-- The laws are proved in the files of `Octets`.
use Rattle.gtp_machine.proofs.Octets.ByName as named
use Rattle.gtp_machine.proofs.Octets.ByGrammar as grammar
use Rattle.gtp_machine.proofs.Octets.Datagrams.{datagram_by_grammar, message_reads_alone, datagram_cuts_read}
use Rattle.gtp_machine.proofs.Octets.Pairs.{pair_cuts_read, pair_spelled_reads}
use Rattle.gtp_machine.proofs.Octets.Readings as law
use Rattle.gtp_machine.proofs.Octets.Spelled.{spelled_reads, spelled_apart}
use Rattle.gtp_machine.proofs.laws.readings.Goals as goal

pub returns : goal.returns
returns c = record {
  grammar = grammar.control_by_grammar;
  datagrams = datagram_by_grammar;
  alone = message_reads_alone;
  user_grammar = grammar.user_by_grammar;
  named = named.control_by_name;
  user_named = named.user_by_name;
  decoded = grammar.decoded_reads;
  user_decoded = grammar.user_decoded_reads;
  cuts = grammar.cuts_read;
  datagram_cuts = datagram_cuts_read;
  pair_cuts = pair_cuts_read;
  pair_spelled = pair_spelled_reads;
  user_cuts = grammar.user_cuts_read;
  spelled = spelled_reads;
  apart = spelled_apart;
  create_session_request = law.create_session_request_reads;
  create_bearer_request = law.create_bearer_request_reads;
}
