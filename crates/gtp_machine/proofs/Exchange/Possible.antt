-- There are exchanges that meet all premises, from a start.
use Rattle.std.proofs.Common.{◌≡◌, ℕ, ◌≤◌, [], refl, ◌∙◌, arith}
use Rattle.gtp_machine.specs.Element.{PdnAddress}
use Rattle.gtp_machine.specs.Choice.{IsGiven}
use Rattle.gtp_machine.specs.Packet.{session_cause}
use Rattle.gtp_machine.specs.Laws.{EachSendable}
use Rattle.gtp_machine.specs.Exchange.{CanExchange, IsExchange, Exchanged, SendableRead, AnExchange, ExchangesArePossible}
use Rattle.gtp_machine.proofs.Determined.Chosen.{one_cause}
use Rattle.gtp_machine.proofs.Octets.Spelled.{spelled_reads}
use Rattle.gtp_machine.proofs.Exchange.Nodes.{can_be_had}
use Rattle.gtp_machine.proofs.Exchange.Made.{exchange_made}
use Rattle.gtp_machine.proofs.Worlds.Beginning.{serving_config, packet_config, no_sessions, none_pending, w0, w1, w2, w3, spec, step1, step2, step3}
use Rattle.gtp_machine.proofs.Worlds.Beginning.{at_start, only_v4, only_v6, both_versions, gives_v4, gives_v6, gives_both, gives_one_of_both}
use Rattle.gtp_machine.proofs.Worlds.Sendable.{serving_is, packet_is, specified, session_request, session_response, among_sendable}

pub sendable_read : SendableRead
sendable_read w each role m has = spelled_reads m (each role m has)

module _ (pdn count cause : ℕ) (address : PdnAddress) (few : count ≤ 65536) (given : IsGiven (at_start count []) pdn address) (causes : session_cause pdn address ≡ cause) where
  sendable : EachSendable (w3 pdn count address)
  sendable = among_sendable (w3 pdn count address).history (session_request pdn count address few given, (session_response pdn count address few given, tt))

  can : CanExchange (w0 count) (spec pdn)
  can = record {
    identity = record { low = omega arith; high = omega arith };
    configured = refl;
    serving_room = record { few = no_sessions };
    packet_room = record { few = no_sessions };
    serving_draws = record { left = omega arith };
    packet_draws = record { left = omega arith };
    pending_room = record { few = none_pending };
    held_room = record { few = omega arith };
    give = can_be_had (at_start count []) pdn address given;
  }

  is : IsExchange (w0 count) (w1 pdn count address) (w2 pdn count address) (w3 pdn count address) (spec pdn)
  is = record {
    path = record { there = refl; back = refl };
    serving = serving_is;
    packet = packet_is count few;
    specified = specified pdn;
    can = can;
    begins = step1 pdn count address;
    comes = step2 pdn count address given;
    opens = step3 pdn count address given;
  }

  made : Exchanged (spec pdn) (w0 count) (w1 pdn count address) (w2 pdn count address) (w3 pdn count address)
  made = exchange_made serving_config (packet_config count) 1 1 [] (w0 count) (w1 pdn count address) (w2 pdn count address) (w3 pdn count address) (spec pdn) refl is

  an_exchange : AnExchange pdn cause
  an_exchange = record {
    serving = serving_config;
    packet = packet_config count;
    serving_counter = 1;
    packet_counter = 1;
    begun = w1 pdn count address;
    answered = w2 pdn count address;
    opened = w3 pdn count address;
    spec = spec pdn;
    type = refl;
    is = is;
    sendable = sendable;
    made = made;
    answers = made.for_address ∙ (one_cause (at_start count []) pdn made.address address made.given given ∙ causes);
  }

pub exchanges_are_possible : ExchangesArePossible
exchanges_are_possible = record {
  v4 = an_exchange 1 0 16 only_v4 (omega arith) (gives_v4 []) refl;
  v6 = an_exchange 2 1 16 only_v6 (omega arith) gives_v6 refl;
  both = an_exchange 3 1 16 both_versions (omega arith) gives_both refl;
  one_of_both = an_exchange 3 0 18 only_v4 (omega arith) gives_one_of_both refl;
}
