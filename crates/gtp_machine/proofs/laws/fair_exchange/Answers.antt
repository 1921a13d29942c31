-- The laws are proved in `Exchange`.
use Rattle.gtp_machine.proofs.Exchange.Made.{exchange_made, exchange_sendable}
use Rattle.gtp_machine.proofs.Exchange.Possible.{exchanges_are_possible, sendable_read}
use Rattle.gtp_machine.proofs.laws.fair_exchange.Goals as goal

pub returns : goal.returns
returns c = record {
  made = exchange_made;
  sendable = exchange_sendable;
  possible = exchanges_are_possible;
  reads = sendable_read;
}
