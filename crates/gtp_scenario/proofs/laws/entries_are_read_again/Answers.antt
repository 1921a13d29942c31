use Rattle.gtp_scenario.proofs.Spelled.{entry_again}
use Rattle.gtp_scenario.proofs.Written.{entry_text_again}
use Rattle.gtp_scenario.proofs.laws.entries_are_read_again.Goals as goal

pub returns : goal.returns
returns c = record { again = entry_again; text = entry_text_again }
