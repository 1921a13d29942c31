use Rattle.gtp_scenario.proofs.OneReading.{one_reading}
use Rattle.gtp_scenario.proofs.laws.octets_have_one_reading.Goals as goal

pub returns : goal.returns
returns c = record { one = one_reading }
