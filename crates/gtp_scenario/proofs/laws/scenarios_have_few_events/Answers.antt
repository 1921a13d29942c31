use Rattle.gtp_scenario.proofs.Readings.{few_events}
use Rattle.gtp_scenario.proofs.laws.scenarios_have_few_events.Goals as goal

pub returns : goal.returns
returns c = record { few = few_events }
