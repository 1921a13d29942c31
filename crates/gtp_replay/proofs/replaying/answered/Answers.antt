use Rattle.gtp_scenario.specs.Views.{scenario}
use Rattle.gtp_replay.proofs.Tellings.{tells_octets, lacks_octets}
use Rattle.gtp_replay.proofs.replaying.answered.Goals as goal

pub returns-in-Ok-clause-told : goal.returns-in-Ok-clause-told
returns-in-Ok-clause-told c = tells_octets (λ p. p.0.items) (λ p. p.1) c.args.form c.args.octets.now (scenario c.in-Ok.scenario) c.told.result c.in-Ok.ensures.read c.told.ensures.told

pub returns-in-Ok-clause-fault : goal.returns-in-Ok-clause-fault
returns-in-Ok-clause-fault c = lacks_octets c.args.form c.args.octets.now (scenario c.in-Ok.scenario) c.told.result c.in-Ok.ensures.read c.told.ensures.fault
