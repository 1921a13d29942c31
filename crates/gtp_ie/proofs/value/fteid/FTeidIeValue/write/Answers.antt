use Rattle.gtp_ie.proofs.AgainAddresses.{fteid_again}
use Rattle.gtp_ie.proofs.value.fteid.FTeidIeValue.write.Goals as goal

pub returns-clause-again : goal.returns-clause-again
returns-clause-again c = fteid_again c.args.self.now c.interface.ensures.range

pub returns-in-Some-None-clause-again : goal.returns-in-Some-None-clause-again
returns-in-Some-None-clause-again c = fteid_again c.args.self.now c.interface.ensures.range
