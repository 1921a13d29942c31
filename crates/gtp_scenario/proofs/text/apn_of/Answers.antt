use Rattle.std.proofs.Common.{Ok, Err}
use Rattle.gtp_scenario.proofs.Texts.{apn_read}
use Rattle.gtp_scenario.proofs.text.apn_of.Goals as goal

pub returns-in-Ok : goal.returns-in-Ok
returns-in-Ok c = apn_read c.args.text.now (Ok c.in-Ok.apn) c.octets.ensures.range c.in-Ok.ensures

pub returns-in-Err : goal.returns-in-Err
returns-in-Err c = apn_read c.args.text.now (Err c.in-Err.field-0) tt c.in-Err.ensures
