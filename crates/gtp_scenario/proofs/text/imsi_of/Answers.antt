use Rattle.std.proofs.Common.{◌∙◌}
use Rattle.gtp_scenario.proofs.Texts.{imsi_read}
use Rattle.gtp_scenario.proofs.text.imsi_of.Goals as goal

pub returns : goal.returns
returns c = c.ok.ensures.value ∙ imsi_read c.args.text.now c.from_text.result c.from_text.ensures
