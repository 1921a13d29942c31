use Rattle.std.proofs.Common.{◌∙◌}
use Rattle.gtp_scenario.proofs.Texts.{teid_read}
use Rattle.gtp_scenario.proofs.text.teid_of.Goals as goal

pub returns : goal.returns
returns c = c.ok.ensures.value ∙ teid_read c.args.text.now c.from_text.result c.from_text.ensures
