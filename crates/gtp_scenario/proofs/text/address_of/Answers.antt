use Rattle.std.proofs.Common.{◌∙◌, ap, option_map}
use Rattle.gtp_scenario.proofs.Texts.{address_read}
use Rattle.gtp_scenario.proofs.text.address_of.Goals as goal

pub returns : goal.returns
returns c = ap (option_map (λ address. address.octets)) c.ok.ensures.value ∙ address_read c.args.text.now c.parse.result c.parse.ensures.value
