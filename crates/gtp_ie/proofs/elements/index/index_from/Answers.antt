use Rattle.std.proofs.Common.{◌∙◌, sym}
use Rattle.gtp_ie.specs.Element.{elements_of}
use Rattle.gtp_ie.proofs.Walk.{walked, is_stopped}
use Rattle.gtp_ie.proofs.elements.index.index_from.Goals as goal

pub returns-in-Some : goal.returns-in-Some
returns-in-Some c = is_stopped (elements_of c.args.base c.args.octets.now) c.in-Some.at (sym c.fill.ensures.stop ∙ c.in-Some.is)

pub returns-in-None : goal.returns-in-None
returns-in-None c = walked (elements_of c.args.base c.args.octets.now) (sym c.fill.ensures.stop ∙ c.in-None.is)
