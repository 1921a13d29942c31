use Rattle.gtp_ie.proofs.Finding.{finds}
use Rattle.gtp_ie.proofs.elements.elements_at.Goals as goal

pub returns-clause-elements : goal.returns-clause-elements
returns-clause-elements c = finds c.args.base c.args.octets.now c.walk_from.result c.walk_from.ensures
