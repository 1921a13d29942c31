use Rattle.gtp_ie.proofs.Finding.{finds}
use Rattle.gtp_ie.proofs.elements.index.indexed_at.Goals as goal

pub returns-clause-elements : goal.returns-clause-elements
returns-clause-elements c = finds c.args.base c.args.octets.now c.index_from.result c.index_from.ensures
