use Rattle.gtp_node.proofs.Routing.{first_says, none_says}
use Rattle.gtp_node.proofs.node.Node.place_of.Goals as goal

pub returns-in-Control-clause-some : goal.returns-in-Control-clause-some
returns-in-Control-clause-some c = rw c.in-Control.is (first_says c.args.self.now.control c.args.address.now c.place_of.result c.place_of.ensures)

pub returns-in-Control-clause-none : goal.returns-in-Control-clause-none
returns-in-Control-clause-none c = rw c.in-Control.is (none_says c.args.self.now.control c.args.address.now c.place_of.result c.place_of.ensures)

pub returns-in-User-clause-some : goal.returns-in-User-clause-some
returns-in-User-clause-some c = rw c.in-User.is (first_says c.args.self.now.user c.args.address.now c.place_of-in-User.result c.place_of-in-User.ensures)

pub returns-in-User-clause-none : goal.returns-in-User-clause-none
returns-in-User-clause-none c = rw c.in-User.is (none_says c.args.self.now.user c.args.address.now c.place_of-in-User.result c.place_of-in-User.ensures)
