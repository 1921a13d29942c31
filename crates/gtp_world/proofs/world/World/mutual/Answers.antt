use Rattle.gtp_world.proofs.Naming.{listed, is_listed}
use Rattle.gtp_world.proofs.world.World.mutual.Goals as goal

pub returns-clause-exactly : goal.returns-clause-exactly
returns-clause-exactly c pair = (listed c.args.self.now pair, is_listed c.args.self.now pair)
