use Rattle.gtp_user.proofs.Viewed.{says}
use Rattle.gtp_user.proofs.viewing.UserView.kind.Goals as goal

pub returns : goal.returns
returns c = (says c.self.inside.octets.now c.self.inside.start c.args.self.now c.self.invariant c.self.view_is).kind
