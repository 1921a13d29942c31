use Rattle.std.proofs.Common.{◌∙◌, sym}
use Rattle.gtp_user.proofs.Packets.{chosen, lowest, other}
use Rattle.gtp_user.proofs.Viewed.{says}
use Rattle.gtp_user.proofs.viewing.UserView.npdu.Goals as goal

pub returns-then-has_bit : goal.returns-then-has_bit
returns-then-has_bit c = chosen _ _ _ (says c.self.inside.octets.now c.self.inside.start c.args.self.now c.self.invariant c.self.view_is).npdu (lowest _ _ (sym c.has_bit.ensures ∙ c.if-has_bit.true))

pub returns-else-has_bit : goal.returns-else-has_bit
returns-else-has_bit c = other _ _ _ (says c.self.inside.octets.now c.self.inside.start c.args.self.now c.self.invariant c.self.view_is).npdu (lowest _ _ (sym c.has_bit.ensures ∙ c.if-has_bit.false))
