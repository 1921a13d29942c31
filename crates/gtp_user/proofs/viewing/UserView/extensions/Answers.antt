use Rattle.std.proofs.Common.{◌∙◌, sym}
use Rattle.gtp_user.proofs.Viewed.{says}
use Rattle.gtp_user.proofs.viewing.UserView.extensions.Goals as goal

pub of-requires : goal.of-requires
of-requires c = ((says c.self.inside.octets.now c.self.inside.start c.args.self.now c.self.invariant c.self.view_is).chain (sym c.has_bit.ensures ∙ c.if-has_bit.true)).0

pub returns-then-has_bit : goal.returns-then-has_bit
returns-then-has_bit c = c.of.ensures ∙ ((says c.self.inside.octets.now c.self.inside.start c.args.self.now c.self.invariant c.self.view_is).chain (sym c.has_bit.ensures ∙ c.if-has_bit.true)).1

pub returns-else-has_bit : goal.returns-else-has_bit
returns-else-has_bit c =
    c.none.ensures ∙ sym ((says c.self.inside.octets.now c.self.inside.start c.args.self.now c.self.invariant c.self.view_is).no_chain
    (sym c.has_bit.ensures ∙ c.if-has_bit.false))
