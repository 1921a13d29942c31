use Rattle.std.proofs.Common.{◌∙◌, sym, ap, Some, ℕ}
use Rattle.gtp_user.proofs.Packets.{chosen, other}
use Rattle.gtp_user.proofs.Viewed.{says}
use Rattle.gtp_user.proofs.viewing.UserView.teid.Goals as goal

pub returns-then-is_numbered : goal.returns-then-is_numbered
returns-then-is_numbered c = chosen _ _ _ (says c.self.inside.octets.now c.self.inside.start c.args.self.now c.self.invariant c.self.view_is).teid (sym c.is_numbered.ensures ∙ c.if-is_numbered.true)

pub returns-else-is_numbered : goal.returns-else-is_numbered
returns-else-is_numbered c =
    ap (λ (n : ℕ). Some n) c.header_teid.ensures
    ∙ other _ _ _ (says c.self.inside.octets.now c.self.inside.start c.args.self.now c.self.invariant c.self.view_is).teid
    (sym c.is_numbered.ensures ∙ c.if-is_numbered.false)
