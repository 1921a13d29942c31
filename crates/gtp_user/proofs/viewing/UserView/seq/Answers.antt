use Rattle.std.proofs.Common.{◌∙◌, sym, ap, Some, ℕ, arith}
use Rattle.gtp_user.proofs.Packets.{chosen, other}
use Rattle.gtp_user.proofs.Viewed.{says}
use Rattle.gtp_user.proofs.viewing.UserView.seq.Goals as goal

pub returns-then-has_bit : goal.returns-then-has_bit
returns-then-has_bit c =
    ap (λ (n : ℕ). Some n) (omega (arith, c.from_be_bytes.ensures))
    ∙ chosen _ _ _ (says c.self.inside.octets.now c.self.inside.start c.args.self.now c.self.invariant c.self.view_is).seq
    (sym c.has_bit.ensures ∙ c.if-has_bit.true)

pub returns-then-is_numbered : goal.returns-then-is_numbered
returns-then-is_numbered c =
    chosen _ _ _ (sym (other _ _ _ (says c.self.inside.octets.now c.self.inside.start c.args.self.now c.self.invariant c.self.view_is).seq
    (sym c.has_bit.ensures ∙ c.if-has_bit.false))) (sym c.is_numbered.ensures ∙ c.if-is_numbered.true)

pub returns-else-is_numbered : goal.returns-else-is_numbered
returns-else-is_numbered c =
    other _ _ _ (sym (other _ _ _ (says c.self.inside.octets.now c.self.inside.start c.args.self.now c.self.invariant c.self.view_is).seq
    (sym c.has_bit.ensures ∙ c.if-has_bit.false))) (sym c.is_numbered.ensures ∙ c.if-is_numbered.false)
