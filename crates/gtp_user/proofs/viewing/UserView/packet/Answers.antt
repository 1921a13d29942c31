use Rattle.std.proofs.Common.{◌≡◌, ◌∙◌, ap, true, false, ℕ, List, Some, take, drop, ◌-◌, length, arith}
use Rattle.std.specs.Prelude.{◌==◌, slice_index}
use Rattle.std.proofs.lemmas.Bool.Decides.{nat_tests}
use Rattle.std.proofs.lemmas.List.{take_rest}
use Rattle.gtp_user.specs.reading.Viewed.{teid_at}
use Rattle.gtp_user.proofs.Packets.{chosen, other}
use Rattle.gtp_user.proofs.Viewed.{says}
use Rattle.gtp_user.proofs.viewing.UserView.packet.Goals as goal

pub returns-then-self : goal.returns-then-self
returns-then-self c =
    let is : (slice_index c.self.inside.octets.now 1 == 255) ≡ true = grind (arith, nat_tests) in
    ap (λ (n : ℕ). Some (n, take (length c.self.inside.octets.now - c.self.inside.start) (drop c.self.inside.start c.self.inside.octets.now))) c.header_teid.ensures
    ∙ (ap (λ (xs : List ℕ). Some (teid_at c.self.inside.octets.now, xs)) (take_rest c.self.inside.octets.now c.self.inside.start)
    ∙ chosen _ _ _ (says c.self.inside.octets.now c.self.inside.start c.args.self.now c.self.invariant c.self.view_is).packet is)

pub returns-else-self : goal.returns-else-self
returns-else-self c =
    let is : (slice_index c.self.inside.octets.now 1 == 255) ≡ false = grind (arith, nat_tests) in
    other _ _ _ (says c.self.inside.octets.now c.self.inside.start c.args.self.now c.self.invariant c.self.view_is).packet is
