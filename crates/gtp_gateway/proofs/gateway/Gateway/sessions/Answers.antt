use mathlib.Core.Logic.{∥∥₁_elim}
use Rattle.std.proofs.Common.{◌≡◌, ◌≢◌, ◌⊎◌, inl, inr, ℕ, subst}
use Rattle.std.proofs.lemmas.Bool.{cases_eq}
use Rattle.gtp_machine.specs.declared.role.Role.TheVariants.{Packet}
use Rattle.gtp_machine.specs.Sound.{AreAddressesApart}
use Rattle.gtp_gateway.specs.GatewayState.{GatewayState, NodeMatchesQueues, IsSoundState, state_of}
use Rattle.gtp_gateway.proofs.QueuesAfter.{tied_of}
use Rattle.gtp_gateway.proofs.gateway.Gateway.sessions.Goals as goal

-- what is so of each sound gateway, where it is a test, is so of this one
same_if : (s : GatewayState) → IsSoundState s → s.role ≡ Packet → AreAddressesApart s.node.sessions
same_if s whole packet version first second a b address x y has_a has_b = by (cases_eq first second)
  where
    by : (first ≡ second) ⊎ (first ≢ second) → first ≡ second
    by (inl same) = same
    by (inr different) = absurd (∥∥₁_elim whole (λ x y. absurd x) (λ sound. different (sound.addresses packet version first second a b address x y has_a has_b)))

pub returns-clause-addresses : goal.returns-clause-addresses
returns-clause-addresses c = subst (λ (s : GatewayState). s.role ≡ Packet → AreAddressesApart s.node.sessions) c.self.view_is (same_if (state_of c.self.inside.parts) c.self.invariant)

pub returns-clause-always : goal.returns-clause-always
returns-clause-always c = subst NodeMatchesQueues c.self.view_is (tied_of c.self.inside.parts)
