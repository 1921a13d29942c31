use Rattle.std.proofs.Common.{sym, subst}
use Rattle.std.proofs.lemmas.Grind.{merely}
use Rattle.gtp_machine.specs.Sound.{IsSound}
use Rattle.gtp_machine.proofs.Sound.Changes.{fresh}
use Rattle.gtp_gateway.specs.GatewayState.{GatewayState}
use Rattle.gtp_gateway.proofs.gateway.Gateway.start.Goals as goal

-- a gateway that has just started is sound
pub invariant_of-result : goal.invariant_of-result
invariant_of-result c = merely (subst (λ (s : GatewayState). IsSound s.role s.node) (sym c.in_ok-start.ensures) (fresh c.args.role c.args.config.now.config c.args.counter.0))
