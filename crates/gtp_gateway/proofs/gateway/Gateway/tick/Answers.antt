use Rattle.gtp_gateway.specs.GatewayState.{state_of}
use Rattle.gtp_gateway.proofs.Ticking.{tick_sound}
use Rattle.gtp_gateway.proofs.gateway.Gateway.tick.Goals as goal

pub invariant_of-self : goal.invariant_of-self
invariant_of-self c = tick_sound c.tick.result (state_of c.self.inside.parts) (state_of c.tick.new.self) c.tick.ensures.ticked c.tick.ensures.err c.self.invariant
