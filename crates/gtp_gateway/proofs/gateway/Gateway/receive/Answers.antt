use Rattle.gtp_gateway.specs.GatewayState.{state_of}
use Rattle.gtp_gateway.proofs.Receiving.{received_sound}
use Rattle.gtp_gateway.proofs.gateway.Gateway.receive.Goals as goal

pub invariant_of-self : goal.invariant_of-self
invariant_of-self c =
    received_sound c.args.plane c.args.source c.args.octets.now c.receive.result (state_of c.self.inside.parts) (state_of c.receive.new.self)
    c.receive.ensures.received c.receive.ensures.err c.self.invariant
