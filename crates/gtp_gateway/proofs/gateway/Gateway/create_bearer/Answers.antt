use Rattle.std.proofs.Common.{subst}
use Rattle.gtp_machine.specs.Input.{Create_bearer}
use Rattle.gtp_gateway.specs.command.Command.{IsRefusedWhere}
use Rattle.gtp_gateway.specs.GatewayState.{GatewayState, state_of}
use Rattle.gtp_gateway.proofs.Commands.{command_sound}
use Rattle.gtp_gateway.proofs.gateway.Gateway.create_bearer.Goals as goal

pub invariant_of-self : goal.invariant_of-self
invariant_of-self c =
    command_sound (Create_bearer c.args.session c.args.tft.now c.args.qos.now) c.create_bearer.result (state_of c.self.inside.parts)
    (state_of c.create_bearer.new.self) tt c.create_bearer.ensures.done c.create_bearer.ensures.err c.self.invariant

pub returns-clause-refused : goal.returns-clause-refused
returns-clause-refused c =
    subst (λ (old : GatewayState). IsRefusedWhere (Create_bearer c.args.session c.args.tft.now c.args.qos.now) old c.create_bearer.result)
    c.self.view_is c.create_bearer.ensures.refused
