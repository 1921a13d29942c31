use Rattle.std.proofs.Common.{subst}
use Rattle.gtp_machine.specs.Input.{Delete_bearer}
use Rattle.gtp_gateway.specs.command.Command.{IsRefusedWhere}
use Rattle.gtp_gateway.specs.GatewayState.{GatewayState, state_of}
use Rattle.gtp_gateway.proofs.Commands.{command_sound}
use Rattle.gtp_gateway.proofs.gateway.Gateway.delete_bearer.Goals as goal

pub invariant_of-self : goal.invariant_of-self
invariant_of-self c =
    command_sound (Delete_bearer c.args.session c.args.identity) c.delete_bearer.result (state_of c.self.inside.parts)
    (state_of c.delete_bearer.new.self) tt c.delete_bearer.ensures.done c.delete_bearer.ensures.err c.self.invariant

pub returns-clause-refused : goal.returns-clause-refused
returns-clause-refused c = subst (λ (old : GatewayState). IsRefusedWhere (Delete_bearer c.args.session c.args.identity) old c.delete_bearer.result) c.self.view_is c.delete_bearer.ensures.refused
