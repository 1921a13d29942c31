use Rattle.std.proofs.Common.{subst}
use Rattle.gtp_machine.specs.Input.{Delete_session}
use Rattle.gtp_gateway.specs.command.Command.{IsRefusedWhere}
use Rattle.gtp_gateway.specs.GatewayState.{GatewayState, state_of}
use Rattle.gtp_gateway.proofs.Commands.{command_sound}
use Rattle.gtp_gateway.proofs.gateway.Gateway.delete_session.Goals as goal

pub invariant_of-self : goal.invariant_of-self
invariant_of-self c =
    command_sound (Delete_session c.args.session) c.delete_session.result (state_of c.self.inside.parts) (state_of c.delete_session.new.self) tt
    c.delete_session.ensures.done c.delete_session.ensures.err c.self.invariant

pub returns-clause-refused : goal.returns-clause-refused
returns-clause-refused c = subst (λ (old : GatewayState). IsRefusedWhere (Delete_session c.args.session) old c.delete_session.result) c.self.view_is c.delete_session.ensures.refused
