use Rattle.std.proofs.Common.{subst}
use Rattle.gtp_machine.specs.Input.{Create_session}
use Rattle.gtp_gateway.specs.command.Command.{IsRefusedWhere}
use Rattle.gtp_gateway.specs.command.CreateSession.{specification}
use Rattle.gtp_gateway.specs.GatewayState.{GatewayState, state_of}
use Rattle.gtp_gateway.proofs.Commands.{command_sound}
use Rattle.gtp_gateway.proofs.gateway.Gateway.create_session.Goals as goal

pub invariant_of-self : goal.invariant_of-self
invariant_of-self c =
    command_sound (Create_session (specification c.args.spec.now)) c.create_session.result (state_of c.self.inside.parts)
    (state_of c.create_session.new.self) c.create_session.ensures.identity c.create_session.ensures.done c.create_session.ensures.err c.self.invariant

pub returns-clause-refused : goal.returns-clause-refused
returns-clause-refused c = subst (λ (old : GatewayState). IsRefusedWhere (Create_session (specification c.args.spec.now)) old c.create_session.result) c.self.view_is c.create_session.ensures.refused
