use Rattle.std.proofs.Common.{subst}
use Rattle.gtp_machine.specs.Input.{Release_session}
use Rattle.gtp_gateway.specs.command.Command.{IsRefusedWhere}
use Rattle.gtp_gateway.specs.GatewayState.{GatewayState, state_of}
use Rattle.gtp_gateway.proofs.Commands.{command_sound}
use Rattle.gtp_gateway.proofs.gateway.Gateway.release_session.Goals as goal

pub invariant_of-self : goal.invariant_of-self
invariant_of-self c =
    command_sound (Release_session c.args.session) c.release_session.result (state_of c.self.inside.parts) (state_of c.release_session.new.self) tt
    c.release_session.ensures.done c.release_session.ensures.err c.self.invariant

pub returns-clause-refused : goal.returns-clause-refused
returns-clause-refused c = subst (λ (old : GatewayState). IsRefusedWhere (Release_session c.args.session) old c.release_session.result) c.self.view_is c.release_session.ensures.refused
