use Rattle.std.proofs.Common.{subst}
use Rattle.gtp_machine.specs.Input.{Send_echo}
use Rattle.gtp_gateway.specs.command.Command.{IsRefusedWhere}
use Rattle.gtp_gateway.specs.GatewayState.{GatewayState, state_of}
use Rattle.gtp_gateway.proofs.Commands.{command_sound}
use Rattle.gtp_gateway.proofs.gateway.Gateway.echo.Goals as goal

pub invariant_of-self : goal.invariant_of-self
invariant_of-self c = command_sound Send_echo c.echo.result (state_of c.self.inside.parts) (state_of c.echo.new.self) tt c.echo.ensures.done c.echo.ensures.err c.self.invariant

pub returns-clause-refused : goal.returns-clause-refused
returns-clause-refused c = subst (λ (old : GatewayState). IsRefusedWhere Send_echo old c.echo.result) c.self.view_is c.echo.ensures.refused
