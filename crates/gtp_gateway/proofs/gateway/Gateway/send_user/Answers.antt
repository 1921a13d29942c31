use Rattle.std.proofs.Common.{subst}
use Rattle.gtp_machine.specs.Input.{Send_user}
use Rattle.gtp_gateway.specs.command.Command.{IsRefusedWhere}
use Rattle.gtp_gateway.specs.GatewayState.{GatewayState}
use Rattle.gtp_gateway.proofs.gateway.Gateway.send_user.Goals as goal

pub returns-clause-refused : goal.returns-clause-refused
returns-clause-refused c = subst (λ (old : GatewayState). IsRefusedWhere (Send_user c.args.bearer c.args.payload.now) old c.send_user.result) c.self.view_is c.send_user.ensures.refused
