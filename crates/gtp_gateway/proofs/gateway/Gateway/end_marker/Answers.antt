use Rattle.std.proofs.Common.{subst}
use Rattle.gtp_machine.specs.Input.{Mark_end}
use Rattle.gtp_gateway.specs.command.Command.{IsRefusedWhere}
use Rattle.gtp_gateway.specs.GatewayState.{GatewayState, state_of}
use Rattle.gtp_gateway.proofs.Commands.{command_sound}
use Rattle.gtp_gateway.proofs.gateway.Gateway.end_marker.Goals as goal

pub invariant_of-self : goal.invariant_of-self
invariant_of-self c =
    command_sound (Mark_end c.args.bearer) c.end_marker.result (state_of c.self.inside.parts) (state_of c.end_marker.new.self) tt
    c.end_marker.ensures.done c.end_marker.ensures.err c.self.invariant

pub returns-clause-refused : goal.returns-clause-refused
returns-clause-refused c = subst (λ (old : GatewayState). IsRefusedWhere (Mark_end c.args.bearer) old c.end_marker.result) c.self.view_is c.end_marker.ensures.refused
