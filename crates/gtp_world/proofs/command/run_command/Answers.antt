use Rattle.std.proofs.Common.{sym, subst}
use Rattle.gtp_machine.specs.Input.{Send_user}
use Rattle.gtp_gateway.specs.command.Command.{IsRefusedWhere}
use Rattle.gtp_world.specs.Commands.{command_of}
use Rattle.gtp_world.specs.declared.event.Event.{Event}
use Rattle.gtp_world.proofs.command.run_command.Goals as goal

pub returns-in-Echo-clause-refused : goal.returns-in-Echo-clause-refused
returns-in-Echo-clause-refused c = subst (λ (e : Event). IsRefusedWhere (command_of e) c.args.gateway.now c.echo.result) (sym c.in-Echo.is) c.echo.ensures.refused

pub returns-in-SendUser-clause-refused : goal.returns-in-SendUser-clause-refused
returns-in-SendUser-clause-refused c =
    subst (λ (e : Event). IsRefusedWhere (command_of e) c.args.gateway.now c.send_user.result) (sym c.in-SendUser.is)
    (subst (λ k. IsRefusedWhere (Send_user c.in-SendUser.bearer k) c.args.gateway.now c.send_user.result) c.as_slice.ensures.value c.send_user.ensures.refused)
