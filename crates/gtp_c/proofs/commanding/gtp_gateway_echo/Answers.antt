use Rattle.std.proofs.Common.{rules}
use Rattle.gtp_machine.specs.Input.{Send_echo}
use Rattle.gtp_c.proofs.Carried.{always, behind, carried_out, has_room}
use Rattle.gtp_c.proofs.commanding.gtp_gateway_echo.Goals as goal

pub returns : goal.returns
returns c =
    behind c.get_mut-desk.ensures.value
    (carried_out Send_echo ⊥ (λ bad. bad) c.get_mut-desk.result.now c.room_for-status.new.self c.args.told.now c.room_for-status.ensures.kept
    c.settle.new.self c.settle.new.told c.echo-begun.new.self c.echo-begun.result c.settle.result c.settle.ensures (has_room c.room_for-status.result (search rules) c.room_for-status.ensures.full)
    c.echo-begun.ensures.done c.echo-begun.ensures.next (always c.echo-begun.result tt) c.echo-begun.ensures.refused c.echo-begun.ensures.err)
