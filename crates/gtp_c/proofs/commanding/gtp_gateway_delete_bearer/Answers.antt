use Rattle.std.proofs.Common.{rules}
use Rattle.gtp_values.specs.Ebi.{IsEbi}
use Rattle.gtp_machine.specs.Input.{Delete_bearer}
use Rattle.gtp_c.proofs.Carried.{always, as_command, behind, carried_out, has_room}
use Rattle.gtp_c.proofs.commanding.gtp_gateway_delete_bearer.Goals as goal

pub returns : goal.returns
returns c =
    as_command (search rules) (behind c.get_mut-desk.ensures.value
    (carried_out (Delete_bearer c.args.session c.in-Ok.identity) (¬ IsEbi c.args.identity) (λ bad. bad (search rules)) c.get_mut-desk.result.now
    c.room_for-status.new.self c.args.told.now c.room_for-status.ensures.kept
    c.settle.new.self c.settle.new.told c.delete_bearer-begun.new.self c.delete_bearer-begun.result c.settle.result c.settle.ensures
    (has_room c.room_for-status.result (search rules) c.room_for-status.ensures.full)
    c.delete_bearer-begun.ensures.done c.delete_bearer-begun.ensures.next (always c.delete_bearer-begun.result tt) c.delete_bearer-begun.ensures.refused c.delete_bearer-begun.ensures.err))
