use Rattle.std.proofs.Common.{rules}
use Rattle.gtp_machine.specs.Input.{Delete_session}
use Rattle.gtp_c.proofs.Carried.{always, behind, carried_out, has_room}
use Rattle.gtp_c.proofs.commanding.gtp_gateway_delete_session.Goals as goal

pub returns : goal.returns
returns c =
    behind c.get_mut-desk.ensures.value
    (carried_out (Delete_session c.args.session) ⊥ (λ bad. bad) c.get_mut-desk.result.now c.room_for-status.new.self c.args.told.now c.room_for-status.ensures.kept
    c.settle.new.self c.settle.new.told c.delete_session-begun.new.self c.delete_session-begun.result c.settle.result c.settle.ensures
    (has_room c.room_for-status.result (search rules) c.room_for-status.ensures.full)
    c.delete_session-begun.ensures.done c.delete_session-begun.ensures.next (always c.delete_session-begun.result tt) c.delete_session-begun.ensures.refused c.delete_session-begun.ensures.err)
