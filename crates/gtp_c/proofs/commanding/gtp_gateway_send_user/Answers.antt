use Rattle.std.proofs.Common.{rules, refl}
use Rattle.gtp_machine.specs.Input.{Send_user}
use Rattle.gtp_c.proofs.Carried.{always, always_err, behind, carried_out, has_room}
use Rattle.gtp_c.proofs.commanding.gtp_gateway_send_user.Goals as goal

pub returns : goal.returns
returns c =
    behind c.get_mut-desk.ensures.value
    (carried_out (Send_user c.args.bearer c.args.payload.now) ⊥ (λ bad. bad) c.get_mut-desk.result.now c.room_for-status.new.self c.args.told.now c.room_for-status.ensures.kept
    c.settle.new.self c.settle.new.told c.room_for-status.new.self.gateway c.send_user-begun.result c.settle.result c.settle.ensures
    (has_room c.room_for-status.result (search rules) c.room_for-status.ensures.full)
    c.send_user-begun.ensures.done (always c.send_user-begun.result refl) c.send_user-begun.ensures.untold c.send_user-begun.ensures.refused (always_err c.send_user-begun.result refl))
