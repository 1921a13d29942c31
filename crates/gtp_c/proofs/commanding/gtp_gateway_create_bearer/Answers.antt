use Rattle.std.proofs.Common.{rules, ◌≤◌, length}
use Rattle.gtp_c.specs.Sessions.{IsGoodQuality}
use Rattle.gtp_machine.specs.Input.{Create_bearer}
use Rattle.gtp_c.proofs.Carried.{always, as_command, behind, carried_out, has_room}
use Rattle.gtp_c.proofs.commanding.gtp_gateway_create_bearer.Goals as goal

pub returns : goal.returns
returns c =
    as_command (search rules) (behind c.get_mut-desk.ensures.value
    (carried_out (Create_bearer c.args.session c.in-Ok.tft c.in-Some.qos) (¬ (IsGoodQuality c.args.quality.now × (length c.args.tft.now ≤ 255)))
    (λ bad. bad (search rules)) c.get_mut-desk.result.now c.room_for-status.new.self c.args.told.now c.room_for-status.ensures.kept
    c.settle.new.self c.settle.new.told c.create_bearer-begun.new.self c.create_bearer-begun.result c.settle.result c.settle.ensures
    (has_room c.room_for-status.result (search rules) c.room_for-status.ensures.full)
    c.create_bearer-begun.ensures.done c.create_bearer-begun.ensures.next (always c.create_bearer-begun.result tt) c.create_bearer-begun.ensures.refused c.create_bearer-begun.ensures.err))
