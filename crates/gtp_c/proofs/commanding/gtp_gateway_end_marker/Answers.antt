use Rattle.std.proofs.Common.{rules}
use Rattle.gtp_machine.specs.Input.{Mark_end}
use Rattle.gtp_c.proofs.Carried.{always, behind, carried_out, has_room}
use Rattle.gtp_c.proofs.commanding.gtp_gateway_end_marker.Goals as goal

pub returns : goal.returns
returns c =
    behind c.get_mut-desk.ensures.value
    (carried_out (Mark_end c.args.bearer) ⊥ (λ bad. bad) c.get_mut-desk.result.now c.room_for-status.new.self c.args.told.now c.room_for-status.ensures.kept
    c.settle.new.self c.settle.new.told c.end_marker-begun.new.self c.end_marker-begun.result c.settle.result c.settle.ensures
    (has_room c.room_for-status.result (search rules) c.room_for-status.ensures.full)
    c.end_marker-begun.ensures.done (always c.end_marker-begun.result c.end_marker-begun.ensures.queues) c.end_marker-begun.ensures.untold
    c.end_marker-begun.ensures.refused c.end_marker-begun.ensures.err)
