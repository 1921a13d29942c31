use Rattle.std.proofs.Common.{rules, refl}
use Rattle.gtp_gateway.specs.command.CreateSession.{specification}
use Rattle.gtp_c.specs.Sessions.{IsGoodSession}
use Rattle.gtp_machine.specs.Input.{Create_session}
use Rattle.gtp_c.proofs.Carried.{asked, always, carried_out, has_room}
use Rattle.gtp_c.proofs.commanding.gtp_gateway_create_session.Goals as goal

pub returns : goal.returns
returns c =
    asked c.in-Some.spec c.in-Some.ensures.value c.get_mut-desk.ensures.value
    (carried_out (Create_session (specification c.in-Some.spec)) (¬ IsGoodSession c.args.session.now c.args.imsi.now c.args.access_point.now)
    (λ bad. bad (c.in-Some.ensures.some.0 refl)) c.get_mut-desk.result.now c.room_for-status.new.self c.args.told.now c.room_for-status.ensures.kept
    c.settle.new.self c.settle.new.told c.create_session-begun.new.self c.create_session-begun.result c.settle.result c.settle.ensures
    (has_room c.room_for-status.result (search rules) c.room_for-status.ensures.full)
    c.create_session-begun.ensures.done c.create_session-begun.ensures.next (always c.create_session-begun.result tt) c.create_session-begun.ensures.refused c.create_session-begun.ensures.err)
