use Rattle.std.proofs.Common.{Some, None, Err, sym, ◌∙◌, ap, subst}
use Rattle.gtp_machine.specs.Input.{Commanded}
use Rattle.gtp_machine.specs.declared.outcome.Outcome.{Outcome}
use Rattle.gtp_gateway.specs.GatewayState.{GatewayState}
use Rattle.gtp_world.specs.Commands.{command_of}
use Rattle.gtp_world.specs.Record.{GatewayRecord, gateway_record_of}
use Rattle.gtp_world.specs.Inputs.{IsInput}
use Rattle.gtp_world.specs.Stepped.{AsksFor}
use Rattle.gtp_world.specs.declared.simulated_gateway.StepRecord.{StepRecord}
use Rattle.gtp_world.proofs.Telling.{came_of_refused, done, turned_down}
use Rattle.gtp_world.proofs.simulated_gateway.SimulatedGateway.command.Goals as goal

pub returns-in-Ok-clause-done : goal.returns-in-Ok-clause-done
returns-in-Ok-clause-done c =
    let command = command_of c.args.event.now in
    let handed = c.in_ok-handed.handed in
    let came =
    c.begun.ensures
    ∙ ap (λ (o : Outcome). record { outcome = o; second = None; restart = None; out = Some c.in-Ok.begun.out; handed = handed; accepted = None })
    c.outcome_of-outcome.ensures in
    subst (λ (k : StepRecord). IsInput c.args.node (Commanded command) AsksFor (gateway_record_of c.args.self.now) k
    (record (gateway_record_of c.args.self.now) { state = c.run_command.new.gateway })) (sym came)
    (done c.args.node command (gateway_record_of c.args.self.now) c.in-Ok.begun c.run_command.new.gateway handed c.in-Ok.ensures.done c.in-Ok.ensures.timed c.in_ok-handed.ensures)

pub returns-in-Err-Refused-clause-done : goal.returns-in-Err-Refused-clause-done
returns-in-Err-Refused-clause-done c =
    let command = command_of c.args.event.now in
    let old = gateway_record_of c.args.self.now in
    let why = c.in-Err-Refused.why in
    let same = ap (λ (s : GatewayState). record old { state = s }) (sym c.in-Err-Refused.ensures.err) in
    subst (λ (k : StepRecord). IsInput c.args.node (Commanded command) AsksFor old k (record old { state = c.run_command.new.gateway })) (sym c.refused.ensures)
    (subst (λ (h : GatewayRecord). IsInput c.args.node (Commanded command) AsksFor old (came_of_refused why) h) same
    (turned_down c.args.node command old why ((c.run_command.ensures.refused why).0 (c.in-Err-Refused.is ∙ ap Err c.in-Err-Refused.field-0-is))))
