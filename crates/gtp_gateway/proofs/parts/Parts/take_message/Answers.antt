use Rattle.std.proofs.Common.{◌≡◌, true, sym, ◌∙◌, subst}
use Rattle.gtp_machine.specs.Decoded.{message_of}
use Rattle.gtp_machine.specs.Input.{ControlReading}
use Rattle.gtp_machine.specs.MessageType.{takes_message}
use Rattle.gtp_gateway.specs.declared.step.ControlStep.{ControlStep}
use Rattle.gtp_gateway.specs.receive.RestartCounter.{report_heard}
use Rattle.gtp_gateway.specs.GatewayState.{state_of}
use Rattle.gtp_gateway.specs.receive.Taken.{IsTaken}
use Rattle.gtp_gateway.proofs.ByType.{is_taken}
use Rattle.gtp_gateway.proofs.Columns.{yes, no}
use Rattle.gtp_gateway.proofs.TwoMessages.{reads_message}
use Rattle.gtp_gateway.proofs.Rows.{row_taken, early_taken}
use Rattle.gtp_gateway.proofs.Allocations.{on_err, message_needs}
use Rattle.gtp_gateway.specs.receive.Allocations.{StepSendsOrOpens}
use Rattle.gtp_gateway.proofs.parts.Parts.take_message.Goals.{After-compare_counter-heard}
use Rattle.gtp_gateway.proofs.parts.Parts.take_message.Goals as goal

-- the message is one that the gateway takes
takes : (c : After-compare_counter-heard) → takes_message c.args.self.now.role (message_of c.args.view.now.message) ≡ true
takes c = is_taken c.args.self.now.role c.args.arrival.now.octets c.args.view.now.message c.args.message_type c.requires.spelled c.requires.of c.requires.has

pub returns-then-is_earlier-clause-taken : goal.returns-then-is_earlier-clause-taken
returns-then-is_earlier-clause-taken c =
    let old = state_of c.args.self.now in
    let heard = c.compare_counter-heard in
    subst (λ (s : ControlStep). IsTaken c.args.arrival.now old s old)
    (sym (c.hearing.ensures ∙ (λ i. record { out = (c.dropped.ensures i).out; report = report_heard heard.result (c.dropped.ensures i).report })))
    (early_taken c.args.arrival.now old _ c.counter_in.result c.requires.fresh.peer c.requires.fresh.new
    (reads_message c.args.arrival.now.octets c.args.view.now.message c.requires.spelled)
    (takes (goal.at.returns-then-is_earlier-clause-taken c).After-compare_counter-heard) c.counter_in.ensures heard.result heard.ensures
    (yes c.is_earlier.ensures c.if-is_earlier.true))

pub returns-clause-taken : goal.returns-clause-taken
returns-clause-taken c =
    let old = state_of c.args.self.now in
    let new = state_of c.dispatch.new.self in
    let heard = c.compare_counter-heard in
    subst (λ (s : ControlStep). IsTaken c.args.arrival.now old s new) (sym c.hearing-2.ensures)
    (row_taken c.args.arrival.now old _ c.counter_in.result c.requires.fresh.peer c.requires.fresh.new
    (reads_message c.args.arrival.now.octets c.args.view.now.message c.requires.spelled)
    (takes (goal.at.returns-clause-taken c).After-compare_counter-heard) c.counter_in.ensures heard.result heard.ensures c.in_ok-step.step new
    (no c.is_earlier.ensures c.if-is_earlier.false) c.in_ok-step.ensures.taken)

pub returns-in_err-step-clause-memory : goal.returns-in_err-step-clause-memory
returns-in_err-step-clause-memory c =
    let old = state_of c.args.self.now in
    let arrival = c.args.arrival.now in
    let heard = c.compare_counter-heard in
    on_err c.from_residual.result (subst (λ (r : ControlReading). StepSendsOrOpens arrival r old) (reads_message arrival.octets c.args.view.now.message c.requires.spelled)
    (message_needs arrival old _ c.counter_in.result c.requires.fresh.peer
    (takes (goal.at.returns-in_err-step-clause-memory c).After-compare_counter-heard) c.counter_in.ensures heard.result heard.ensures
    (no c.is_earlier.ensures c.if-is_earlier.false) c.in_err-step.ensures.memory))
