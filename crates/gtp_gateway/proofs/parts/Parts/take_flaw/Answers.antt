use Rattle.std.proofs.Common.{sym, ◌∙◌, ap, subst}
use Rattle.std.specs.Prelude.{OnErr}
use Rattle.gtp_machine.specs.Answer.{fault_number}
use Rattle.gtp_gateway.specs.declared.receive.invalid_request.Flaw.{Flaw}
use Rattle.gtp_gateway.specs.declared.step.ControlStep.{ControlStep}
use Rattle.gtp_gateway.specs.receive.InvalidRequest.{defect_of, fault_of, reading_of, dropped_for, IsFaultEffect}
use Rattle.gtp_gateway.specs.GatewayState.{state_of}
use Rattle.gtp_gateway.proofs.InvalidRequests.{drops_for, fault_unanswered}
use Rattle.gtp_gateway.proofs.Allocations.{on_err, fault_needs}
use Rattle.gtp_gateway.specs.receive.Allocations.{StepSendsOrOpens, FaultSendsOrOpens}
use Rattle.gtp_gateway.proofs.parts.Parts.take_flaw.Goals as goal

pub returns-else-is_answered_by-clause-taken : goal.returns-else-is_answered_by-clause-taken
returns-else-is_answered_by-clause-taken c = λ peer new.
    let old = state_of c.args.self.now in
    let f = c.in-Faulty.faulty in
    subst (λ (s : ControlStep). IsFaultEffect c.args.arrival.now (reading_of c.args.flaw.now) old s) (sym (c.undecodable.ensures ∙ ap dropped_for c.number.ensures))
    (subst (λ (g : Flaw). IsFaultEffect c.args.arrival.now (reading_of g) old (dropped_for (fault_number (defect_of f.defect)))) (sym c.in-Faulty.is)
    (drops_for c.args.arrival.now _ old (fault_number (defect_of f.defect))
    (fault_unanswered old.node c.args.arrival.now (fault_of f) old.role (sym c.is_answered_by.ensures ∙ c.if-is_answered_by.false) peer new)))

pub returns-then-is_answered_by-clause-memory : goal.returns-then-is_answered_by-clause-memory
returns-then-is_answered_by-clause-memory c = on_err c.answer_fault.result (λ peer.
    let old = state_of c.args.self.now in
    subst (λ (g : Flaw). StepSendsOrOpens c.args.arrival.now (reading_of g) old) (sym c.in-Faulty.is)
    (fault_needs c.args.arrival.now (fault_of c.in-Faulty.faulty) old peer (sym c.is_answered_by.ensures ∙ c.if-is_answered_by.true)))

pub returns-in-Plain-clause-memory : goal.returns-in-Plain-clause-memory
returns-in-Plain-clause-memory c =
    subst (λ (f : Flaw). OnErr c.take_undecodable.result (FaultSendsOrOpens c.args.arrival.now (reading_of f) (state_of c.args.self.now))) (sym c.in-Plain.is)
    c.take_undecodable.ensures.memory
