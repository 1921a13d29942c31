use Rattle.std.proofs.Common.{◌≡◌, Some, refl, sym, ◌∙◌, ap, subst, [], ◌∷◌}
use Rattle.gtp_machine.specs.Answer.{faulted, refusing, faulty_header, defect_cause}
use Rattle.gtp_machine.specs.Element.{cause_at}
use Rattle.gtp_machine.specs.Input.{Faulty}
use Rattle.gtp_machine.specs.Message.{Message}
use Rattle.gtp_machine.specs.Reading.{control_message}
use Rattle.gtp_machine.specs.Spelling.{datagram_of}
use Rattle.gtp_machine.specs.declared.outcome.Outcome.TheVariants.{Answered}
use Rattle.gtp_gateway.specs.declared.step.ControlStep.{ControlStep}
use Rattle.gtp_gateway.specs.receive.InvalidRequest.{defect_of, fault_of, IsFaultEffect}
use Rattle.gtp_gateway.specs.Parts.{node_of}
use Rattle.gtp_gateway.specs.messages.Sent.{ReadsBack}
use Rattle.gtp_gateway.specs.GatewayState.{state_of}
use Rattle.gtp_gateway.specs.receive.Taken.{plain_report}
use Rattle.gtp_gateway.proofs.InvalidRequests.{fault_answered}
use Rattle.gtp_gateway.proofs.SentBack.{one_sent}
use Rattle.gtp_gateway.proofs.parts.Parts.answer_fault.Goals as goal

pub returns-clause-taken : goal.returns-clause-taken
returns-clause-taken c = λ peer new.
    let old = state_of c.args.self.now in
    let node = node_of c.args.self.now in
    let f = c.args.faulty.now in
    let fault = fault_of f in
    let cause = defect_cause (defect_of f.defect) in
    let m : Message = refusing f.kind (faulty_header node f.kind fault) f.seq (cause_at cause f.element f.instance) node.counter in
    let said : control_message c.in_ok-message.message ≡ m =
    c.in_ok-message.ensures.says ∙ (λ i. refusing f.kind (c.faulty_header-header.ensures i) f.seq
    ((c.fault_cause-cause.ensures ∙ ap (λ n. cause_at n f.element f.instance) c.cause.ensures) i) (c.counter-counter.ensures i)) in
    let sent = c.in_ok-out.ensures.sent ∙ (λ i. datagram_of node.config (record { destination = c.args.arrival.now.source; messages = said i ∷ [] })) in
    let shown : c.sent.result ≡ record { out = Some c.in_ok-out.out; report = plain_report (Answered cause) } =
    c.sent.ensures ∙ ap (λ n. record { out = Some c.in_ok-out.out; report = plain_report (Answered n) }) c.cause-2.ensures in
    subst (λ (s : ControlStep). IsFaultEffect c.args.arrival.now (Faulty fault) old s) (sym shown)
    (record {
      effect = faulted c.args.arrival.now fault node;
      takes = fault_answered node c.args.arrival.now fault old.role c.requires peer new;
      tells =
          record {
            sent = one_sent node.config _ _ sent (subst (λ m. ReadsBack (m ∷ [])) said c.in_ok-out.ensures.back);
            outcome = refl;
            alone = refl;
            heard = refl;
            restart = refl;
            made = refl;
            all = refl;
          };
      stays = refl;
    })
