use Rattle.std.proofs.Common.{◌≡◌, ℕ, List, [], map, Some, None, sym, ◌∙◌, ap, subst, ◌∷◌}
use Rattle.gtp_machine.specs.Answer.{answered}
use Rattle.gtp_machine.specs.Config.{control_end}
use Rattle.gtp_machine.specs.Element.{cause_of}
use Rattle.gtp_machine.specs.Message.{Message, Control, Delete_bearer_response}
use Rattle.gtp_machine.specs.Node.{holding}
use Rattle.gtp_machine.specs.Reading.{control_message}
use Rattle.gtp_machine.specs.Serving.{DeleteBearerJudged, delete_bearer_cause}
use Rattle.gtp_machine.specs.Spelling.{spelled}
use Rattle.gtp_gateway.specs.declared.receive.delete_bearer_request.identities.NamedBearer.{NamedBearer}
use Rattle.gtp_gateway.specs.receive.DeleteBearerRequest.{delete_bearer_by, NamesEach, identity_named, number_in, removed_by, without_each}
use Rattle.gtp_gateway.specs.messages.Sent.{ReadsBack}
use Rattle.gtp_gateway.specs.GatewayState.{GatewayState, state_of}
use Rattle.gtp_gateway.proofs.DeleteBearerRequests.{ends_judged}
use Rattle.gtp_gateway.proofs.QueuesAfter.{readied_goes}
use Rattle.gtp_gateway.proofs.Rows.{answers}
use Rattle.gtp_gateway.proofs.parts.Parts.end_named.Goals as goal

pub returns-clause-taken : goal.returns-clause-taken
returns-clause-taken c =
    let old = state_of c.args.self.now in
    let arrival = c.args.arrival.now in
    let r = c.args.request.now in
    let header = c.args.header in
    let ids = c.args.identities.now in
    let ns : List NamedBearer = c.as_slice-bearers.result.now in
    let value : ns ≡ c.in_ok-named.named.items = c.as_slice-bearers.ensures.value in
    let names : NamesEach old.node r.header [] ns = subst (λ (l : List NamedBearer). NamesEach old.node r.header [] l) (sym value) c.in_ok-named.ensures.names in
    let same : map identity_named ns ≡ map number_in ids = ap (map identity_named) value ∙ c.in_ok-named.ensures.identities in
    let m : Message =
    Delete_bearer_response (record {
      header = header;
      number = r.seq;
      cause = cause_of (delete_bearer_cause (map removed_by ns));
      linked = None;
      contexts = map removed_by ns;
      recovery = Some old.node.counter;
    }) in
    let said : control_message c.in_ok-message.message ≡ m = c.in_ok-message.ensures.says in
    let ready = c.in_ok-ready.ensures in
    let config = ap (λ s. s.config) c.end_each.ensures.only.config ∙ ap (λ (s : GatewayState). s.node.config) c.ready_answer.ensures.same in
    let left = c.end_each.ensures.node ∙ ap (λ (s : GatewayState). without_each ns s.node) c.ready_answer.ensures.same in
    answers (DeleteBearerJudged arrival (delete_bearer_by r (map number_in ids))) arrival old (state_of c.send_answer.new.self) c.sent.result
    c.send_answer.result m c.cause_of_all.result (without_each ns old.node) c.sent.ensures
    (c.send_answer.ensures.sent ∙ (λ i. record { plane = Control; from = control_end (config i).own.control; to = arrival.source; octets = (ready.octets ∙ ap spelled said) i }))
    (subst (λ m. ReadsBack (m ∷ [])) said ready.back)
    (c.send_answer.ensures.node ∙ (λ i. holding arrival ((ready.read ∙ ap (λ m. m ∷ []) said) i) (left i)))
    (c.send_answer.ensures.role ∙ (c.end_each.ensures.only.role ∙ ap (λ (s : GatewayState). s.role) c.ready_answer.ensures.same))
    (subst (λ (cause : ℕ). DeleteBearerJudged arrival (delete_bearer_by r (map number_in ids)) old.node (answered arrival m cause (without_each ns old.node))) (sym c.cause_of_all.ensures)
    (ends_judged arrival r old.node header ids ns c.requires.asked c.requires.short same names))

pub returns-clause-goes : goal.returns-clause-goes
returns-clause-goes c =
    readied_goes c.args.arrival.now (state_of c.args.self.now) _ (state_of c.end_each.new.self) c.send_answer.new.self
    c.in_ok-ready.ready.answer.items c.ready_answer.ensures.same c.end_each.ensures.waits c.send_answer.ensures.queues
