use Rattle.std.proofs.Common.{◌≡◌, ◌<◌, List, length, true, inr, sym, ◌∙◌, ap, subst, [], ◌∷◌, arith}
use Rattle.gtp_values.specs.FiniteMap.{Among}
use Rattle.gtp_machine.specs.Config.{own_end}
use Rattle.gtp_machine.specs.Message.{Control, plane_of}
use Rattle.gtp_machine.specs.Node.{Held, Node, holding}
use Rattle.gtp_machine.specs.Reading.{control_message}
use Rattle.gtp_machine.specs.Serving.{BearerJudged, CreateBearerAsked}
use Rattle.gtp_machine.specs.Spelling.{Datagram, spelled, datagram_of}
use Rattle.gtp_gateway.specs.declared.step.ControlStep.{ControlStep}
use Rattle.gtp_gateway.specs.receive.Answer.{answering}
use Rattle.gtp_gateway.proofs.QueuesAfter.{readied_goes}
use Rattle.gtp_gateway.specs.tables.Change.{changed_by}
use Rattle.gtp_gateway.specs.receive.CreateBearerRequest.{bearer_answer, change_for, is_granted}
use Rattle.gtp_gateway.specs.receive.Piggybacked.{node_after_first, state_after_first}
use Rattle.gtp_gateway.specs.Parts.{node_of}
use Rattle.gtp_gateway.specs.messages.Sent.{datagram_by}
use Rattle.gtp_gateway.specs.GatewayState.{GatewayState, state_of}
use Rattle.gtp_gateway.proofs.Answers.{held_few}
use Rattle.gtp_gateway.proofs.BeforeSecond.{settled_config, settled_counter, settled_held}
use Rattle.gtp_gateway.proofs.Rows.{answers_made}
use Rattle.gtp_gateway.proofs.SecondsTaken.{row_is_taken, same_answer, change_config, lowest_second}
use Rattle.gtp_gateway.proofs.parts.Parts.answer_second.Goals.{Joined-message-3}
use Rattle.gtp_gateway.proofs.parts.Parts.answer_second.Goals as goal

-- what is left: the answer is held, and what was granted is made
left : (c : Joined-message-3) → node_of c.send_answer-out.new.self
    ≡ holding c.args.arrival.now (control_message c.in_ok-message.message ∷ []) (changed_by (change_for c.args.request.now c.args.judged.now.answer)
    (node_after_first c.args.heard c.args.verdict c.args.seq (node_of c.args.self.now)))
left c =
    let ready = c.in_ok-ready.ensures in
    c.send_answer-out.ensures.node
    ∙ (λ i. holding c.args.arrival.now (ready.read i) (node_of c.apply_both.new.self))
    ∙ ap (holding c.args.arrival.now (control_message c.in_ok-message.message ∷ [])) (c.in_ok-apply_both.ensures.node ∙ ap (λ (s : GatewayState).
    changed_by (change_for c.args.request.now c.args.judged.now.answer) (node_after_first c.args.heard c.args.verdict c.args.seq s.node))
    c.ready_answer.ensures.same)

pub returns-clause-taken : goal.returns-clause-taken
returns-clause-taken c = λ q says.
    let old = state_of c.args.self.now in
    let heard = c.args.heard in
    let v = c.args.verdict in
    let settled = state_after_first heard v c.args.seq old in
    let node = settled.node in
    let arrival = c.args.arrival.now in
    let r = c.args.request.now in
    let j = c.args.judged.now in
    let m = control_message c.in_ok-message.message in
    let change = change_for r j.answer in
    let said : m ≡ bearer_answer j.answer j.header q node =
    c.in_ok-message.ensures.says q says
    ∙ same_answer j.answer j.header q old.node node (settled_counter heard v c.args.seq old.node) (settled_config heard v c.args.seq old.node) in
    let same : state_of c.ready_answer.new.self ≡ old = c.ready_answer.ensures.same in
    let config : c.apply_both.new.self.config.config ≡ node.config =
    ap (λ (n : Node). n.config) c.in_ok-apply_both.ensures.node
    ∙ ap (λ (s : GatewayState). (changed_by change (node_after_first heard v c.args.seq s.node)).config) same ∙ change_config r j.answer node in
    let plane : Control ≡ plane_of m = sym c.in_ok-message.ensures.own.control in
    let sent : datagram_by c.send_answer-out.result ≡ datagram_of node.config (record { destination = arrival.source; messages = m ∷ [] }) =
    c.send_answer-out.ensures.sent ∙ ◌∙◌ {A = Datagram}
    (λ i. record { plane = Control; from = own_end (config i) Control; to = arrival.source; octets = c.in_ok-ready.ensures.octets i })
    (λ i. record { plane = plane i; from = own_end node.config (plane i); to = arrival.source; octets = spelled m }) in
    let held = settled_held heard v c.args.seq old.node in
    let room : length node.held < 4096 = subst (λ (h : List Held). length h < 4096) (sym held) (held_few c.args.self.now.held.pairs (λ many. let few = c.requires.few in omega (arith, many, few))) in
    let judged = c.requires.judged.judged arrival q says in
    let peer = ap (λ x. x) c.requires.fresh.peer ∙ (λ i. (sym (settled_config heard v c.args.seq old.node) i).peer.control) in
    row_is_taken arrival q settled c.requires.serving peer (λ h among. c.requires.fresh.new h (subst (Among h) held among)) c.answered.result (state_of c.send_answer-out.new.self)
    (answers_made (CreateBearerAsked arrival q) arrival settled (state_of c.send_answer-out.new.self) c.answered.result c.send_answer-out.result
    (m ∷ []) c.cause.result c.is_granted.result (changed_by change node) c.answered.ensures sent c.in_ok-ready.ensures.back (left c)
    (c.send_answer-out.ensures.role ∙ c.apply_both.ensures.only.role ∙ ap (λ (s : GatewayState). s.role) same)
    (inr (
      record { few = room },
      subst (λ e. BearerJudged arrival q node e) (λ i. answering (sym c.is_granted.ensures i) arrival (sym said i ∷ []) (sym c.cause.ensures i) (changed_by change node)) judged,
    )))

pub returns-clause-choices : goal.returns-clause-choices
returns-clause-choices c = λ made.
    let old = node_of c.args.self.now in
    let r = c.args.request.now in
    let j = c.args.judged.now in
    let granted : is_granted j.answer ≡ true = sym c.is_granted.ensures ∙ (sym (ap (λ (s : ControlStep). s.report.made) c.answered.ensures) ∙ made) in
    lowest_second r j.answer _ old (node_after_first c.args.heard c.args.verdict c.args.seq old) (node_of c.send_answer-out.new.self) c.requires.given
    c.requires.judged.chosen (ap (λ (n : Node). n.bearers) (left c)) granted

pub returns-clause-goes : goal.returns-clause-goes
returns-clause-goes c =
    readied_goes c.args.arrival.now (state_of c.args.self.now) _ (state_of c.apply_both.new.self) c.send_answer-out.new.self
    c.in_ok-ready.ready.answer.items c.ready_answer.ensures.same c.apply_both.ensures.waits c.send_answer-out.ensures.queues
