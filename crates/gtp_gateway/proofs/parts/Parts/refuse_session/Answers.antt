use Rattle.gtp_machine.specs.declared.message_type.MessageType.TheVariants as types
use Rattle.std.proofs.Common.{◌≡◌, ◌∙◌, ap, subst, [], ◌∷◌}
use Rattle.gtp_machine.specs.Answer.{refusing}
use Rattle.gtp_machine.specs.Config.{control_end}
use Rattle.gtp_machine.specs.Message.{Message, Control}
use Rattle.gtp_machine.specs.Node.{holding}
use Rattle.gtp_machine.specs.Reading.{control_message}
use Rattle.gtp_machine.specs.Spelling.{spelled}
use Rattle.gtp_gateway.proofs.QueuesAfter.{readied_goes}
use Rattle.gtp_gateway.specs.receive.RestartCounter.{node_heard}
use Rattle.gtp_gateway.specs.messages.Sent.{ReadsBack}
use Rattle.gtp_gateway.specs.Settings.{Settings}
use Rattle.gtp_gateway.specs.GatewayState.{GatewayState, state_of}
use Rattle.gtp_gateway.proofs.parts.Parts.refuse_session.Goals as goal

pub returns-clause-refused : goal.returns-clause-refused
returns-clause-refused c =
    let old = state_of c.args.self.now in
    let ready = c.in_ok-ready.ensures in
    let m : Message = refusing types.CreateSessionRequest c.args.request.now.control.teid c.args.request.now.seq c.args.cause old.node.counter in
    let said : control_message c.in_ok-message.message ≡ m =
    c.in_ok-message.ensures.says
    ∙ (λ i. refusing types.CreateSessionRequest (c.teid-header.ensures i) c.args.request.now.seq c.args.cause (c.counter-counter.ensures i)) in
    let same : state_of c.ready_answer.new.self ≡ old = c.ready_answer.ensures.same in
    let config : c.hear.new.self.config.config ≡ old.node.config = ap (λ (s : Settings). s.config) c.hear.ensures.only.config ∙ ap (λ (s : GatewayState). s.node.config) same in
    record {
      sent = c.send_answer-out.result;
      is = c.answered.ensures;
      goes = c.send_answer-out.ensures.sent ∙ (λ i. record { plane = Control; from = control_end (config i).own.control; to = c.args.arrival.now.source; octets = (ready.octets ∙ ap spelled said) i });
      read = subst (λ m. ReadsBack (m ∷ [])) said ready.back;
      becomes = c.send_answer-out.ensures.node
          ∙ (λ i. holding c.args.arrival.now ((ready.read ∙ ap (λ m. m ∷ []) said) i) ((c.hear.ensures.node ∙ ap (λ (s : GatewayState). node_heard c.args.heard s.node) same) i));
      role = c.send_answer-out.ensures.role ∙ c.hear.ensures.only.role ∙ ap (λ (s : GatewayState). s.role) same;
    }

pub returns-clause-goes : goal.returns-clause-goes
returns-clause-goes c =
    readied_goes c.args.arrival.now (state_of c.args.self.now) _ (state_of c.hear.new.self) c.send_answer-out.new.self
    c.in_ok-ready.ready.answer.items c.ready_answer.ensures.same c.hear.ensures.waits c.send_answer-out.ensures.queues
