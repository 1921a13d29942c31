use Rattle.std.proofs.Common.{◌≡◌, Some, true, ◌∙◌, ap, subst, [], ◌∷◌}
use Rattle.gtp_gateway.proofs.QueuesAfter.{readied_goes}
use Rattle.gtp_machine.specs.Config.{control_end}
use Rattle.gtp_machine.specs.Message.{Control}
use Rattle.gtp_machine.specs.Node.{holding}
use Rattle.gtp_machine.specs.Reading.{control_message}
use Rattle.gtp_machine.specs.Spelling.{spelled}
use Rattle.gtp_machine.specs.declared.outcome.Outcome.TheVariants.{Answered}
use Rattle.gtp_gateway.specs.tables.Change.{changed_by}
use Rattle.gtp_gateway.specs.receive.CreateSessionRequest.{change_of, grants}
use Rattle.gtp_gateway.specs.receive.RestartCounter.{node_heard}
use Rattle.gtp_gateway.specs.messages.Sent.{ReadsBack}
use Rattle.gtp_gateway.specs.Settings.{Settings}
use Rattle.gtp_gateway.specs.GatewayState.{GatewayState, state_of}
use Rattle.gtp_gateway.specs.receive.Taken.{plain_report}
use Rattle.gtp_gateway.proofs.parts.Parts.grant_session.Goals as goal

pub returns-clause-granted : goal.returns-clause-granted
returns-clause-granted c =
    let old = state_of c.args.self.now in
    let ready = c.in_ok-ready.ensures in
    let change = change_of c.args.request.now c.args.grant.now in
    let said : control_message c.in_ok-message.message ≡ grants c.args.request.now c.args.grant.now old.node = c.in_ok-message.ensures.says in
    let same : state_of c.ready_answer.new.self ≡ old = c.ready_answer.ensures.same in
    let config : c.make_granted.new.self.config.config ≡ old.node.config = ap (λ (s : Settings). s.config) c.make_granted.ensures.only.config ∙ ap (λ (s : GatewayState). s.node.config) same in
    record {
      sent = c.send_answer-out.result;
      is = c.answered.ensures ∙ (λ i. record { out = Some c.send_answer-out.result; report = record (plain_report (Answered (c.session_cause.ensures i))) { made = true } });
      goes = c.send_answer-out.ensures.sent ∙ (λ i. record { plane = Control; from = control_end (config i).own.control; to = c.args.arrival.now.source; octets = (ready.octets ∙ ap spelled said) i });
      read = subst (λ m. ReadsBack (m ∷ [])) said ready.back;
      becomes = c.send_answer-out.ensures.node
          ∙ (λ i. holding c.args.arrival.now ((ready.read ∙ ap (λ m. m ∷ []) said) i)
          ((c.in_ok-make_granted.ensures.node ∙ ap (λ (s : GatewayState). changed_by change (node_heard c.args.heard s.node)) same) i));
      role = c.send_answer-out.ensures.role ∙ c.make_granted.ensures.only.role ∙ ap (λ (s : GatewayState). s.role) same;
    }

pub returns-clause-goes : goal.returns-clause-goes
returns-clause-goes c =
    readied_goes c.args.arrival.now (state_of c.args.self.now) _ (state_of c.make_granted.new.self) c.send_answer-out.new.self
    c.in_ok-ready.ready.answer.items c.ready_answer.ensures.same c.make_granted.ensures.waits c.send_answer-out.ensures.queues
