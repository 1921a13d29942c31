use Rattle.std.proofs.Common.{◌≡◌, refl, sym, ◌∙◌, subst, [], ◌∷◌}
use Rattle.gtp_machine.specs.Message.{Echo_response}
use Rattle.gtp_machine.specs.Answer.{echoed}
use Rattle.gtp_machine.specs.Reading.{control_message}
use Rattle.gtp_machine.specs.Spelling.{datagram_of}
use Rattle.gtp_gateway.specs.declared.step.ControlStep.{ControlStep}
use Rattle.gtp_gateway.specs.receive.RestartCounter.{node_heard}
use Rattle.gtp_gateway.specs.receive.Row.{IsRow}
use Rattle.gtp_gateway.specs.messages.Sent.{ReadsBack}
use Rattle.gtp_gateway.specs.GatewayState.{state_of}
use Rattle.gtp_gateway.proofs.SentBack.{one_sent}
use Rattle.gtp_gateway.proofs.RestartCounters.{counter_stays, config_stays}
use Rattle.gtp_gateway.proofs.parts.Parts.take_echo_request.Goals as goal

pub returns-clause-taken : goal.returns-clause-taken
returns-clause-taken c = λ q number.
    let old = state_of c.args.self.now in
    let heard = c.args.heard in
    let node = node_heard heard old.node in
    let says : control_message c.echo_response-message.result ≡ Echo_response (record { number = q.number; recovery = node.counter }) =
    c.echo_response-message.ensures.says ∙ (λ i. Echo_response (record { number = sym number i; recovery = (c.counter.ensures ∙ sym (counter_stays heard old.node)) i })) in
    let sent = c.in_ok-out.ensures.sent ∙ (λ i. datagram_of (sym (config_stays heard old.node) i) (record { destination = c.args.arrival.now.source; messages = says i ∷ [] })) in
    subst (λ (s : ControlStep). IsRow (λ n e. e ≡ echoed c.args.arrival.now q n) c.args.arrival.now old.role node s (state_of c.hear.new.self)) (sym c.sent.ensures)
    (record {
      effect = echoed c.args.arrival.now q node;
      takes = refl;
      tells =
          record {
            sent = one_sent node.config _ _ sent (subst (λ m. ReadsBack (m ∷ [])) says c.in_ok-out.ensures.back);
            outcome = refl;
            alone = refl;
            made = refl;
            heard = refl;
            learned = refl;
            untold = refl;
            unlearned = refl;
            all = refl;
          };
      becomes = c.hear.ensures.node;
      role_stays = c.hear.ensures.only.role;
    })
