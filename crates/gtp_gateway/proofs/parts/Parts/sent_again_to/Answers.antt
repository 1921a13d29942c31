use Rattle.std.proofs.Common.{◌≡◌, sym, ◌∙◌, ap, subst}
use Rattle.gtp_reliable.specs.Held.{HasAnswer, IsHeld}
use Rattle.gtp_machine.specs.Node.{Arrival}
use Rattle.gtp_machine.specs.Config.{control_end, own_end}
use Rattle.gtp_machine.specs.Message.{Control}
use Rattle.gtp_machine.specs.Spelling.{Datagram, datagram_plane, spelled_all, datagram_of}
use Rattle.gtp_gateway.specs.declared.sent.Sent.{Sent}
use Rattle.gtp_gateway.specs.messages.Sent.{datagram_by, ReadsBack}
use Rattle.gtp_gateway.specs.messages.Spelled.{AreSpelledAll}
use Rattle.gtp_gateway.specs.GatewayState.{state_of}
use Rattle.gtp_gateway.specs.Parts.{arrival_of}
use Rattle.gtp_gateway.specs.receive.Taken.{IsSentAgain}
use Rattle.gtp_gateway.proofs.Answers.{repeats, is_held}
use Rattle.gtp_gateway.proofs.Allocations.{on_err}
use Rattle.gtp_gateway.proofs.Readings.{control_kept}
use Rattle.gtp_gateway.proofs.SentBack.{one_sent}
use Rattle.gtp_gateway.proofs.Taking.{all_back, spelled_answer}
use Rattle.gtp_gateway.proofs.parts.Parts.sent_again_to.Goals as goal

pub returns-in_err-from_slice-clause-memory : goal.returns-in_err-from_slice-clause-memory
returns-in_err-from_slice-clause-memory c =
    on_err c.from_residual.result (subst (λ (a : Arrival). IsHeld a.source a.octets c.args.self.now.held.pairs) c.arrival.view_is
    (is_held c.args.self.now.held.pairs c.arrival.inside.source c.arrival.inside.octets.now c.in-Some.answer.now c.in-Some.ensures.found))

pub returns-clause-some : goal.returns-clause-some
returns-clause-some c =
    let config = (state_of c.args.self.now).node.config in
    let arrival = arrival_of c.arrival.inside.source c.arrival.inside.octets.now in
    let pairs = c.args.self.now.held.pairs in
    let answer = c.in-Some.answer.now in
    let has : HasAnswer arrival.source arrival.octets answer pairs = c.in-Some.ensures.found in
    let pair = repeats pairs arrival.source arrival.octets answer has in
    let messages = pair.pair.answer in
    let plane : Control ≡ datagram_plane messages = sym (ap datagram_plane pair.answer ∙ control_kept answer) in
    let from : c.control_end_of.result ≡ own_end config Control = c.control_end_of.ensures ∙ ap control_end c.own.ensures.control in
    let kept : AreSpelledAll answer = spelled_answer pairs arrival.source arrival.octets answer c.args.self.now.answered has in
    let sends : c.in_ok-from_slice.field-0.items ≡ spelled_all messages = c.in_ok-from_slice.ensures.items ∙ (kept.is ∙ ap spelled_all (sym pair.answer)) in
    let out : Sent = record { plane = Control; from = c.control_end_of.result; to = arrival.source; octets = c.in_ok-from_slice.field-0 } in
    let sent : datagram_by out ≡ datagram_of config (record { destination = arrival.source; messages = messages }) =
    ◌∙◌ {A = Datagram} (λ i. record { plane = Control; from = from i; to = arrival.source; octets = sends i })
    (λ i. record { plane = plane i; from = own_end config (plane i); to = arrival.source; octets = spelled_all messages }) in
    subst (λ (a : Arrival). IsSentAgain a (state_of c.args.self.now).node out) c.arrival.view_is
    (record {
      held = pair.pair;
      stands = pair.stands;
      same = pair.same;
      again = one_sent config _ _ sent (subst ReadsBack (sym pair.answer) (all_back answer (control_kept answer) kept));
    })
