use Rattle.std.proofs.Common.{ℕ, List, map, length, refl, sym, ◌∙◌, ap, subst, append-nil, arith}
use Rattle.std.specs.Prelude.{All}
use Rattle.gtp_reliable.specs.Due.{message_of}
use Rattle.gtp_reliable.specs.Forgotten.{question_of}
use Rattle.gtp_machine.specs.Spelling.{datagram_of}
use Rattle.gtp_gateway.specs.declared.command.purpose.Purpose.{Purpose}
use Rattle.gtp_gateway.specs.Parts.{node_of, pending_in, held_of}
use Rattle.gtp_gateway.specs.messages.Sent.{datagram_by, SendingReads}
use Rattle.gtp_gateway.specs.messages.Spelled.{AreAsked, AreAnswered}
use Rattle.gtp_gateway.specs.GatewayState.{state_of}
use Rattle.gtp_gateway.specs.Tick.{asked_by, datagram_again, GivesUpEach}
use Rattle.gtp_gateway.proofs.Forgetting.{answered_left}
use Rattle.gtp_gateway.proofs.GivenUp.{asked_on}
use Rattle.gtp_gateway.proofs.Resending.{resent, resent_back}
use Rattle.gtp_gateway.proofs.Ticking.{given_by, ticks, few_by, few_sent, none_resent, none_given_up}
use Rattle.gtp_gateway.proofs.parts.Parts.tick.Goals as goal

pub returns-clause-ticked : goal.returns-clause-ticked
returns-clause-ticked c =
    let old = c.args.self.now in
    let config = old.config.config in
    let mid = c.give_up_each.new.self in
    let told : List ℕ = c.give_up_each.new.gave_up.items in
    let each =
    subst (λ (l : List (ℕ × Purpose)). GivesUpEach (node_of old) (map (λ (g : ℕ × Purpose). g.0) l) told (node_of mid))
    (c.as_slice-give_ups.ensures.value ∙ c.in-Ok.ensures.gave_up) c.give_up_each.ensures.each in
    record {
      out = given_by (state_of old) told;
      ticks = ticks (state_of old) (state_of mid) told refl refl c.in-Ok.ensures.always.distinct c.in-Ok-due.ensures.always.apart c.give_up_each.ensures.waits each _
          (λ i. record (node_of mid) { pending = pending_in (c.tick.ensures.waiting i); held = map held_of (c.tick-2.ensures.pairs i) });
      tells = record {
        sent = record {
          octets =
              c.in_ok-resent.ensures.sent ∙ (ap (map (datagram_again config)) c.in-Ok.ensures.resend
              ∙ (resent config old.pending.t3 old.pending.n3 old.pending.waiting old.asked ∙ ap (map (datagram_of config)) (sym (append-nil _))));
          read = subst (All SendingReads) (sym (append-nil _)) (resent_back config old.pending.t3 old.pending.n3 old.pending.waiting old.asked);
        };
        gave_up = sym (append-nil told);
        forgot = ap (map asked_by) c.in-Ok-due.ensures.list;
        all = refl;
      };
      role = c.give_up_each.ensures.only.role;
    }

pub returns-clause-few : goal.returns-clause-few
returns-clause-few c =
    let again = datagram_again c.args.self.now.config.config in
    few_sent datagram_by again c.in_ok-resent.resent.items _ _ 256 (c.in_ok-resent.ensures.sent ∙ ap (map again) c.in-Ok.ensures.resend) c.in-Ok.ensures.always.count

pub returns-clause-few_forgotten : goal.returns-clause-few_forgotten
returns-clause-few_forgotten c = few_by question_of c.in-Ok-due.forgotten.items _ _ 4096 c.in-Ok-due.ensures.list c.in-Ok-due.ensures.always.count

pub invariant_of-self-clause-asked : goal.invariant_of-self-clause-asked
invariant_of-self-clause-asked c =
    let mid = c.give_up_each.new.self in
    let peer = mid.config.config.peer.control in
    subst (AreAsked peer) (sym c.tick.ensures.waiting) (asked_on peer mid.pending.t3 mid.pending.n3 mid.pending.waiting mid.asked)

pub invariant_of-self-clause-answered : goal.invariant_of-self-clause-answered
invariant_of-self-clause-answered c =
    let mid = c.give_up_each.new.self in
    subst AreAnswered (sym c.tick-2.ensures.pairs) (answered_left mid.held.hold mid.held.pairs mid.answered)

pub returns-in_err-resent-clause-quiet : goal.returns-in_err-resent-clause-quiet
returns-in_err-resent-clause-quiet c = λ idle.
    let old = c.args.self.now in
    absurd (cc (c.in_err-resent.ensures.quiet (none_resent message_of c.in-Ok.due.resend.items old.pending.t3 old.pending.n3 old.pending.waiting idle.requests c.in-Ok.ensures.resend)))

pub returns-in_err-try_reserve-clause-quiet : goal.returns-in_err-try_reserve-clause-quiet
returns-in_err-try_reserve-clause-quiet c = λ idle.
    let old = c.args.self.now in
    let none = ap length (c.as_slice-give_ups.ensures.value ∙ (c.in-Ok.ensures.gave_up ∙ none_given_up old.pending.t3 old.pending.n3 old.pending.waiting idle.requests)) in
    absurd (cc (c.in_err-try_reserve.ensures.succeeds (omega (arith, none, c.new-gave_up.ensures.len))))
