use Rattle.std.proofs.Common.{refl, ◌∙◌, ap}
use Rattle.std.proofs.lemmas.List.Elements.{All-same, All-push}
use Rattle.gtp_reliable.specs.Held.{just_kept}
use Rattle.gtp_machine.specs.Reading.{announces}
use Rattle.gtp_gateway.specs.receive.Answer.{after_held}
use Rattle.gtp_gateway.specs.messages.Spelled.{IsKept}
use Rattle.gtp_gateway.specs.GatewayState.{state_of, queues_of}
use Rattle.gtp_gateway.proofs.QueuesAfter.{tied_of, given_goes}
use Rattle.gtp_gateway.proofs.parts.Parts.send_answer.Goals as goal

pub returns-clause-goes : goal.returns-clause-goes
returns-clause-goes c =
    let old = c.args.self.now in
    let ready = c.args.ready in
    given_goes c.args.arrival.now (state_of old) _ ready.answer.items
    (λ i. record (queues_of old) {
      timers = record (queues_of old).timers { hold = c.keep.ensures.hold i };
      held = (c.keep.ensures.pairs ∙ (λ j. after_held (c.arrival.view_is j).source (c.requires.request j) ready.answer.items old.held.pairs)) i;
    })
    (record { pending = refl; held = refl; drawn = (tied_of old).drawn })

pub invariant_of-self-clause-answered : goal.invariant_of-self-clause-answered
invariant_of-self-clause-answered c =
    let old = c.args.self.now in
    let ready = c.args.ready in
    All-same IsKept _ _ c.keep.ensures.pairs
    (All-push IsKept old.held.pairs (just_kept c.arrival.inside.source ready.request.items ready.answer.items) old.answered
    (record { answer = c.requires.spelled; alone = ap announces c.requires.request ∙ c.requires.alone }))
