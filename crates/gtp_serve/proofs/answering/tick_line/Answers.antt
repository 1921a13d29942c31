use Rattle.std.proofs.Common.{rules, ◌≡◌, codes, None, inl, inr, refl}
use Rattle.std.proofs.lemmas.Result.{IfOk-weaker}
use Rattle.gtp_serve.specs.Replies.{of_tick, reply_json, word_json}
use Rattle.gtp_serve.proofs.answering.tick_line.Goals as goal

pub returns-in-Ok-clause-answered : goal.returns-in-Ok-clause-answered
returns-in-Ok-clause-answered c =
    IfOk-weaker c.ticked_line.result _ _
    (λ text is. (
      reply_json c.args.peer (of_tick c.in-Ok.ticked),
      inl (record { ticked = c.in-Ok.ticked; passed = c.in-Ok.ensures.ticked; counts = c.in-Ok.ensures.counts; told = refl }),
      is,
    ))
    c.ticked_line.ensures

pub returns-in-Err-clause-answered : goal.returns-in-Err-clause-answered
returns-in-Err-clause-answered c =
    let still : c.tick.new.self ≡ c.args.gateway.now = search rules in
    IfOk-weaker c.word_line.result _ _ (λ text is. (word_json None (codes "no memory"), inr (refl, still), is)) c.word_line.ensures

pub returns-in-Ok-clause-done : goal.returns-in-Ok-clause-done
returns-in-Ok-clause-done c =
    (reply_json c.args.peer (of_tick c.in-Ok.ticked), inl (record { ticked = c.in-Ok.ticked; passed = c.in-Ok.ensures.ticked; counts = c.in-Ok.ensures.counts; told = refl }))

pub returns-in-Err-clause-done : goal.returns-in-Err-clause-done
returns-in-Err-clause-done c =
    let still : c.tick.new.self ≡ c.args.gateway.now = search rules in
    (word_json None (codes "no memory"), inr (refl, still))
