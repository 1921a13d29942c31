use Rattle.std.proofs.Common.{rules, ◌≡◌, codes, None, inl, inr, refl}
use Rattle.std.proofs.lemmas.Result.{IfOk-weaker}
use Rattle.gtp_serve.specs.Replies.{of_step, reply_json, word_json}
use Rattle.gtp_serve.proofs.answering.receive_line.Goals as goal

pub returns-in-Err-clause-answered : goal.returns-in-Err-clause-answered
returns-in-Err-clause-answered c =
    let still : c.receive.new.self ≡ c.args.gateway.now = search rules in
    IfOk-weaker c.word_line.result _ _ (λ text is. (word_json None (codes "no memory"), inr (refl, still), is)) c.word_line.ensures

pub returns-in-Err-clause-done : goal.returns-in-Err-clause-done
returns-in-Err-clause-done c =
    let still : c.receive.new.self ≡ c.args.gateway.now = search rules in
    (word_json None (codes "no memory"), inr (refl, still))

pub returns-in-Ok-clause-done : goal.returns-in-Ok-clause-done
returns-in-Ok-clause-done c =
    (reply_json c.args.peer (of_step c.in-Ok.step), inl (record { step = c.in-Ok.step; received = c.in-Ok.ensures.received; queues = c.in-Ok.ensures.queues; choices = c.in-Ok.ensures.choices; told = refl }))
