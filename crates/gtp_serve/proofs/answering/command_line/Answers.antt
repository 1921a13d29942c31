use Rattle.std.proofs.Common.{rules, ◌≡◌, codes, None, inl, inr, refl}
use Rattle.std.proofs.lemmas.Result.{IfOk-weaker}
use Rattle.gtp_world.specs.Commands.{command_of}
use Rattle.gtp_serve.specs.Replies.{of_begun, of_refusal, reply_json, word_json}
use Rattle.gtp_serve.proofs.answering.command_line.Goals as goal

pub returns-in-Ok-clause-answered : goal.returns-in-Ok-clause-answered
returns-in-Ok-clause-answered c =
    let command = command_of c.args.event.now in
    IfOk-weaker c.begun_line.result _ _
    (λ text is. (
      reply_json c.args.peer (of_begun command c.in-Ok.begun),
      inl (inl (record { begun = c.in-Ok.begun; done = c.in-Ok.ensures.done; timed = c.in-Ok.ensures.timed; told = refl })),
      is,
    )) c.begun_line.ensures

pub returns-in-Err-Memory-clause-answered : goal.returns-in-Err-Memory-clause-answered
returns-in-Err-Memory-clause-answered c =
    let still : c.run_command.new.gateway ≡ c.args.gateway.now = search rules in
    IfOk-weaker c.word_line.result _ _ (λ text is. (word_json None (codes "no memory"), inr (refl, still), is)) c.word_line.ensures

pub returns-in-Ok-clause-done : goal.returns-in-Ok-clause-done
returns-in-Ok-clause-done c =
    let command = command_of c.args.event.now in
    (reply_json c.args.peer (of_begun command c.in-Ok.begun), inl (inl (record { begun = c.in-Ok.begun; done = c.in-Ok.ensures.done; timed = c.in-Ok.ensures.timed; told = refl })))

pub returns-in-Err-Memory-clause-done : goal.returns-in-Err-Memory-clause-done
returns-in-Err-Memory-clause-done c =
    let still : c.run_command.new.gateway ≡ c.args.gateway.now = search rules in
    (word_json None (codes "no memory"), inr (refl, still))

pub returns-in-Err-Refused-clause-done : goal.returns-in-Err-Refused-clause-done
returns-in-Err-Refused-clause-done c =
    let still : c.run_command.new.gateway ≡ c.args.gateway.now = search rules in (
      reply_json c.args.peer (of_refusal c.in-Err-Refused.why),
      inl (inr (record
          { why = c.in-Err-Refused.why; refuses = (c.in-Err-Refused.ensures.refused c.in-Err-Refused.why).0 (search rules); still = still; told = refl })),
    )
