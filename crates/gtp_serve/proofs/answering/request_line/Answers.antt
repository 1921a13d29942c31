use Rattle.std.proofs.Common.{IfOk, inl, refl, sym, subst}
use Rattle.gtp_serve.specs.Answers.{Does}
use Rattle.gtp_serve.specs.Served.{OrStays, IsLineOf}
use Rattle.gtp_serve.specs.Replies.{contexts_json}
use Rattle.gtp_serve.specs.Views.{request_by}
use Rattle.gtp_serve.specs.declared.request.Request.{Request}
use Rattle.gtp_serve.proofs.answering.request_line.Goals as goal

pub returns-in-Command-clause-answered : goal.returns-in-Command-clause-answered
returns-in-Command-clause-answered c =
    subst (λ (r : Request). IfOk c.command_line.result (λ text. IsLineOf (OrStays (Does c.args.peer (request_by r))) c.args.gateway.now c.command_line.new.gateway text.items))
    (sym c.in-Command.is) c.command_line.ensures.answered

pub returns-in-Tick-clause-answered : goal.returns-in-Tick-clause-answered
returns-in-Tick-clause-answered c =
    subst (λ (r : Request). IfOk c.tick_line.result (λ text. IsLineOf (OrStays (Does c.args.peer (request_by r))) c.args.gateway.now c.tick_line.new.gateway text.items))
    (sym c.in-Tick.is) c.tick_line.ensures.answered

pub returns-in-Contexts-clause-done : goal.returns-in-Contexts-clause-done
returns-in-Contexts-clause-done c = (
  contexts_json c.args.peer c.args.gateway.now.role c.args.gateway.now.node,
  inl (subst (λ (r : Request). Does c.args.peer (request_by r) c.args.gateway.now (contexts_json c.args.peer c.args.gateway.now.role c.args.gateway.now.node) c.args.gateway.now) (sym c.in-Contexts.is) (refl, refl)),
)
