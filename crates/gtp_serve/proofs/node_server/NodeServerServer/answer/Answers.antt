use Rattle.std.proofs.Common.{rules, ◌≡◌, codes, Option, Some, None, inl, inr, refl, sym, subst}
use Rattle.std.proofs.lemmas.Result.{IfOk-weaker}
use Rattle.gtp_serve.specs.NodeAnswers.{FollowsNode, NodeRequest, node_request_in}
use Rattle.gtp_serve.specs.Served.{OrStays}
use Rattle.gtp_serve.specs.Replies.{word_json}
use Rattle.gtp_serve.specs.Views.{node_request_by}
use Rattle.gtp_serve.proofs.node_server.NodeServerServer.answer.Goals as goal

pub returns-in-Ok-clause-answered : goal.returns-in-Ok-clause-answered
returns-in-Ok-clause-answered c =
    let asks : node_request_in c.args.line.now ≡ Some (node_request_by c.in-Ok.request) = search rules in
    IfOk-weaker c.obey.result _ _
    (λ text is. (is.0, subst (λ (o : Option NodeRequest). OrStays (FollowsNode o) c.args.self.now is.0 c.obey.new.self) (sym asks) is.1, is.2)) c.obey.ensures.answered

pub returns-in-Ok-clause-done : goal.returns-in-Ok-clause-done
returns-in-Ok-clause-done c =
    let asks : node_request_in c.args.line.now ≡ Some (node_request_by c.in-Ok.request) = search rules in
    let is = c.obey.ensures.done in
    (is.0, subst (λ (o : Option NodeRequest). OrStays (FollowsNode o) c.args.self.now is.0 c.obey.new.self) (sym asks) is.1)

pub returns-in-Err-Wrong-clause-answered : goal.returns-in-Err-Wrong-clause-answered
returns-in-Err-Wrong-clause-answered c =
    let none : node_request_in c.args.line.now ≡ None = search rules in
    IfOk-weaker c.word_line.result _ _
    (λ text is. (
      word_json None (codes "bad line"),
      inl (subst (λ (o : Option NodeRequest). FollowsNode o c.args.self.now (word_json None (codes "bad line")) c.args.self.now) (sym none) (refl, refl)),
      is,
    )) c.word_line.ensures

pub returns-in-Err-Wrong-clause-done : goal.returns-in-Err-Wrong-clause-done
returns-in-Err-Wrong-clause-done c =
    let none : node_request_in c.args.line.now ≡ None = search rules in
    (word_json None (codes "bad line"), inl (subst (λ (o : Option NodeRequest). FollowsNode o c.args.self.now (word_json None (codes "bad line")) c.args.self.now) (sym none) (refl, refl)))

pub returns-in-Err-Memory-clause-answered : goal.returns-in-Err-Memory-clause-answered
returns-in-Err-Memory-clause-answered c =
    IfOk-weaker c.word_line-in-Err-Memory.result _ _ (λ text is. (word_json None (codes "no memory"), inr (refl, refl), is)) c.word_line-in-Err-Memory.ensures

pub returns-in-Err-Memory-clause-done : goal.returns-in-Err-Memory-clause-done
returns-in-Err-Memory-clause-done c = (word_json None (codes "no memory"), inr (refl, refl))
