use Rattle.std.proofs.Common.{rules, ◌≡◌, ◌∙◌, codes, length, Some, None, inl, inr, refl, sym, ap, subst}
use Rattle.std.proofs.lemmas.Result.{IfOk-weaker}
use Rattle.gtp_gateway.specs.GatewayState.{starting}
use Rattle.gtp_node.specs.Routing.{Peers, peers_of}
use Rattle.gtp_scenario.specs.Steps.{IsNone}
use Rattle.gtp_serve.specs.NodeAnswers.{HasRole}
use Rattle.gtp_serve.specs.NodeHeads.{settings_in}
use Rattle.gtp_serve.specs.Replies.{word_json}
use Rattle.gtp_serve.proofs.Peers.{kept_with, joins, joins_not}
use Rattle.gtp_serve.proofs.node_server.NodeServer.join.Goals as goal

pub returns-in-Err-Wrong-clause-answered : goal.returns-in-Err-Wrong-clause-answered
returns-in-Err-Wrong-clause-answered c =
    let count : c.len-place.result ≡ length c.self.inside.node.gateways.items = search rules in
    let at = subst (λ f. IsNone f (settings_in c.self.inside.role c.deref.result.now c.args.peer c.len-place.result)) c.in-Err-Wrong.field-0-is c.in-Err-Wrong.ensures in
    let none = joins_not c.args.peer c.args.self.now _ c.self.view_is c.deref.result.now c.len-place.result c.deref.ensures.value count at in
    IfOk-weaker c.word_line.result _ _ (λ text is. (word_json None (codes "no addresses"), inl (inr (none, (refl, refl))), is)) c.word_line.ensures

pub returns-in-Err-Wrong-clause-done : goal.returns-in-Err-Wrong-clause-done
returns-in-Err-Wrong-clause-done c =
    let count : c.len-place.result ≡ length c.self.inside.node.gateways.items = search rules in
    let at = subst (λ f. IsNone f (settings_in c.self.inside.role c.deref.result.now c.args.peer c.len-place.result)) c.in-Err-Wrong.field-0-is c.in-Err-Wrong.ensures in
    let none = joins_not c.args.peer c.args.self.now _ c.self.view_is c.deref.result.now c.len-place.result c.deref.ensures.value count at in
    (word_json None (codes "no addresses"), inl (inr (none, (refl, refl))))

pub returns-in-Err-Memory-clause-answered : goal.returns-in-Err-Memory-clause-answered
returns-in-Err-Memory-clause-answered c =
    IfOk-weaker c.word_line-in-Err-Memory.result _ _ (λ text is. (word_json None (codes "no memory"), inr (refl, refl), is)) c.word_line-in-Err-Memory.ensures

pub returns-in-Err-Memory-clause-done : goal.returns-in-Err-Memory-clause-done
returns-in-Err-Memory-clause-done c = (word_json None (codes "no memory"), inr (refl, refl))

pub invariant_of-self : goal.invariant_of-self
invariant_of-self c =
    subst (λ (p : Peers). HasRole c.self.inside.role p.gateways) (sym c.in-Ok-add.ensures.added)
    (kept_with c.self.inside.role c.self.inside.node.gateways.items (starting c.self.inside.role c.in-Ok.config c.self.inside.counter.0) c.self.invariant refl)

pub returns-in-Ok-add-clause-done : goal.returns-in-Ok-add-clause-done
returns-in-Ok-add-clause-done c =
    let count : c.len-place.result ≡ length c.self.inside.node.gateways.items = search rules in (
      word_json (Some (length c.args.self.now.peers.gateways)) (codes "added"),
      inl (joins c.args.peer c.args.self.now _ c.in-Ok.config (peers_of c.add.new.self) c.self.view_is c.deref.result.now c.len-place.result c.deref.ensures.value count c.in-Ok.ensures c.in-Ok-add.ensures.added),
    )

pub returns-clause-answered : goal.returns-clause-answered
returns-clause-answered c =
    let still = ap (λ (p : Peers). record { head = c.self.inside.head.items; role = c.self.inside.role; counter = c.self.inside.counter.0; peers = p }) c.in-Err.ensures.err ∙ c.self.view_is in
    IfOk-weaker c.word_line-in-Err.result _ _ (λ text is. (word_json None (codes "no memory"), inr (refl, still), is)) c.word_line-in-Err.ensures

pub returns-clause-done : goal.returns-clause-done
returns-clause-done c =
    let still = ap (λ (p : Peers). record { head = c.self.inside.head.items; role = c.self.inside.role; counter = c.self.inside.counter.0; peers = p }) c.in-Err.ensures.err ∙ c.self.view_is in
    (word_json None (codes "no memory"), inr (refl, still))
