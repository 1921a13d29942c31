use Rattle.std.proofs.Common.{rules, ◌≡◌, ◌∙◌, codes, Option, None, inl, inr, refl, sym, ap, subst}
use Rattle.std.specs.Prelude.{option_map}
use Rattle.std.proofs.lemmas.Result.{IfOk-weaker}
use Rattle.gtp_node.specs.Routing.{IsRouted, Peers, peers_of}
use Rattle.gtp_serve.specs.NodeAnswers.{HasRole, NodeState, routed_json}
use Rattle.gtp_serve.specs.Replies.{word_json}
use Rattle.gtp_node.specs.declared.node.Routed.{Routed}
use Rattle.gtp_json.specs.Tree.{line_of}
use Rattle.gtp_serve.proofs.Peers.{kept_routed, takes}
use Rattle.gtp_serve.proofs.node_server.NodeServer.route.Goals as goal

pub invariant_of-self : goal.invariant_of-self
invariant_of-self c = subst (λ (p : Peers). HasRole c.self.inside.role p.gateways) (sym (c.in-Err.ensures.err)) c.self.invariant

pub returns-in-Err-clause-answered : goal.returns-in-Err-clause-answered
returns-in-Err-clause-answered c =
    let still = ap (λ (p : Peers). record { head = c.self.inside.head.items; role = c.self.inside.role; counter = c.self.inside.counter.0; peers = p }) c.in-Err.ensures.err ∙ c.self.view_is in
    IfOk-weaker c.word_line.result _ _ (λ text is. (word_json None (codes "no memory"), inr (refl, still), is)) c.word_line.ensures

pub returns-in-Err-clause-done : goal.returns-in-Err-clause-done
returns-in-Err-clause-done c =
    let still = ap (λ (p : Peers). record { head = c.self.inside.head.items; role = c.self.inside.role; counter = c.self.inside.counter.0; peers = p }) c.in-Err.ensures.err ∙ c.self.view_is in
    (word_json None (codes "no memory"), inr (refl, still))

pub invariant_of-self-2 : goal.invariant_of-self-2
invariant_of-self-2 c =
    kept_routed c.self.inside.role c.args.plane c.args.source c.args.octets.now (peers_of c.self.inside.node) c.in-Ok.routed (peers_of c.receive.new.self) c.self.invariant c.in-Ok.ensures.routed

pub returns-clause-answered : goal.returns-clause-answered
returns-clause-answered c =
    let goes = subst (λ (s : NodeState). IsRouted c.args.plane c.args.source c.args.octets.now s.peers c.in-Ok.routed (peers_of c.receive.new.self)) c.self.view_is c.in-Ok.ensures.routed in
    let changes = ap (λ (s : NodeState). record s { peers = peers_of c.receive.new.self }) c.self.view_is in
    let same : option_map (λ r. r.now) c.as_ref.result ≡ c.in-Ok.routed = search rules in
    IfOk-weaker c.routed_line.result _ _
    (λ text is. (
      routed_json c.in-Ok.routed,
      inl (takes c.args.plane c.args.source c.args.octets.now c.args.self.now _ (peers_of c.receive.new.self) c.in-Ok.routed goes changes),
      is ∙ ap (λ (r : Option Routed). line_of (routed_json r)) same,
    )) c.routed_line.ensures

pub returns-clause-done : goal.returns-clause-done
returns-clause-done c =
    let goes = subst (λ (s : NodeState). IsRouted c.args.plane c.args.source c.args.octets.now s.peers c.in-Ok.routed (peers_of c.receive.new.self)) c.self.view_is c.in-Ok.ensures.routed in
    let changes = ap (λ (s : NodeState). record s { peers = peers_of c.receive.new.self }) c.self.view_is in
    (routed_json c.in-Ok.routed, inl (takes c.args.plane c.args.source c.args.octets.now c.args.self.now _ (peers_of c.receive.new.self) c.in-Ok.routed goes changes))
