use Rattle.std.proofs.Common.{rules, ◌≡◌, ◌<◌, ◌≤◌, ◌∙◌, codes, length, Some, None, inl, inr, refl, sym, ap}
use Rattle.std.specs.Prelude.{slice_get}
use Rattle.std.proofs.lemmas.Option.{slice_get-get_or, slice_get_past}
use Rattle.std.proofs.lemmas.Result.{IfOk-weaker}
use Rattle.gtp_node.specs.Routing.{with_gateway}
use Rattle.gtp_serve.specs.NodeAnswers.{NodeState}
use Rattle.gtp_serve.specs.Replies.{word_json}
use Rattle.gtp_serve.specs.Views.{request_by}
use Rattle.gtp_serve.proofs.Peers.{asked_at, kept_at}
use Rattle.gtp_serve.proofs.node_server.NodeServer.ask.Goals as goal

pub returns-in_default-clause-done : goal.returns-in_default-clause-done
returns-in_default-clause-done c =
    let gateways = c.self.inside.node.gateways.items in
    let past : length gateways ≤ c.args.place = search rules in
    let none : slice_get c.args.self.now.peers.gateways c.args.place ≡ None =
    ap (λ (s : NodeState). slice_get s.peers.gateways c.args.place) (sym c.self.view_is) ∙ slice_get_past gateways c.args.place past in
    (word_json None (codes "no peer"), inl (inr (none, (refl, c.self.view_is))))

pub request_line-requires-clause-role : goal.request_line-requires-clause-role
request_line-requires-clause-role c =
    let gateways = c.self.inside.node.gateways.items in
    let within : c.args.place < length gateways = search rules in
    let stands : slice_get gateways c.args.place ≡ Some c.in-Some.gateway.now = slice_get-get_or gateways c.args.place c.in-Some.gateway.now within ∙ ap Some (sym c.in-Some.ensures.value) in
    sym (c.self.invariant c.args.place c.in-Some.gateway.now stands)

pub invariant_of-self-2 : goal.invariant_of-self-2
invariant_of-self-2 c =
    let gateways = c.self.inside.node.gateways.items in
    let within : c.args.place < length gateways = search rules in
    let stands : slice_get gateways c.args.place ≡ Some c.in-Some.gateway.now = slice_get-get_or gateways c.args.place c.in-Some.gateway.now within ∙ ap Some (sym c.in-Some.ensures.value) in
    kept_at c.self.inside.role gateways c.args.place c.in-Some.gateway.now c.request_line.new.gateway c.self.invariant stands c.request_line.ensures.role

pub returns-clause-answered : goal.returns-clause-answered
returns-clause-answered c =
    let gateways = c.self.inside.node.gateways.items in
    let within : c.args.place < length gateways = search rules in
    let stands : slice_get gateways c.args.place ≡ Some c.in-Some.gateway.now = slice_get-get_or gateways c.args.place c.in-Some.gateway.now within ∙ ap Some (sym c.in-Some.ensures.value) in
    let here = ap (λ (s : NodeState). slice_get s.peers.gateways c.args.place) (sym c.self.view_is) ∙ stands in
    IfOk-weaker c.request_line.result _ _
    (λ text is. (
      is.0,
      asked_at c.args.place (request_by c.args.request.now) c.args.self.now _ c.in-Some.gateway.now c.request_line.new.gateway is.0 here
          (ap (λ (s : NodeState). record s { peers = with_gateway c.args.place c.request_line.new.gateway s.peers }) c.self.view_is) is.1,
      is.2,
    )) c.request_line.ensures.answered

pub returns-clause-done : goal.returns-clause-done
returns-clause-done c =
    let gateways = c.self.inside.node.gateways.items in
    let within : c.args.place < length gateways = search rules in
    let stands : slice_get gateways c.args.place ≡ Some c.in-Some.gateway.now = slice_get-get_or gateways c.args.place c.in-Some.gateway.now within ∙ ap Some (sym c.in-Some.ensures.value) in
    let here = ap (λ (s : NodeState). slice_get s.peers.gateways c.args.place) (sym c.self.view_is) ∙ stands in
    let is = c.request_line.ensures.done in (
      is.0,
      asked_at c.args.place (request_by c.args.request.now) c.args.self.now _ c.in-Some.gateway.now c.request_line.new.gateway is.0 here
          (ap (λ (s : NodeState). record s { peers = with_gateway c.args.place c.request_line.new.gateway s.peers }) c.self.view_is) is.1,
    )
