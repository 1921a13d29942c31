use Rattle.std.proofs.Common.{◌∷◌, sym, ◌∙◌, ap, subst}
use Rattle.std.specs.Prelude.{not}
use Rattle.std.specs.FinMap.{insert, remove}
use Rattle.gtp_values.specs.FiniteMap.{FiniteMap}
use Rattle.gtp_machine.specs.Node.{Session, Bearer, Node}
use Rattle.gtp_machine.specs.Command.{pending_dedicated}
use Rattle.gtp_gateway.specs.tables.Change.{IsAbove}
use Rattle.gtp_gateway.specs.receive.CreateSessionRequest.{bearer_granted}
use Rattle.gtp_gateway.specs.receive.RestartCounter.{node_heard}
use Rattle.gtp_gateway.specs.Parts.{node_of}
use Rattle.gtp_gateway.specs.GatewayState.{state_of}
use Rattle.gtp_gateway.proofs.CreateSessionRequests.{none_above, heard_with, still_above, above_one, taken_back}
use Rattle.gtp_gateway.proofs.Opened.{succeeded, failed}
use Rattle.gtp_gateway.proofs.RestartCounters.{counter_stays, drawn_stays}
use Rattle.gtp_gateway.proofs.parts.Parts.make_granted_with.Goals as goal

pub add-requires-2 : goal.add-requires-2
add-requires-2 c =
    let node = node_of c.args.self.now in
    let g = c.args.grant.now in
    let third = c.requires.third in
    let bearer = bearer_granted c.args.request.now g in
    let made = succeeded c.add.result c.in_ok-map_err-2.ensures.variant c.add.ensures.ok ∙ ap (λ (b : Bearer). insert node.bearers g.drawn.user b) c.granted_bearer.ensures in
    record {
      rises = subst (λ (bearers : FiniteMap Bearer). IsAbove bearers c.args.added.now.drawn.teid) (sym made)
          (above_one node.bearers g.drawn.user c.args.added.now.drawn.teid bearer third.above third.later);
    }

pub returns-then-is_err-clause-err : goal.returns-then-is_err-clause-err
returns-then-is_err-clause-err c =
    let node = node_of c.args.self.now in
    let g = c.args.grant.now in
    let bearer = bearer_granted c.args.request.now g in
    let stands = ap (λ r. r.table) (succeeded c.reserve_one.result c.in_ok-map_err.ensures.variant c.reserve_one.ensures.ok) in
    let made = succeeded c.add.result c.in_ok-map_err-2.ensures.variant c.add.ensures.ok ∙ ap (λ (b : Bearer). insert node.bearers g.drawn.user b) c.granted_bearer.ensures in
    let left = failed c.add-2.result (c.is_err.ensures.negation ∙ ap not c.if-is_err.true) c.add-2.ensures.err in
    let back =
    c.remove.ensures ∙ ap (λ (m : FiniteMap Bearer). remove m g.drawn.user) (left ∙ made)
    ∙ taken_back node.bearers g.drawn.user bearer (none_above node.bearers g.drawn.user c.requires.can.user_above) in
    λ i. record (state_of c.args.self.now) { node = record node { sessions = stands i; bearers = back i } }

pub add-requires-3-clause-rises : goal.add-requires-3-clause-rises
add-requires-3-clause-rises c =
    let node = node_of c.args.self.now in
    let g = c.args.grant.now in
    let t = c.args.added.now.drawn.teid in
    let bearer = bearer_granted c.args.request.now g in
    let dedicated = pending_dedicated g.drawn.control in
    let stands = ap (λ r. r.table) (succeeded c.reserve_one.result c.in_ok-map_err.ensures.variant c.reserve_one.ensures.ok) in
    let made = succeeded c.add.result c.in_ok-map_err-2.ensures.variant c.add.ensures.ok ∙ ap (λ (b : Bearer). insert node.bearers g.drawn.user b) c.granted_bearer.ensures in
    let more = succeeded c.add-2.result (sym (c.is_err.ensures.negation ∙ ap not c.if-is_err.false)) c.add-2.ensures.ok ∙ (λ i. insert (made i) t (c.pending_dedicated-dedicated.ensures i)) in
    let none = none_above node.sessions g.drawn.control c.requires.can.control_above in
    let heard =
    c.hear.ensures.node ∙ (λ i. node_heard c.args.heard (record node { sessions = stands i; bearers = more i }))
    ∙ heard_with c.args.heard (record node { bearers = insert node.bearers g.drawn.user bearer }) t dedicated none in
    let one = heard_with c.args.heard node g.drawn.user bearer none in
    subst (λ (sessions : FiniteMap Session). IsAbove sessions g.drawn.control)
    (sym (ap (λ (n : Node). n.sessions) heard ∙ ap (λ (n : Node). n.sessions) one))
    (still_above c.args.heard node g.drawn.control c.requires.can.control_above)

pub returns-clause-node : goal.returns-clause-node
returns-clause-node c =
    let node = node_of c.args.self.now in
    let g = c.args.grant.now in
    let t = c.args.added.now.drawn.teid in
    let third = c.requires.third in
    let bearer = bearer_granted c.args.request.now g in
    let dedicated = pending_dedicated g.drawn.control in
    let stands = ap (λ r. r.table) (succeeded c.reserve_one.result c.in_ok-map_err.ensures.variant c.reserve_one.ensures.ok) in
    let made = succeeded c.add.result c.in_ok-map_err-2.ensures.variant c.add.ensures.ok ∙ ap (λ (b : Bearer). insert node.bearers g.drawn.user b) c.granted_bearer.ensures in
    let more = succeeded c.add-2.result (sym (c.is_err.ensures.negation ∙ ap not c.if-is_err.false)) c.add-2.ensures.ok ∙ (λ i. insert (made i) t (c.pending_dedicated-dedicated.ensures i)) in
    let none = none_above node.sessions g.drawn.control c.requires.can.control_above in
    let one = heard_with c.args.heard node g.drawn.user bearer none in
    let heard =
    c.hear.ensures.node
    ∙ (λ i. node_heard c.args.heard (record node { sessions = stands i; bearers = more i }))
    ∙ heard_with c.args.heard (record node { bearers = insert node.bearers g.drawn.user bearer }) t dedicated none
    ∙ (λ i. record (one i) { bearers = insert (one i).bearers t dedicated }) in
    let counter = third.are.counter ∙ sym (counter_stays c.args.heard node) in
    let drawn = third.are.drawn ∙ (λ i. t ∷ g.drawn.user ∷ g.drawn.control ∷ sym (drawn_stays c.args.heard node) i) in
    let sessions = c.add-3.ensures.table ∙ (λ i. insert (heard i).sessions g.drawn.control (c.granted_session.ensures i)) in
    λ i. record (heard i) { counter = counter i; drawn = drawn i; sessions = sessions i }
