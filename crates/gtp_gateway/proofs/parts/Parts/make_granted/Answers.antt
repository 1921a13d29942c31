use Rattle.std.proofs.Common.{◌∷◌, sym, ◌∙◌, ap, subst}
use Rattle.std.specs.FinMap.{insert}
use Rattle.gtp_values.specs.FiniteMap.{FiniteMap}
use Rattle.gtp_machine.specs.Node.{Session, Bearer, Node}
use Rattle.gtp_gateway.specs.tables.Change.{IsAbove}
use Rattle.gtp_gateway.specs.receive.CreateSessionRequest.{bearer_granted}
use Rattle.gtp_gateway.specs.receive.RestartCounter.{node_heard}
use Rattle.gtp_gateway.specs.Parts.{node_of}
use Rattle.gtp_gateway.proofs.CreateSessionRequests.{none_above, heard_with, still_above}
use Rattle.gtp_gateway.proofs.Opened.{succeeded}
use Rattle.gtp_gateway.proofs.RestartCounters.{counter_stays, drawn_stays}
use Rattle.gtp_gateway.proofs.parts.Parts.make_granted.Goals as goal

pub add-requires-2-clause-rises : goal.add-requires-2-clause-rises
add-requires-2-clause-rises c =
    let node = node_of c.args.self.now in
    let g = c.args.grant.now in
    let bearer = bearer_granted c.args.request.now g in
    let stands = ap (λ r. r.table) (succeeded c.reserve_one.result c.in_ok-map_err.ensures.variant c.reserve_one.ensures.ok) in
    let made = succeeded c.add.result c.in_ok-map_err-2.ensures.variant c.add.ensures.ok ∙ ap (λ (b : Bearer). insert node.bearers g.drawn.user b) c.granted_bearer.ensures in
    let heard =
    c.hear.ensures.node ∙ (λ i. node_heard c.args.heard (record node { sessions = stands i; bearers = made i }))
    ∙ heard_with c.args.heard node g.drawn.user bearer (none_above node.sessions g.drawn.control c.requires.can.control_above) in
    subst (λ (sessions : FiniteMap Session). IsAbove sessions g.drawn.control) (sym (ap (λ (n : Node). n.sessions) heard)) (still_above c.args.heard node g.drawn.control c.requires.can.control_above)

pub returns-clause-node : goal.returns-clause-node
returns-clause-node c =
    let node = node_of c.args.self.now in
    let g = c.args.grant.now in
    let bearer = bearer_granted c.args.request.now g in
    let can = c.requires.can in
    let stands = ap (λ r. r.table) (succeeded c.reserve_one.result c.in_ok-map_err.ensures.variant c.reserve_one.ensures.ok) in
    let made = succeeded c.add.result c.in_ok-map_err-2.ensures.variant c.add.ensures.ok ∙ ap (λ (b : Bearer). insert node.bearers g.drawn.user b) c.granted_bearer.ensures in
    let heard =
    c.hear.ensures.node ∙ (λ i. node_heard c.args.heard (record node { sessions = stands i; bearers = made i }))
    ∙ heard_with c.args.heard node g.drawn.user bearer (none_above node.sessions g.drawn.control can.control_above) in
    let counter = can.are.counter ∙ sym (counter_stays c.args.heard node) in
    let drawn = can.are.drawn ∙ (λ i. g.drawn.user ∷ g.drawn.control ∷ sym (drawn_stays c.args.heard node) i) in
    let sessions = c.add-2.ensures.table ∙ (λ i. insert (heard i).sessions g.drawn.control (c.granted_session.ensures i)) in
    λ i. record (heard i) { counter = counter i; drawn = drawn i; sessions = sessions i }
