use Rattle.std.proofs.Common.{◌∷◌, sym, ◌∙◌, ap, subst}
use Rattle.std.specs.Prelude.{not}
use Rattle.std.specs.FinMap.{remove}
use Rattle.gtp_values.specs.FiniteMap.{FiniteMap}
use Rattle.gtp_machine.specs.Node.{Bearer}
use Rattle.gtp_gateway.specs.receive.RestartCounter.{node_heard}
use Rattle.gtp_gateway.specs.receive.Piggybacked.{node_after_first}
use Rattle.gtp_gateway.specs.Parts.{node_of}
use Rattle.gtp_gateway.specs.tables.Opening.{CanApply}
use Rattle.gtp_gateway.specs.GatewayState.{GatewayState}
use Rattle.gtp_gateway.proofs.SecondGranted.{settled_more, can_settle_more}
use Rattle.gtp_gateway.proofs.BeforeSecond.{settled_counter, settled_drawn}
use Rattle.gtp_gateway.proofs.CreateSessionRequests.{none_above, taken_back}
use Rattle.gtp_gateway.proofs.Opened.{succeeded, failed}
use Rattle.gtp_gateway.proofs.parts.Parts.apply_and_make.Goals as goal

pub apply_verdict-requires-clause-can : goal.apply_verdict-requires-clause-can
apply_verdict-requires-clause-can c =
    let n = node_of c.args.self.now in
    let made = succeeded c.add.result c.in_ok-map_err.ensures.variant c.add.ensures.ok in
    subst (λ (bearers : FiniteMap Bearer). CanApply c.args.verdict (node_heard c.args.heard (record n { bearers = bearers }))) (sym made)
    (can_settle_more c.args.heard c.args.verdict n c.args.teid c.args.bearer c.requires.stands c.requires.can)

pub returns-then-is_err-clause-err : goal.returns-then-is_err-clause-err
returns-then-is_err-clause-err c =
    let n = node_of c.args.self.now in
    let t = c.args.teid in
    let made = succeeded c.add.result c.in_ok-map_err.ensures.variant c.add.ensures.ok in
    let left = failed c.apply_verdict.result (c.is_err.ensures.negation ∙ ap not c.if-is_err.true) c.apply_verdict.ensures.err in
    let back =
    c.remove.ensures ∙ ap (λ (s : GatewayState). remove s.node.bearers t) left ∙ ap (λ (m : FiniteMap Bearer). remove m t) made
    ∙ taken_back n.bearers t c.args.bearer (none_above n.bearers t c.requires.drawn.1) in
    λ i. record (left i) { node = record (left i).node { bearers = back i } }

pub returns-clause-node : goal.returns-clause-node
returns-clause-node c =
    let n = node_of c.args.self.now in
    let t = c.args.teid in
    let heard = c.args.heard in
    let v = c.args.verdict in
    let made = succeeded c.add.result c.in_ok-map_err.ensures.variant c.add.ensures.ok in
    let settled = succeeded c.apply_verdict.result (sym (c.is_err.ensures.negation ∙ ap not c.if-is_err.false)) c.apply_verdict.ensures.node
    ∙ (λ i. node_after_first heard v c.args.seq (record n { bearers = made i }))
    ∙ settled_more heard v c.args.seq n t c.args.bearer c.requires.stands in
    let counter = c.requires.drawn.0.counter ∙ sym (settled_counter heard v c.args.seq n) in
    let drawn = c.requires.drawn.0.drawn ∙ (λ i. t ∷ sym (settled_drawn heard v c.args.seq n) i) in
    λ i. record (settled i) { counter = counter i; drawn = drawn i }
