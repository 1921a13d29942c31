use Rattle.std.proofs.Common.{◌<◌, ◌∙◌, sym, subst}
use Rattle.gtp_reliable.specs.Pending.{Requests, numbers}
use Rattle.gtp_reliable.proofs.Numbers.{IsReached, reached_first, reached_next, reached_free}
use Rattle.gtp_reliable.proofs.Told.{waiting_of}
use Rattle.gtp_reliable.proofs.pending.Pending.next_free.Goals as goal

pub loop-number-init : goal.loop-number-init
loop-number-init g c =
    subst (λ (v : Requests _). IsReached v.next v.waiting c.self.inside.next) c.self.view_is
    (reached_first c.self.inside.next (waiting_of c.self.inside.ticks c.self.inside.rows.rows) c.self.invariant.0.next c.self.invariant.0.count)

pub loop-number-smaller : goal.loop-number-smaller
loop-number-smaller g c =
    let small = subst (λ (v : Requests _). v.next < numbers) c.self.view_is c.self.invariant.0.next in
    let on = reached_next c.args.self.now.next c.args.self.now.waiting c.loop-number.number small c.loop-number.invariant (sym c.has_number.ensures ∙ c.loop-number-test.true) in
    rw c.following-number.ensures on.fewer

pub loop-number-preserved : goal.loop-number-preserved
loop-number-preserved g c =
    let small = subst (λ (v : Requests _). v.next < numbers) c.self.view_is c.self.invariant.0.next in
    let on = reached_next c.args.self.now.next c.args.self.now.waiting c.loop-number.number small c.loop-number.invariant (sym c.has_number.ensures ∙ c.loop-number-test.true) in
    subst (λ n. IsReached c.args.self.now.next c.args.self.now.waiting n) (sym c.following-number.ensures) on.reached

pub returns-clause-number : goal.returns-clause-number
returns-clause-number g c =
    let small = subst (λ (v : Requests _). v.next < numbers) c.self.view_is c.self.invariant.0.next in
    reached_free c.args.self.now.next c.args.self.now.waiting c.loop-number.number small c.loop-number.invariant (sym c.has_number.ensures ∙ c.loop-number-test.false)
