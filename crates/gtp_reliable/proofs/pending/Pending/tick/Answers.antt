use Rattle.std.proofs.Common.{◌+◌, ◌%◌, ◌^◌, ◌∙◌, length, sym, ap, subst, arith}
use Rattle.std.specs.List.{filter_map}
use Rattle.gtp_reliable.specs.Waiting.{after_tick}
use Rattle.gtp_reliable.specs.Pending.{Requests, AreDistinct}
use Rattle.gtp_reliable.proofs.Requests.{ticked_count, ticked_distinct}
use Rattle.gtp_reliable.proofs.Told.{waiting_of}
use Rattle.gtp_reliable.proofs.Ticked.{tick_is, tick_turn}
use Rattle.gtp_reliable.proofs.pending.Pending.tick.Goals as goal

pub invariant_of-self : goal.invariant_of-self
invariant_of-self g c =
    let t3 = c.self.inside.t3 in
    let n3 = c.self.inside.n3 in
    let now = c.self.inside.ticks in
    let rows = c.self.inside.rows.rows in
    let limits = c.self.invariant.0.limits in
    let turn = c.self.invariant.1 in
    let ws = waiting_of now rows in
    let after = ap (waiting_of ((now + 1) % 2 ^ 32)) c.tick.ensures.rows ∙ tick_is t3 n3 now rows limits.1 turn in (
      record {
        limits = limits;
        next = c.self.invariant.0.next;
        count = omega (arith, ap length after, ticked_count t3 n3 ws, c.self.invariant.0.count);
        distinct = subst AreDistinct (sym after) (ticked_distinct t3 n3 ws c.self.invariant.0.distinct);
      },
      rw c.tick.ensures.rows (tick_turn t3 n3 now rows limits.0 limits.1 turn),
    )

pub returns-clause-waiting : goal.returns-clause-waiting
returns-clause-waiting g c =
    let t3 = c.self.inside.t3 in
    let n3 = c.self.inside.n3 in
    let now = c.self.inside.ticks in
    let rows = c.self.inside.rows.rows in
    ap (waiting_of ((now + 1) % 2 ^ 32)) c.tick.ensures.rows
    ∙ (tick_is t3 n3 now rows c.self.invariant.0.limits.1 c.self.invariant.1
    ∙ ap (λ (v : Requests _). filter_map (after_tick v.t3 v.n3) v.waiting) c.self.view_is)
