use Rattle.std.proofs.Common.{◌∙◌, ℕ, length, sym, ap, subst, arith}
use Rattle.std.specs.Prelude.{◌==◌, not, filter}
use Rattle.gtp_reliable.specs.Pending.{Requests, AreDistinct}
use Rattle.gtp_reliable.proofs.Lists.{fewer_filter}
use Rattle.gtp_reliable.proofs.Requests.{distinct_filter}
use Rattle.gtp_reliable.proofs.Told.{waiting_of, without_is, without_turn}
use Rattle.gtp_reliable.proofs.pending.Pending.finish.Goals as goal

pub invariant_of-self : goal.invariant_of-self
invariant_of-self g c =
    let rows = c.self.inside.rows.rows in
    let now = c.self.inside.ticks in
    let n = c.number.result in
    let left = ap (waiting_of now) c.finish.ensures.rows ∙ without_is now rows n in (
      record {
        limits = c.self.invariant.0.limits;
        next = c.self.invariant.0.next;
        count = omega (arith, ap length left, fewer_filter (λ w. not (w.seq == n)) (waiting_of now rows), c.self.invariant.0.count);
        distinct = subst AreDistinct (sym left) (distinct_filter (λ w. not (w.seq == n)) (waiting_of now rows) c.self.invariant.0.distinct);
      },
      rw c.finish.ensures.rows (without_turn now rows c.self.inside.t3 n c.self.invariant.1),
    )

pub returns-clause-waiting : goal.returns-clause-waiting
returns-clause-waiting g c =
    let rows = c.self.inside.rows.rows in
    let now = c.self.inside.ticks in
    ap (waiting_of now) c.finish.ensures.rows
    ∙ (without_is now rows c.number.result
    ∙ (ap (λ (n : ℕ). filter (λ w. not (w.seq == n)) (waiting_of now rows)) c.number.ensures.value
    ∙ ap (λ (v : Requests _). filter (λ w. not (w.seq == c.args.seq)) v.waiting) c.self.view_is))
