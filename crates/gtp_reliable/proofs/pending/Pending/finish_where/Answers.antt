use Rattle.std.proofs.Common.{◌∙◌, length, sym, ap, subst, arith}
use Rattle.std.specs.Prelude.{not}
use Rattle.gtp_reliable.specs.Pending.{Requests, others, AreDistinct}
use Rattle.gtp_reliable.proofs.Lists.{fewer_filter}
use Rattle.gtp_reliable.proofs.Requests.{distinct_filter}
use Rattle.gtp_reliable.proofs.Told.{waiting_of, others_is, others_turn}
use Rattle.gtp_reliable.proofs.pending.Pending.finish_where.Goals as goal

pub invariant_of-self : goal.invariant_of-self
invariant_of-self g c =
    let rows = c.self.inside.rows.rows in
    let now = c.self.inside.ticks in
    let left = ap (waiting_of now) c.finish_where.ensures.rows ∙ others_is now rows g.meets in (
      record {
        limits = c.self.invariant.0.limits;
        next = c.self.invariant.0.next;
        count = omega (arith, ap length left, fewer_filter (λ w. not (g.meets w.purpose)) (waiting_of now rows), c.self.invariant.0.count);
        distinct = subst AreDistinct (sym left) (distinct_filter (λ w. not (g.meets w.purpose)) (waiting_of now rows) c.self.invariant.0.distinct);
      },
      rw c.finish_where.ensures.rows (others_turn now rows c.self.inside.t3 g.meets c.self.invariant.1),
    )

pub returns-clause-waiting : goal.returns-clause-waiting
returns-clause-waiting g c =
    let rows = c.self.inside.rows.rows in
    let now = c.self.inside.ticks in
    ap (waiting_of now) c.finish_where.ensures.rows ∙ (others_is now rows g.meets ∙ ap (λ (v : Requests _). others g.meets v.waiting) c.self.view_is)
