use Rattle.std.proofs.Common.{◌∙◌, length, sym, ap, subst, arith}
use Rattle.std.specs.Prelude.{not}
use Rattle.gtp_reliable.specs.Rows.{rows_of, AreApart}
use Rattle.gtp_reliable.proofs.Slots.{apart_filter}
use Rattle.gtp_reliable.proofs.rows.Rows.finish_where.Goals as goal

pub invariant_of-self : goal.invariant_of-self
invariant_of-self g c = record {
  names = λ n. c.cut_where.ensures.named n ∙ sym (c.drop_gaps.ensures.names n);
  apart = subst AreApart (sym (c.drop_gaps.ensures.rows ∙ c.cut_where.ensures.rows)) (apart_filter (λ r. not (g.meets r.purpose)) (rows_of c.self.inside.slots.items) c.self.invariant.apart);
  front = c.drop_gaps.ensures.front;
  count = c.cut_where.ensures.count ∙ ap length (sym c.drop_gaps.ensures.rows);
  room =
      λ e. let had = c.self.invariant.room e in
      let kept = c.cut_where.ensures.room in
      (omega (arith, had.0, kept.0, kept.1, c.drop_gaps.ensures.len, c.drop_gaps.ensures.capacity), omega (arith, had.1, kept.2));
}
