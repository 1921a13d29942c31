use Rattle.std.proofs.Common.{rules, ◌≡◌, ◌∙◌, true, sym, ap, drop, arith}
use Rattle.gtp_reliable.specs.Rows.{rows_of, slot_of, has_gap}
use Rattle.gtp_reliable.proofs.Slots.{gap_rest_rows, gap_rest_slot}
use Rattle.gtp_reliable.proofs.rows.drop_gaps.Goals as goal

pub loop-slots-preserved : goal.loop-slots-preserved
loop-slots-preserved g c =
    let slots = c.loop-slots.slots.items in
    let first = c.loop-slots.first in
    let is : has_gap slots ≡ true = sym c.has_gap.ensures ∙ c.loop-slots-test.true in
    let rest : c.pop_front.new.self.items ≡ drop 1 slots = search rules in
    record {
      rows = ap rows_of rest ∙ (gap_rest_rows slots is ∙ c.loop-slots.invariant.rows);
      names = λ n. ap (slot_of n _) rest ∙ (gap_rest_slot n first slots is ∙ c.loop-slots.invariant.names n);
      capacity = c.pop_front.ensures.capacity ∙ c.loop-slots.invariant.capacity;
      len = omega (arith, c.pop_front.ensures.len, c.loop-slots.invariant.len);
    }
