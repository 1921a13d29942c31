use Rattle.std.proofs.Common.{rules, ◌≡◌, ◌<◌, ◌∙◌, true, false, length, sym, arith}
use Rattle.gtp_reliable.specs.Rows.{is_other}
use Rattle.gtp_reliable.proofs.Slots.{others_more}
use Rattle.gtp_reliable.proofs.rows.count_others.Goals.{then-is_other, else-is_other}
use Rattle.gtp_reliable.proofs.rows.count_others.Goals as goal

pub loop-at-preserved : goal.loop-at-preserved
loop-at-preserved g c =
    let slots = c.args.slots.now.items in
    let lt : c.loop-at.at < length slots = search rules in
    elim c.if-is_other.branch [
      | then-is_other w ↦
          let other : is_other g.meets c.index.result.now ≡ true = sym c.is_other.ensures ∙ w.if-is_other.true in
          record {
            count = omega (arith, w.count-is, c.loop-at.invariant.count, others_more g.meets c.loop-at.at slots c.index.result.now true lt c.index.ensures other);
            few = omega (arith, w.count-is, c.loop-at.invariant.few);
          }
      | else-is_other w ↦
          let other : is_other g.meets c.index.result.now ≡ false = sym c.is_other.ensures ∙ w.if-is_other.false in
          record {
            count = w.count-is ∙ (c.loop-at.invariant.count ∙ sym (others_more g.meets c.loop-at.at slots c.index.result.now false lt c.index.ensures other));
            few = omega (arith, w.count-is, c.loop-at.invariant.few);
          }
    ]
