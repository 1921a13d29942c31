use Rattle.std.proofs.Common.{◌≡◌, ◌<◌, ◌+◌, ◌-◌, ◌/◌, length, ap, sym, ◌∙◌, arith}
use Rattle.std.specs.declared.cmp.Ordering.TheVariants.{Less, Greater}
use Rattle.gtp_reliable.specs.Held.{Question}
use Rattle.gtp_reliable.specs.Order.{question_cmp}
use Rattle.gtp_reliable.specs.Index.{asked, question, questions, named_at}
use Rattle.gtp_reliable.proofs.Order.{question_exact}
use Rattle.gtp_reliable.proofs.Halving.{named_is, half_left, one_left, below_lower, above_higher}
use Rattle.gtp_reliable.proofs.Halving.{same_count}
use Rattle.gtp_reliable.proofs.queue.halve.Goals as goal

pub loop-low-preserved-in-Less : goal.loop-low-preserved-in-Less
loop-low-preserved-in-Less c =
    let qs = questions c.args.pairs.now.items in
    let q = question c.args.source c.args.request.now in
    let inv = c.loop-low.invariant in
    let middle = c.loop-low.low + (c.loop-low.high - c.loop-low.low) / 2 in
    let within : middle < length c.args.index.now = omega (arith, c.loop-low-test.true, inv.low, inv.high) in
    let at : c.place_of.result < length c.args.pairs.now.items = omega (arith, c.place_of.ensures, same_count c.args.pairs.now.items, c.requires.indexed.names middle 0 within) in
    let name : named_at c.args.first c.args.index.now qs middle ≡ asked c.index-pair.result.now =
    named_is c.args.first c.args.index.now c.args.pairs.now.items middle c.place_of.result c.index-pair.result.now c.place_of.ensures at
    c.index-pair.ensures in
    let less : question_cmp (named_at c.args.first c.args.index.now qs middle) q ≡ Less = ap (λ (k : Question). question_cmp k q) name ∙ (sym c.compare.ensures ∙ c.in-Less.is) in
    let some : 0 < 13 - c.loop-low.compared = one_left (13 - c.loop-low.compared) (c.loop-low.high - c.loop-low.low) (omega (arith, c.loop-low-test.true)) inv.left in
    record {
      low = omega (arith, c.loop-low-test.true, inv.low);
      high = inv.high;
      lower = below_lower c.args.first c.args.index.now qs c.requires.indexed.order q middle within less;
      higher = inv.higher;
      most = omega (arith, some);
      left =
          let e : 13 - (c.loop-low.compared + 1) ≡ 13 - c.loop-low.compared - 1 = omega (arith, some) in
          rw e (half_left (13 - c.loop-low.compared) (c.loop-low.high - c.loop-low.low) _ (omega (arith, c.loop-low-test.true)) inv.left
          (omega (arith, c.loop-low-test.true)));
    }

pub returns-in-Equal-clause-found : goal.returns-in-Equal-clause-found
returns-in-Equal-clause-found c =
    let qs = questions c.args.pairs.now.items in
    let q = question c.args.source c.args.request.now in
    let inv = c.loop-low.invariant in
    let middle = c.loop-low.low + (c.loop-low.high - c.loop-low.low) / 2 in
    let within : middle < length c.args.index.now = omega (arith, c.loop-low-test.true, inv.low, inv.high) in
    let at : c.place_of.result < length c.args.pairs.now.items = omega (arith, c.place_of.ensures, same_count c.args.pairs.now.items, c.requires.indexed.names middle 0 within) in
    let name : named_at c.args.first c.args.index.now qs middle ≡ asked c.index-pair.result.now =
    named_is c.args.first c.args.index.now c.args.pairs.now.items middle c.place_of.result c.index-pair.result.now c.place_of.ensures at
    c.index-pair.ensures in
    (within, name ∙ question_exact (asked c.index-pair.result.now) q (sym c.compare.ensures ∙ c.in-Equal.is))

pub loop-low-preserved : goal.loop-low-preserved
loop-low-preserved c =
    let qs = questions c.args.pairs.now.items in
    let q = question c.args.source c.args.request.now in
    let inv = c.loop-low.invariant in
    let middle = c.loop-low.low + (c.loop-low.high - c.loop-low.low) / 2 in
    let within : middle < length c.args.index.now = omega (arith, c.loop-low-test.true, inv.low, inv.high) in
    let at : c.place_of.result < length c.args.pairs.now.items = omega (arith, c.place_of.ensures, same_count c.args.pairs.now.items, c.requires.indexed.names middle 0 within) in
    let name : named_at c.args.first c.args.index.now qs middle ≡ asked c.index-pair.result.now =
    named_is c.args.first c.args.index.now c.args.pairs.now.items middle c.place_of.result c.index-pair.result.now c.place_of.ensures at
    c.index-pair.ensures in
    let more : question_cmp (named_at c.args.first c.args.index.now qs middle) q ≡ Greater = ap (λ (k : Question). question_cmp k q) name ∙ (sym c.compare.ensures ∙ c.in-Greater.is) in
    let some : 0 < 13 - c.loop-low.compared = one_left (13 - c.loop-low.compared) (c.loop-low.high - c.loop-low.low) (omega (arith, c.loop-low-test.true)) inv.left in
    record {
      low = omega (arith, c.loop-low-test.true, inv.low);
      high = omega (arith, within);
      lower = inv.lower;
      higher = above_higher c.args.first c.args.index.now qs c.requires.indexed.order q middle within more;
      most = omega (arith, some);
      left =
          let e : 13 - (c.loop-low.compared + 1) ≡ 13 - c.loop-low.compared - 1 = omega (arith, some) in
          rw e (half_left (13 - c.loop-low.compared) (c.loop-low.high - c.loop-low.low) _ (omega (arith, c.loop-low-test.true)) inv.left
          (omega (arith, c.loop-low-test.true)));
    }
