use Rattle.std.proofs.Common.{◌∙◌, sym, ap, map, List, subst, arith, length}
use Rattle.std.specs.List.{filter_map}
use Rattle.gtp_reliable.specs.declared.held_answer.Pair.{Pair}
use Rattle.gtp_reliable.specs.Held.{after_tick}
use Rattle.gtp_reliable.specs.Aging.{seen, AreAging}
use Rattle.gtp_reliable.proofs.Aging.{due_next, aging_next, all_stay, all_age, fewer_left}
use Rattle.gtp_reliable.proofs.queue.tick_all.Goals as goal

pub loop-pairs-preserved : goal.loop-pairs-preserved
loop-pairs-preserved c =
    let before = c.loop-pairs.invariant in
    record {
      few = omega (arith, ap length c.forget.ensures.pairs, fewer_left c.loop-pairs.pairs.items, before.few);
      indexed = c.forget.ensures.indexed;
      aging = subst (AreAging c.args.now c.args.hold) (sym c.forget.ensures.pairs) (aging_next c.args.now c.args.hold c.loop-pairs.pairs.items before.aging);
      same =
          ap (λ (ps : List Pair). filter_map (after_tick c.args.hold) (map (seen c.args.now) ps)) c.forget.ensures.pairs
          ∙ (due_next c.args.now c.args.hold c.loop-pairs.pairs.items (sym c.front_is_due.ensures ∙ c.loop-pairs-test.true) ∙ before.same);
    }

pub returns-clause-pairs : goal.returns-clause-pairs
returns-clause-pairs c =
    all_stay c.args.now c.args.hold c.loop-pairs.pairs.items (sym c.front_is_due.ensures ∙ c.loop-pairs-test.false) c.loop-pairs.invariant.aging
    (omega arith) ∙ c.loop-pairs.invariant.same

pub returns-clause-aging : goal.returns-clause-aging
returns-clause-aging c = all_age c.args.now c.args.hold c.loop-pairs.pairs.items (sym c.front_is_due.ensures ∙ c.loop-pairs-test.false) c.loop-pairs.invariant.aging (omega arith)
