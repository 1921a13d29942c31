use Rattle.std.proofs.Common.{◌∙◌, sym, ap, refl, rules, List, map}
use Rattle.std.specs.List.{filter_map}
use Rattle.std.proofs.lemmas.List.{take_all}
use Rattle.gtp_reliable.specs.declared.held_answer.Pair.{Pair}
use Rattle.gtp_reliable.specs.Held.{forgotten}
use Rattle.gtp_reliable.specs.Aging.{seen}
use Rattle.gtp_reliable.proofs.Pairs.{forgotten_more}
use Rattle.gtp_reliable.proofs.Aging.{rest_stays, quiet_stays}
use Rattle.gtp_reliable.proofs.queue.forgotten_by_tick.Goals.{else-loop-at-test, then-loop-at-test+then-stays}
use Rattle.gtp_reliable.proofs.queue.forgotten_by_tick.Goals as goal

pub returns-in_err-from_slice-clause-quiet : goal.returns-in_err-from_slice-clause-quiet
returns-in_err-from_slice-clause-quiet c =
    λ all. absurd (quiet_stays c.args.now c.args.hold c.args.pairs.now.items c.loop-at.at c.index-pair.result.now (search rules) c.index-pair.ensures
    (sym c.stays.ensures ∙ c.if-stays.false) all)

pub returns-in_err-push-clause-quiet : goal.returns-in_err-push-clause-quiet
returns-in_err-push-clause-quiet c =
    λ all. absurd (quiet_stays c.args.now c.args.hold c.args.pairs.now.items c.loop-at.at c.index-pair.result.now (search rules) c.index-pair.ensures
    (sym c.stays.ensures ∙ c.if-stays.false) all)

pub loop-at-preserved : goal.loop-at-preserved
loop-at-preserved c =
    forgotten_more c.args.now c.args.hold c.args.pairs.now.items c.loop-at.at c.index-pair.result.now c.loop-at.requests.items c.push.new.self.items _
    c.loop-at.invariant (search rules) c.index-pair.ensures (sym c.stays.ensures ∙ c.if-stays.false) c.in_ok-push.ensures.items refl
    (c.in_ok-from_slice.ensures.items ∙ c.as_slice.ensures.value)

pub returns-clause-list : goal.returns-clause-list
returns-clause-list c = elim c.loop-at-test.branch [
  | else-loop-at-test w ↦ c.loop-at.invariant ∙ ap (λ (ps : List Pair). filter_map (forgotten c.args.hold) (map (seen c.args.now) ps)) (take_all c.loop-at.at c.args.pairs.now.items (search rules))
  | then-loop-at-test+then-stays w ↦ c.loop-at.invariant
      ∙ rest_stays c.args.now c.args.hold c.args.pairs.now.items c.loop-at.at w.index-pair.result.now c.requires.aging (search rules)
      w.index-pair.ensures (sym w.stays.ensures ∙ w.if-stays.true)
]
