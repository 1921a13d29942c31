use Rattle.std.proofs.Common.{rules, arith, ◌<◌, ◌≤◌, ◌∙◌, All, ap, subst, sym, length}
use Rattle.std.proofs.lemmas.List.{take_all}
use Rattle.std.proofs.Output.{has_written_append, has_written_of_eq}
use Rattle.gtp_values.specs.Imsi.{digits_text}
use Rattle.gtp_values.proofs.Digits.{one_more}
use Rattle.gtp_values.proofs.imsi.ImsiDisplay.fmt.Goals as goal

pub loop-digit-preserved : goal.loop-digit-preserved
loop-digit-preserved g c p =
    let digits = c.digits-digit-items.result.now in
    let ensures = c.digits-digit-items.ensures in
    let small : All (λ digit. digit < 10) digits = subst (All (λ digit. digit < 10)) (sym ensures.value) ensures.range.decimal in
    has_written_of_eq _ _ _ _ _ (one_more digits c.loop-digit.digit-index c.loop-digit-test.true small) (has_written_append _ _ _ _ _ _ (c.loop-digit.invariant p) (search rules))

pub returns-clause-writes : goal.returns-clause-writes
returns-clause-writes g c p ok =
    let digits = c.digits-digit-items.result.now in
    let passed : length digits ≤ c.loop-digit.digit-index = omega (c.loop-digit-test.false, arith) in
    has_written_of_eq _ _ _ _ _ (ap digits_text (take_all c.loop-digit.digit-index digits passed ∙ c.digits-digit-items.ensures.value)) (c.loop-digit.invariant p)
