use Rattle.std.proofs.Common.{sym, ap, ◌∙◌}
use Rattle.std.specs.Prelude.{is_some}
use Rattle.serde_json.specs.Find.{get}
use Rattle.gtp_scenario.specs.Trees.{view}
use Rattle.gtp_scenario.proofs.Objects.{is_bad, is_missing}
use Rattle.gtp_scenario.proofs.reason.flaw.flaw_at.Goals as goal

pub returns-then-has : goal.returns-then-has
returns-then-has c known first =
    let d = view c.args.value.now in
    (first, is_bad known d c.args.key first (sym (c.has.ensures ∙ ap (λ key. is_some (get key d)) c.text.ensures) ∙ c.if-has.true))

pub returns-else-has : goal.returns-else-has
returns-else-has c known first =
    let d = view c.args.value.now in
    (first, is_missing known d c.args.key first (sym (c.has.ensures ∙ ap (λ key. is_some (get key d)) c.text.ensures) ∙ c.if-has.false))
