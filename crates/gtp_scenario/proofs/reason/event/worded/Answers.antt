use Rattle.std.proofs.Common.{◌≡◌, true, Some, None, sym, ap, subst, ◌∙◌}
use Rattle.gtp_scenario.specs.Keys.{kind_of}
use Rattle.gtp_scenario.specs.Reasons.{fits}
use Rattle.gtp_scenario.specs.Trees.{view}
use Rattle.gtp_scenario.proofs.Objects.{at_none}
use Rattle.gtp_scenario.proofs.NamedKeys.{entry_right}
use Rattle.gtp_scenario.proofs.reason.event.worded.Goals as goal

pub returns-in_default : goal.returns-in_default
returns-in_default c =
    let same = c.in_ok-from_str.ensures.ok in
    let none : kind_of c.args.word.now ≡ None = sym c.kind_of.ensures ∙ c.in_default.is in
    (c.requires ∙ ap Some (sym same), ap kind_of same ∙ none)

pub returns-in-None : goal.returns-in-None
returns-in-None c =
    let d = view c.args.value.now in
    let kind : kind_of c.args.word.now ≡ Some c.in-Some.kind = sym c.kind_of.ensures ∙ c.in-Some.is in
    let met = at_none c.in_ok-flaw.field-0 _ _ c.in_ok-flaw.ensures c.in-None.is in
    entry_right d c.args.word.now c.in-Some.kind c.requires kind (subst (λ known. fits known d ≡ true) c.keys_in.ensures met)
