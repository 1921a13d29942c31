use Rattle.std.proofs.Common.{◌≡◌, Some, Result, true, false, refl, sym, ap, subst, ◌∙◌}
use Rattle.std.specs.Prelude.{Option, IsOk, is_some}
use Rattle.gtp_values.proofs.Outcomes.{ok_same}
use Rattle.gtp_ie.specs.Value.{Value}
use Rattle.gtp_v2.specs.declared.fault.RowFault.{RowFault}
use Rattle.gtp_v2.specs.reading.Rows.{needed_at}
use Rattle.gtp_v2.specs.reading.Viewed.{list_or_none}
use Rattle.gtp_v2.proofs.Views.{first_is, none_in}
use Rattle.gtp_v2.proofs.contexts.ContextView.needed.Goals as goal

pub unreachable-requires : goal.unreachable-requires
unreachable-requires g c =
    let none = none_in g.T.IeValue.KIND c.args.instance c.self.inside.elements c.args.self.now c.in_default.is c.self.view_is in
    let no = subst (λ (o : Option Value). is_some o ≡ true) (sym none) c.requires in cc

pub mandatory-requires : goal.mandatory-requires
mandatory-requires g c =
    let kept = sym (ap list_or_none c.in-Some.is) ∙ c.self.view_is in
    let n = first_is g.T.IeValue.KIND c.args.instance c.args.self.now c.requires in
    subst (λ (r : Result Value RowFault). IsOk r) (sym (ap (needed_at false g.T.IeValue.KIND c.args.instance) kept ∙ n.reads)) refl

pub returns : goal.returns
returns g c =
    let kept = sym (ap list_or_none c.in-Some.is) ∙ c.self.view_is in
    let n = first_is g.T.IeValue.KIND c.args.instance c.args.self.now c.requires in
    n.first ∙ ap (λ (v : Value). Some v) (ok_same RowFault n.value (g.T.IeValue.value c.mandatory.result)
    (sym n.reads ∙ ap (needed_at false g.T.IeValue.KIND c.args.instance) (sym kept) ∙ c.mandatory.ensures))
