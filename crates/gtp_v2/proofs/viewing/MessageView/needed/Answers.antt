use Rattle.std.proofs.Common.{[], ◌∷◌, List, Option, Some, Result, false, refl, sym, ap, subst, ◌∙◌}
use Rattle.std.specs.Prelude.{IsOk, unwrap_or}
use Rattle.gtp_values.proofs.Outcomes.{ok_same}
use Rattle.gtp_ie.specs.Value.{Value}
use Rattle.gtp_v2.specs.declared.fault.RowFault.{RowFault}
use Rattle.gtp_v2.specs.reading.Headed.{headed_of}
use Rattle.gtp_v2.specs.reading.Rows.{needed_at}
use Rattle.gtp_v2.specs.reading.Viewed.{list_or_none}
use Rattle.gtp_v2.specs.Viewed.{Viewed}
use Rattle.gtp_v2.proofs.Views.{is_read, value_is}
use Rattle.gtp_v2.proofs.viewing.MessageView.needed.Goals as goal

pub mandatory-requires : goal.mandatory-requires
mandatory-requires g c =
    let kept = sym (ap list_or_none c.in-Some.is) ∙ ap (λ (v : Viewed). v.elements) c.self.view_is in
    let read = is_read (headed_of c.self.inside.header) c.self.inside.elements c.args.self.now c.self.view_is c.self.invariant in
    let n = value_is g.T.IeValue.KIND c.args.instance c.args.self.now read c.requires in
    subst (λ (r : Result Value RowFault). IsOk r) (sym (ap (needed_at false g.T.IeValue.KIND c.args.instance) kept ∙ n.reads)) refl

pub returns-clause-element : goal.returns-clause-element
returns-clause-element g c =
    let kept = sym (ap list_or_none c.in-Some.is) ∙ ap (λ (v : Viewed). v.elements) c.self.view_is in
    let read = is_read (headed_of c.self.inside.header) c.self.inside.elements c.args.self.now c.self.view_is c.self.invariant in
    let n = value_is g.T.IeValue.KIND c.args.instance c.args.self.now read c.requires in
    n.first ∙ ap (λ (v : Value). Some v) (ok_same RowFault n.value (g.T.IeValue.value c.mandatory.result)
    (sym n.reads ∙ ap (needed_at false g.T.IeValue.KIND c.args.instance) (sym kept) ∙ c.mandatory.ensures))

pub returns-clause-field : goal.returns-clause-field
returns-clause-field g c =
    let kept = sym (ap list_or_none c.in-Some.is) ∙ ap (λ (v : Viewed). v.elements) c.self.view_is in
    let read = is_read (headed_of c.self.inside.header) c.self.inside.elements c.args.self.now c.self.view_is c.self.invariant in
    let n = value_is g.T.IeValue.KIND c.args.instance c.args.self.now read c.requires in
    n.row ∙ ap (λ (v : Value). Some (v ∷ [])) (ok_same RowFault n.value (g.T.IeValue.value c.mandatory.result)
    (sym n.reads ∙ ap (needed_at false g.T.IeValue.KIND c.args.instance) (sym kept) ∙ c.mandatory.ensures))

pub returns-clause-row : goal.returns-clause-row
returns-clause-row g c = ap (λ (o : Option (List Value)). unwrap_or o []) (returns-clause-field g c)
