use Rattle.std.proofs.Common.{◌≡◌, ℕ, List, sym, ap, ◌∙◌}
use Rattle.gtp_ie.specs.Element.{Element, all_of}
use Rattle.gtp_ie.specs.Value.{Value}
use Rattle.gtp_v2.specs.reading.Headed.{headed_of}
use Rattle.gtp_v2.specs.Viewed.{Viewed, values_of}
use Rattle.gtp_v2.specs.reading.Viewed.{list_or_none}
use Rattle.gtp_v2.proofs.ListValues.{list_is, several_are}
use Rattle.gtp_v2.proofs.Views.{is_read}
use Rattle.gtp_v2.proofs.viewing.MessageView.values.Goals as goal

-- the values of those elements that are of the type and instance
listed : (kind asked instance : ℕ) (es kept found : List Element) (values : List Value) → values ≡ values_of kind found → found ≡ all_of asked instance es
    → asked ≡ kind → es ≡ kept → values ≡ values_of kind (all_of kind instance kept)
listed kind asked instance es kept found values of all same from = of ∙ ap (values_of kind) (all ∙ (λ i. all_of (same i) instance (from i)))

pub returns-in-Some : goal.returns-in-Some
returns-in-Some g c =
    let kind = g.T.IeValue.KIND in
    let kept = sym (ap list_or_none c.in-Some.is) ∙ ap (λ (v : Viewed). v.elements) c.self.view_is in
    let read = is_read (headed_of c.self.inside.header) c.self.inside.elements c.args.self.now c.self.view_is c.self.invariant in
    let are = listed kind c.KIND.result c.args.instance c.in-Some.elements c.args.self.now.elements c.all.result c.of.result c.of.ensures c.all.ensures c.KIND.ensures kept in
    record { elements = are; list = λ values is. are ∙ list_is kind c.args.instance c.args.self.now read values is; row = λ has. are ∙ several_are kind c.args.instance c.args.self.now read has }

pub returns-in-None : goal.returns-in-None
returns-in-None g c =
    let kind = g.T.IeValue.KIND in
    let kept = c.none.ensures ∙ (sym (ap list_or_none c.in-None.is) ∙ ap (λ (v : Viewed). v.elements) c.self.view_is) in
    let read = is_read (headed_of c.self.inside.header) c.self.inside.elements c.args.self.now c.self.view_is c.self.invariant in
    let are =
    listed kind c.KIND-in-None.result c.args.instance c.none.result c.args.self.now.elements c.all-in-None.result c.of-in-None.result
    c.of-in-None.ensures c.all-in-None.ensures c.KIND-in-None.ensures kept in
    record { elements = are; list = λ values is. are ∙ list_is kind c.args.instance c.args.self.now read values is; row = λ has. are ∙ several_are kind c.args.instance c.args.self.now read has }
