use Rattle.std.proofs.Common.{◌∙◌, List, sym, ap, subst, map}
use Rattle.std.specs.Prelude.{All, IsTrue, is_some}
use Rattle.gtp_ie.specs.Form.{bearer_context}
use Rattle.gtp_ie.specs.Element.{Element, all_of}
use Rattle.gtp_v2.specs.reading.Headed.{headed_of}
use Rattle.gtp_v2.specs.Viewed.{Viewed, optional_at, values_in, inner_of, context_rows}
use Rattle.gtp_v2.specs.reading.Viewed.{list_or_none}
use Rattle.gtp_v2.proofs.ContextValues.{contexts_are, some_inner, each_there}
use Rattle.gtp_v2.proofs.GroupValues.{groups_are}
use Rattle.gtp_v2.proofs.Views.{is_read}
use Rattle.gtp_v2.proofs.viewing.MessageView.contexts.Goals as goal

pub returns-in-Some : goal.returns-in-Some
returns-in-Some c =
    let v = c.args.self.now in
    let kept = sym (ap (λ (v : Viewed). v.elements) c.self.view_is) ∙ ap list_or_none c.in-Some.is in
    let are = ap (λ es. map inner_of (all_of bearer_context 0 es)) kept ∙ ap (map inner_of) (sym c.from_first.ensures.all) ∙ sym c.of.ensures in
    let read = is_read (headed_of c.self.inside.header) c.self.inside.elements v c.self.view_is c.self.invariant in
    record {
      elements = sym are;
      groups = λ p is. groups_are bearer_context 0 v read p is ∙ ap (map (values_in p.0)) are;
      rows = λ has. contexts_are v read has ∙ ap (map (values_in (context_rows v.message.kind))) are;
      some = λ always none. some_inner v read always (are ∙ none);
      needed = λ kind instance always. subst (λ (xs : List (List Element)). All (λ es. IsTrue (is_some (optional_at kind instance es))) xs) are (each_there kind instance v read always);
    }

pub returns-in-None : goal.returns-in-None
returns-in-None c =
    let v = c.args.self.now in
    let kept = sym (ap (λ (v : Viewed). v.elements) c.self.view_is) ∙ ap list_or_none c.in-None.is in
    let are = ap (λ es. map inner_of (all_of bearer_context 0 es)) (kept ∙ sym c.none.ensures) ∙ sym c.of-in-None.ensures in
    let read = is_read (headed_of c.self.inside.header) c.self.inside.elements v c.self.view_is c.self.invariant in
    record {
      elements = sym are;
      groups = λ p is. groups_are bearer_context 0 v read p is ∙ ap (map (values_in p.0)) are;
      rows = λ has. contexts_are v read has ∙ ap (map (values_in (context_rows v.message.kind))) are;
      some = λ always none. some_inner v read always (are ∙ none);
      needed = λ kind instance always. subst (λ (xs : List (List Element)). All (λ es. IsTrue (is_some (optional_at kind instance es))) xs) are (each_there kind instance v read always);
    }
