use Rattle.std.proofs.Common.{◌≡◌, ℕ, [], ◌∷◌, ◌++◌, map, ap, ◌∙◌}
use Rattle.std.proofs.lemmas.List.{map_push}
use Rattle.gtp_ie.specs.View.{element_of}
use Rattle.gtp_ie.specs.Element.{all_of}
use Rattle.gtp_v2.specs.reading.Rows.{one_at, values_at}
use Rattle.gtp_v2.proofs.Loop.{gathers_first, goes_on, is_done}
use Rattle.gtp_v2.proofs.list_rows.gather_values.Goals as goal

pub loop-view-init : goal.loop-view-init
loop-view-init g c =
    gathers_first (one_at g.T.IeValue.KIND c.args.instance) (map g.T.IeValue.value c.new-values.result.items)
    (all_of g.T.IeValue.KIND c.args.instance c.args.elements.now) c.into_iter-view-iterator.result
    (ap (map g.T.IeValue.value) c.new-values.ensures.items)
    (c.into_iter-view-iterator.ensures.into_iter_gives ∙ c.all-view-items.ensures ∙ ap (λ (kind : ℕ). all_of kind c.args.instance c.args.elements.now) c.KIND.ensures)

pub loop-view-preserved : goal.loop-view-preserved
loop-view-preserved g c =
    let read = one_at g.T.IeValue.KIND c.args.instance in
    let items : map g.T.IeValue.value c.push.new.self.items ≡ map g.T.IeValue.value c.loop-view.values.items ++ g.T.IeValue.value c.in-Some-read_value.value ∷ [] =
    ap (map g.T.IeValue.value) c.in-Ok.ensures.items ∙ map_push g.T.IeValue.value c.loop-view.values.items c.in-Some-read_value.value in
    rw items (goes_on read (map g.T.IeValue.value c.loop-view.values.items) (element_of c.in-Some.view) c.next.new.self c.loop-view.view-iterator
    (g.T.IeValue.value c.in-Some-read_value.value) (values_at g.T.IeValue.KIND c.args.instance
    (all_of g.T.IeValue.KIND c.args.instance c.args.elements.now))
    c.in-Some.ensures.steps c.in-Some-read_value.ensures c.loop-view.invariant)

pub returns : goal.returns
returns g c =
    rw c.of.ensures (is_done (one_at g.T.IeValue.KIND c.args.instance) (map g.T.IeValue.value c.loop-view.values.items) c.loop-view.view-iterator
    (values_at g.T.IeValue.KIND c.args.instance (all_of g.T.IeValue.KIND c.args.instance c.args.elements.now)) c.in-None.ensures.steps.0
    c.loop-view.invariant)
