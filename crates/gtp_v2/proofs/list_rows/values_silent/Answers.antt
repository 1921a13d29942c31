use Rattle.std.proofs.Common.{ℕ, ap, ◌∙◌}
use Rattle.gtp_ie.specs.View.{element_of}
use Rattle.gtp_ie.specs.Element.{all_of}
use Rattle.gtp_v2.specs.reading.Rows.{one_at, values_at}
use Rattle.gtp_v2.proofs.Checks.{passes_first}
use Rattle.gtp_v2.proofs.Passing.{no_values, value_there, values_seen}
use Rattle.gtp_v2.proofs.list_rows.values_silent.Goals as goal

pub loop-view-init : goal.loop-view-init
loop-view-init g c =
    passes_first (one_at g.T.IeValue.KIND c.args.instance) no_values (all_of g.T.IeValue.KIND c.args.instance c.args.elements.now)
    c.into_iter-view-iterator.result (c.into_iter-view-iterator.ensures.into_iter_gives ∙ c.all-view-items.ensures
    ∙ ap (λ (kind : ℕ). all_of kind c.args.instance c.args.elements.now) c.KIND.ensures)

pub loop-view-preserved : goal.loop-view-preserved
loop-view-preserved g c =
    value_there g.T.IeValue.KIND c.args.instance c.loop-view.silent (element_of c.in-Some.view) c.next.new.self c.loop-view.view-iterator _
    (values_at g.T.IeValue.KIND c.args.instance (all_of g.T.IeValue.KIND c.args.instance c.args.elements.now)) c.in-Some.ensures.steps
    c.in-Some-read_value.ensures c.loop-view.invariant

pub returns : goal.returns
returns g c =
    values_seen g.T.IeValue.KIND c.args.instance c.loop-view.silent c.loop-view.view-iterator
    (all_of g.T.IeValue.KIND c.args.instance c.args.elements.now) c.in-None.ensures.steps.0 c.loop-view.invariant
