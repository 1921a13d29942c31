use Rattle.std.proofs.Common.{◌∙◌}
use Rattle.std.proofs.lemmas.Result.{err_from_is_err_and}
use Rattle.gtp_ie.specs.View.{element_of}
use Rattle.gtp_ie.specs.Element.{all_of}
use Rattle.gtp_v2.specs.reading.Rows.{one_at, values_at}
use Rattle.gtp_v2.proofs.Checks.{passes_first, value_on, value_stop, values_end, said_of}
use Rattle.gtp_v2.proofs.check.check_values.Goals as goal

pub loop-view-init : goal.loop-view-init
loop-view-init c =
    passes_first (one_at c.args.kind c.args.instance) said_of (all_of c.args.kind c.args.instance c.args.elements.now)
    c.into_iter-view-iterator.result (c.into_iter-view-iterator.ensures.into_iter_gives ∙ c.all-view-items.ensures)

pub returns-in_err-now : goal.returns-in_err-now
returns-in_err-now c =
    let p = err_from_is_err_and c.from_residual.result c.from_residual.ensures.1 in
    rw (p.1, p.2) (value_stop c.args.kind c.args.instance c.loop-view.said c.in_err-now.field-0.0 (element_of c.in-Some.view) c.next.new.self
    c.loop-view.view-iterator (all_of c.args.kind c.args.instance c.args.elements.now) c.in-Some.ensures.steps c.in_err-now.ensures
    c.loop-view.invariant)

pub loop-view-preserved : goal.loop-view-preserved
loop-view-preserved c =
    value_on c.args.kind c.args.instance c.loop-view.said c.one_more-said.result c.in_ok-now.now (element_of c.in-Some.view) c.next.new.self
    c.loop-view.view-iterator (values_at c.args.kind c.args.instance (all_of c.args.kind c.args.instance c.args.elements.now)) c.in-Some.ensures.steps
    c.in_ok-now.ensures c.one_more-said.ensures c.loop-view.invariant

pub returns : goal.returns
returns c = values_end c.args.kind c.args.instance c.loop-view.said c.loop-view.view-iterator (all_of c.args.kind c.args.instance c.args.elements.now) c.in-None.ensures.steps.0 c.loop-view.invariant
