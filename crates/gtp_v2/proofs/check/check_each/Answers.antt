use Rattle.std.proofs.Common.{◌∙◌}
use Rattle.std.proofs.lemmas.Result.{err_from_is_err_and}
use Rattle.gtp_ie.specs.View.{element_of}
use Rattle.gtp_ie.specs.Element.{all_of}
use Rattle.gtp_v2.specs.reading.Rows.{group_at, groups_at}
use Rattle.gtp_v2.proofs.Checks.{passes_first, group_on, group_stop, groups_end, none_of}
use Rattle.gtp_v2.proofs.check.check_each.Goals as goal

pub loop-view-init : goal.loop-view-init
loop-view-init c =
    passes_first (group_at c.args.accepting c.args.rows.now) none_of (all_of c.args.kind c.args.instance c.args.elements.now)
    c.into_iter-view-iterator.result (c.into_iter-view-iterator.ensures.into_iter_gives ∙ c.all-view-items.ensures)

pub returns-in_err-check_group : goal.returns-in_err-check_group
returns-in_err-check_group c =
    let p = err_from_is_err_and c.from_residual.result c.from_residual.ensures.1 in
    rw (p.1, p.2)
    (group_stop c.args.accepting c.args.rows.now c.loop-view.silent c.in_err-check_group.field-0.0 (element_of c.in-Some.view) c.next.new.self
    c.loop-view.view-iterator (all_of c.args.kind c.args.instance c.args.elements.now) c.in-Some.ensures.steps c.in_err-check_group.ensures
    c.loop-view.invariant)

pub loop-view-preserved : goal.loop-view-preserved
loop-view-preserved c =
    group_on c.args.accepting c.args.rows.now c.loop-view.silent (element_of c.in-Some.view) c.next.new.self c.loop-view.view-iterator
    (groups_at c.args.accepting c.args.rows.now (all_of c.args.kind c.args.instance c.args.elements.now)) c.in-Some.ensures.steps
    c.in_ok-check_group.ensures c.loop-view.invariant

pub returns : goal.returns
returns c =
    groups_end c.args.accepting c.args.rows.now c.loop-view.silent c.loop-view.view-iterator (all_of c.args.kind c.args.instance c.args.elements.now)
    c.in-None.ensures.steps.0 c.loop-view.invariant
