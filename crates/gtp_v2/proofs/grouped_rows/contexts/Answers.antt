use Rattle.std.proofs.Common.{map, refl, ap, ◌∙◌}
use Rattle.std.proofs.lemmas.Result.{err_from_is_err_and}
use Rattle.gtp_ie.specs.Form.{bearer_context}
use Rattle.gtp_ie.specs.View.{element_of}
use Rattle.gtp_ie.specs.Element.{all_of}
use Rattle.gtp_v2.specs.reading.Rows.{group_at, groups_at}
use Rattle.gtp_v2.specs.reading.Outcome.{HasGroup}
use Rattle.gtp_v2.proofs.Loop.{gathers_appended, gathers_first, gathers_one, gathers_some, is_done}
use Rattle.gtp_v2.proofs.grouped_rows.contexts.Goals as goal

pub loop-view-init : goal.loop-view-init
loop-view-init g c =
    gathers_first (group_at c.args.accepting g.C.Context.rows) (map g.C.Context.values c.new-contexts.result.items)
    (all_of bearer_context 0 c.args.elements.now) c.into_iter-view-iterator.result (ap (map g.C.Context.values) c.new-contexts.ensures.items)
    (c.into_iter-view-iterator.ensures.into_iter_gives ∙ c.all-view-items.ensures)

pub append_context-requires : goal.append_context-requires
append_context-requires g c =
    gathers_one (group_at c.args.accepting g.C.Context.rows) (map g.C.Context.values c.loop-view.contexts.items) (element_of c.in-Some.view)
    c.next.new.self c.loop-view.view-iterator (groups_at c.args.accepting g.C.Context.rows (all_of bearer_context 0 c.args.elements.now))
    c.in-Some.ensures.steps c.requires c.loop-view.invariant

pub loop-view-preserved : goal.loop-view-preserved
loop-view-preserved g c =
    gathers_appended g.C.Context.values (group_at c.args.accepting g.C.Context.rows) c.loop-view.contexts.items c.append_context.new.contexts.items
    (element_of c.in-Some.view) c.next.new.self c.loop-view.view-iterator
    (groups_at c.args.accepting g.C.Context.rows (all_of bearer_context 0 c.args.elements.now))
    c.in-Some.ensures.steps c.requires c.in_ok-append_context.ensures c.loop-view.invariant

pub returns-in_err-append_context : goal.returns-in_err-append_context
returns-in_err-append_context g c =
    let p = err_from_is_err_and c.from_residual.result c.from_residual.ensures.1 in
    rw p.1 (gathers_some HasGroup (λ x xs. refl) (group_at c.args.accepting g.C.Context.rows) (map g.C.Context.values c.loop-view.contexts.items)
    (element_of c.in-Some.view) c.next.new.self c.loop-view.view-iterator
    (groups_at c.args.accepting g.C.Context.rows (all_of bearer_context 0 c.args.elements.now))
    c.in-Some.ensures.steps c.requires c.loop-view.invariant)

pub returns : goal.returns
returns g c =
    rw c.of.ensures
    (is_done (group_at c.args.accepting g.C.Context.rows) (map g.C.Context.values c.loop-view.contexts.items) c.loop-view.view-iterator
    (groups_at c.args.accepting g.C.Context.rows (all_of bearer_context 0 c.args.elements.now)) c.in-None.ensures.steps.0 c.loop-view.invariant)
