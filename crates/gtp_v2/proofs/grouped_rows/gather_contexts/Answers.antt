use Rattle.std.proofs.Common.{map, ap, rules, ◌∙◌}
use Rattle.std.specs.Prelude.{IsTrue}
use Rattle.gtp_ie.specs.Form.{bearer_context}
use Rattle.gtp_ie.specs.View.{element_of}
use Rattle.gtp_ie.specs.Element.{all_of}
use Rattle.gtp_v2.specs.reading.Rows.{group_at, groups_at}
use Rattle.gtp_v2.proofs.Loop.{gathers_first, gathers_given, is_done}
use Rattle.gtp_v2.proofs.grouped_rows.gather_contexts.Goals as goal

pub loop-view-init : goal.loop-view-init
loop-view-init g c =
    gathers_first (group_at c.args.accepting g.C.Context.rows) (map g.C.Context.values c.new-contexts.result.items)
    (all_of bearer_context 0 c.args.elements.now) c.into_iter-view-iterator.result (ap (map g.C.Context.values) c.new-contexts.ensures.items)
    (c.into_iter-view-iterator.ensures.into_iter_gives ∙ c.all-view-items.ensures)

pub loop-view-preserved : goal.loop-view-preserved
loop-view-preserved g c =
    let read : IsTrue c.append_read.result = search rules in
    let one = c.append_read.ensures read in
    gathers_given g.C.Context.values (group_at c.args.accepting g.C.Context.rows) c.loop-view.contexts.items c.append_read.new.contexts.items
    (element_of c.in-Some.view) c.next.new.self c.loop-view.view-iterator
    (groups_at c.args.accepting g.C.Context.rows (all_of bearer_context 0 c.args.elements.now))
    c.in-Some.ensures.steps one.0 one.1 c.loop-view.invariant

pub returns : goal.returns
returns g c =
    rw c.of.ensures
    (is_done (group_at c.args.accepting g.C.Context.rows) (map g.C.Context.values c.loop-view.contexts.items) c.loop-view.view-iterator
    (groups_at c.args.accepting g.C.Context.rows (all_of bearer_context 0 c.args.elements.now)) c.in-None.ensures.steps.0 c.loop-view.invariant)
