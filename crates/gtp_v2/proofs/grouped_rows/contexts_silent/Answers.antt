use Rattle.std.proofs.Common.{◌∙◌}
use Rattle.gtp_ie.specs.Form.{bearer_context}
use Rattle.gtp_ie.specs.View.{element_of}
use Rattle.gtp_ie.specs.Element.{all_of}
use Rattle.gtp_v2.specs.reading.Rows.{group_at, groups_at}
use Rattle.gtp_v2.proofs.Checks.{passes_first, group_on, groups_end, none_of}
use Rattle.gtp_v2.proofs.Passing.{passes_where_read}
use Rattle.gtp_v2.proofs.grouped_rows.contexts_silent.Goals as goal

pub loop-view-init : goal.loop-view-init
loop-view-init g c =
    passes_first (group_at c.args.accepting g.C.Context.rows) none_of (all_of bearer_context 0 c.args.elements.now) c.into_iter-view-iterator.result
    (c.into_iter-view-iterator.ensures.into_iter_gives ∙ c.all-view-items.ensures)

pub loop-view-preserved : goal.loop-view-preserved
loop-view-preserved g c =
    group_on c.args.accepting g.C.Context.rows c.loop-view.silent (element_of c.in-Some.view) c.next.new.self c.loop-view.view-iterator
    (groups_at c.args.accepting g.C.Context.rows (all_of bearer_context 0 c.args.elements.now)) c.in-Some.ensures.steps
    (passes_where_read c.args.accepting g.C.Context.rows (element_of c.in-Some.view) _ c.in-Some-read_context.ensures) c.loop-view.invariant

pub returns : goal.returns
returns g c = groups_end c.args.accepting g.C.Context.rows c.loop-view.silent c.loop-view.view-iterator (all_of bearer_context 0 c.args.elements.now) c.in-None.ensures.steps.0 c.loop-view.invariant
