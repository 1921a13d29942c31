use Rattle.std.proofs.Common.{map}
use Rattle.gtp_ie.specs.Form.{bearer_context}
use Rattle.gtp_ie.specs.Element.{all_of}
use Rattle.gtp_v2.specs.reading.Rows.{group_at, groups_at}
use Rattle.gtp_v2.proofs.Loop.{Gathers}
use Rattle.gtp_v2.proofs.grouped_rows.gather_contexts.Given as goal

abbrev pub invariant-loop-view : goal.invariant-loop-view
invariant-loop-view g l =
    Gathers (group_at l.accepting g.C.Context.rows) (map g.C.Context.values l.contexts.items) l.view-iterator
    (groups_at l.accepting g.C.Context.rows (all_of bearer_context 0 l.elements))
