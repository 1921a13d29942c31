use Rattle.gtp_ie.specs.Form.{bearer_context}
use Rattle.gtp_ie.specs.Element.{all_of}
use Rattle.gtp_v2.specs.Table.{Groups, is_silent}
use Rattle.gtp_v2.specs.reading.Rows.{group_at, groups_at}
use Rattle.gtp_v2.proofs.Checks.{Passes}
use Rattle.gtp_v2.proofs.grouped_rows.contexts_silent.Given as goal

abbrev pub invariant-loop-view : goal.invariant-loop-view
invariant-loop-view g l =
    Passes (group_at l.accepting g.C.Context.rows) (λ groups. is_silent (Groups groups)) l.silent l.view-iterator
    (groups_at l.accepting g.C.Context.rows (all_of bearer_context 0 l.elements))
