use Rattle.gtp_ie.specs.Element.{all_of}
use Rattle.gtp_v2.specs.Table.{Plain, is_silent}
use Rattle.gtp_v2.specs.reading.Rows.{one_at, values_at}
use Rattle.gtp_v2.proofs.Checks.{Passes}
use Rattle.gtp_v2.proofs.list_rows.values_silent.Given as goal

abbrev pub invariant-loop-view : goal.invariant-loop-view
invariant-loop-view g l =
    Passes (one_at g.T.IeValue.KIND l.instance) (λ values. is_silent (Plain values)) l.silent l.view-iterator
    (values_at g.T.IeValue.KIND l.instance (all_of g.T.IeValue.KIND l.instance l.elements))
