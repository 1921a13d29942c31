use Rattle.std.proofs.Common.{map}
use Rattle.gtp_ie.specs.Element.{all_of}
use Rattle.gtp_v2.specs.reading.Rows.{one_at, values_at}
use Rattle.gtp_v2.proofs.Loop.{Gathers}
use Rattle.gtp_v2.proofs.list_rows.several.Given as goal

abbrev pub invariant-loop-view : goal.invariant-loop-view
invariant-loop-view g l =
    Gathers (one_at g.T.IeValue.KIND l.instance) (map g.T.IeValue.value l.values.items) l.view-iterator
    (values_at g.T.IeValue.KIND l.instance (all_of g.T.IeValue.KIND l.instance l.elements))
