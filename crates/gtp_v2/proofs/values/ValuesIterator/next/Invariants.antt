use Rattle.std.proofs.Common.{◌≡◌, length}
use Rattle.gtp_v2.specs.Viewed.{values_of}
use Rattle.gtp_v2.proofs.values.ValuesIterator.next.Given as goal

abbrev pub invariant-loop-element : goal.invariant-loop-element
invariant-loop-element g l = values_of g.T.IeValue.KIND l.self-inside.elements ≡ l.fn.self

abbrev pub decreases-loop-element : goal.decreases-loop-element
decreases-loop-element g l = length l.self-inside.elements
