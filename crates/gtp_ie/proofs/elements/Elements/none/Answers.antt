use Rattle.std.proofs.Common.{[], refl, ap, arith}
use Rattle.gtp_ie.specs.Element.{list_of}
use Rattle.gtp_ie.specs.reading.View.{stop_of}
use Rattle.gtp_ie.proofs.Walk.{walk_ends}
use Rattle.gtp_ie.proofs.elements.Elements.none.Goals as goal

pub invariant_of-result : goal.invariant_of-result
invariant_of-result c = record { whole = ap stop_of (walk_ends 0 [] refl); place = omega arith }

pub returns : goal.returns
returns c = ap list_of (walk_ends 0 [] refl)
