use Rattle.std.proofs.Common.{refl}
use Rattle.gtp_node.proofs.places.Places.new.Goals as goal

pub invariant_of-result : goal.invariant_of-result
invariant_of-result g c key = rw (c.new.ensures.items, c.new-2.ensures.empty) refl
