use Rattle.std.proofs.Common.{◌≡◌, ◌++◌}
use Rattle.std.specs.Vec.Iter.{into_iter_items}
use Rattle.gtp_gateway.specs.Tick.{arrivals_of}
use Rattle.gtp_world.proofs.remembered.Remembered.of.Given as goal

-- those so far and those that are left are all
abbrev pub invariant-loop-request : goal.invariant-loop-request
invariant-loop-request l = l.all.list ++ arrivals_of (into_iter_items l.request-iterator) ≡ arrivals_of l.fn.requests.items
