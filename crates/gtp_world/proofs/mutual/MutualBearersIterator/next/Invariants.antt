use Rattle.std.proofs.Common.{◌≡◌, length}
use Rattle.gtp_world.specs.Naming.{bearer_pairs}
use Rattle.gtp_world.proofs.mutual.MutualBearersIterator.next.Given as goal

abbrev pub invariant-loop-serving : goal.invariant-loop-serving
invariant-loop-serving l = bearer_pairs l.self-inside.others.now.node.bearers l.self-inside.bearers ≡ l.fn.self

abbrev pub decreases-loop-serving : goal.decreases-loop-serving
decreases-loop-serving l = length l.self-inside.bearers
