use Rattle.std.proofs.Common.{◌≡◌, length}
use Rattle.gtp_world.specs.Naming.{session_pairs}
use Rattle.gtp_world.proofs.mutual.MutualSessionsIterator.next.Given as goal

abbrev pub invariant-loop-serving : goal.invariant-loop-serving
invariant-loop-serving l = session_pairs l.self-inside.others.now.node.sessions l.self-inside.sessions ≡ l.fn.self

abbrev pub decreases-loop-serving : goal.decreases-loop-serving
decreases-loop-serving l = length l.self-inside.sessions
