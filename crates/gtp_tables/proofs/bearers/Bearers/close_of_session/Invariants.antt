use Rattle.std.proofs.Common.{◌≡◌, true}
use Rattle.std.specs.Prelude.{IfSome}
use Rattle.std.specs.FinMap.{get}
use Rattle.gtp_tables.specs.BySession.{is_of}
use Rattle.gtp_tables.proofs.Defaults.{left_from}
use Rattle.gtp_tables.proofs.BySession.{IsSoFar, closed}
use Rattle.gtp_tables.proofs.bearers.Bearers.close_of_session.Given as goal

abbrev pub invariant-loop-next : goal.invariant-loop-next
invariant-loop-next l = record {
  so_far : IsSoFar (closed l.session) l.fn.self l.self l.next;
  has : IfSome l.next (λ teid. is_of l.session (get l.self teid) ≡ true);
}

abbrev pub decreases-loop-next : goal.decreases-loop-next
decreases-loop-next l = left_from l.next
