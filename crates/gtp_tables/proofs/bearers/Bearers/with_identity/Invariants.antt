use Rattle.gtp_tables.proofs.Defaults.{left_from}
use Rattle.gtp_tables.proofs.BySession.{IsAheadOf}
use Rattle.gtp_tables.proofs.bearers.Bearers.with_identity.Given as goal

abbrev pub invariant-loop-next : goal.invariant-loop-next
invariant-loop-next l = IsAheadOf l.self l.session l.identity l.next

abbrev pub decreases-loop-next : goal.decreases-loop-next
decreases-loop-next l = left_from l.next
