use Rattle.std.proofs.Common.{◌≡◌}
use Rattle.std.specs.Prelude.{IfSome}
use Rattle.gtp_tables.specs.Index.{HasRemote}
use Rattle.gtp_tables.proofs.Defaults.{left_from}
use Rattle.gtp_gateway.proofs.ErrorIndications.{bearers_left, sessions_left}
use Rattle.gtp_gateway.proofs.user.error_indication.end_of_remote.Given as goal

abbrev pub invariant-loop-next : goal.invariant-loop-next
invariant-loop-next l = record {
  sessions : l.sessions ≡ record l.fn.sessions { table = sessions_left l.fn.bearers l.fn.sessions.table l.remote l.next };
  bearers : l.bearers ≡ bearers_left l.fn.bearers l.remote l.next;
  has : IfSome l.next (λ teid. HasRemote l.bearers l.remote teid);
}

abbrev pub decreases-loop-next : goal.decreases-loop-next
decreases-loop-next l = left_from l.next
