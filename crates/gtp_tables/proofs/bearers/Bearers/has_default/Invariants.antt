use Rattle.std.specs.Prelude.{IfSome}
use Rattle.gtp_tables.specs.Index.{HasRemote, HasDefault}
use Rattle.gtp_tables.proofs.Defaults.{IsAhead, left_from}
use Rattle.gtp_tables.proofs.bearers.Bearers.has_default.Given as goal

abbrev pub invariant-loop-next : goal.invariant-loop-next
invariant-loop-next l = record {
  has : IfSome l.next (λ teid. HasRemote l.self l.remote teid);
  ahead : (d : HasDefault l.self l.remote l.session) → IsAhead l.next d.teid;
}

abbrev pub decreases-loop-next : goal.decreases-loop-next
decreases-loop-next l = left_from l.next
