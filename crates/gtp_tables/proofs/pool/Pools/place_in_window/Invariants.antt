use Rattle.std.proofs.Common.{take}
use Rattle.gtp_tables.proofs.Lowest.{AreMarked}
use Rattle.gtp_tables.proofs.pool.Pools.place_in_window.Given as goal

abbrev pub invariant-loop-session : goal.invariant-loop-session
invariant-loop-session l = AreMarked l.restarted l.version l.fn.self (take l.session-index l.sessions) l.marks
