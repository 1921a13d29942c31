use Rattle.std.proofs.Common.{take}
use Rattle.gtp_tables.specs.Free.{V4, V6}
use Rattle.gtp_tables.proofs.Lowest.{AreMarked}
use Rattle.gtp_tables.proofs.pool.Pools.places_in_windows.Given as goal

abbrev pub invariant-loop-session : goal.invariant-loop-session
invariant-loop-session l =
    AreMarked l.restarted V4 l.fn.self (take l.session-index l.sessions) l.v4 × AreMarked l.restarted V6 l.fn.self (take l.session-index l.sessions) l.v6
