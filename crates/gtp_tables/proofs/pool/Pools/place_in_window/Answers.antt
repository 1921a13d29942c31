use Rattle.std.proofs.Common.{arith}
use Rattle.gtp_tables.proofs.Lowest.{none_marked}
use Rattle.gtp_tables.proofs.pool.Pools.place_in_window.Goals as goal

pub loop-session-init : goal.loop-session-init
loop-session-init c = λ p lt. none_marked p (omega (arith, lt, c.requires))
