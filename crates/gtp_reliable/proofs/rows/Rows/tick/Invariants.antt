use Rattle.std.proofs.Common.{◌≡◌, ◌-◌, length}
use Rattle.gtp_reliable.specs.Rows.{ticked}
use Rattle.gtp_reliable.proofs.rows.Rows.tick.Given as goal

abbrev pub invariant-loop-turn : goal.invariant-loop-turn
invariant-loop-turn g l = record {
  rows : ticked l.t3 l.n3 l.now (l._turn-end - l._turn) l.self.rows ≡ ticked l.t3 l.n3 l.now (length l.fn.self.rows) l.fn.self.rows;
  room : l.self.has_room ≡ l.fn.self.has_room;
}
