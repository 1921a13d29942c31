use Rattle.std.proofs.Common.{◌≡◌, ◌++◌, take, drop}
use Rattle.gtp_reliable.proofs.rows.Rows.close_up.Given as goal

abbrev pub invariant-loop-turn : goal.invariant-loop-turn
invariant-loop-turn g l = record {
  rows : l.self.rows ≡ drop l._turn l.fn.self.rows ++ take l._turn l.fn.self.rows;
  room : l.self.has_room ≡ l.fn.self.has_room;
}
