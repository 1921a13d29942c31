use Rattle.std.proofs.Common.{take}
use Rattle.std.specs.List.{All}
use Rattle.gtp_v2.specs.Marks.{RowsMarked}
use Rattle.gtp_v2.proofs.presence.all_meet.Given as goal

abbrev pub invariant-loop-context : goal.invariant-loop-context
invariant-loop-context g l = All (λ c. RowsMarked l.accepting g.C.Context.rows (g.C.Context.values c)) (take l.context-index l.contexts)
