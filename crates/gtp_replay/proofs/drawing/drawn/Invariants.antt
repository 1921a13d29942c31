use Rattle.std.proofs.Common.{map, take}
use Rattle.gtp_replay.specs.Diagram.{IsDiagram}
use Rattle.gtp_replay.specs.RowViews.{row_of}
use Rattle.gtp_replay.proofs.drawing.drawn.Given as goal

-- the lines so far
abbrev pub invariant-loop-row : goal.invariant-loop-row
invariant-loop-row l = IsDiagram (map row_of (take l.row-index l.rows)) l.text.items
