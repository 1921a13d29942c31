use Rattle.std.proofs.Common.{map, take, length}
use Rattle.gtp_gateway.specs.Settings.{addresses_of}
use Rattle.gtp_replay.specs.Svg.{svg_head, height_of}
use Rattle.gtp_replay.specs.RowViews.{row_of}
use Rattle.gtp_replay.proofs.Pictures.{DrawnSoFar}
use Rattle.gtp_replay.proofs.picture.pictured.Given as goal

-- the groups so far
abbrev pub invariant-loop-index : goal.invariant-loop-index
invariant-loop-index l = DrawnSoFar (svg_head (addresses_of l.fn.serving) (addresses_of l.fn.packet) (height_of (length l.rows))) (map row_of (take l.index l.rows)) l.text.items
