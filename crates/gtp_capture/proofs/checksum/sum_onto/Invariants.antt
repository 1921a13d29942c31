use Rattle.std.proofs.Common.{◌≡◌, ◌+◌, ◌*◌, ◌≤◌, length, drop}
use Rattle.gtp_capture.specs.reading.Writing.{ones_onto}
use Rattle.gtp_capture.proofs.checksum.sum_onto.Given as goal

abbrev pub invariant-loop-left : goal.invariant-loop-left
invariant-loop-left l = record {
  within : 2 * l.left ≤ length l.octets + 1;
  same : l.sum ≡ ones_onto (drop (2 * l.left) l.octets) l.further;
}

abbrev pub decreases-loop-left : goal.decreases-loop-left
decreases-loop-left l = l.left
