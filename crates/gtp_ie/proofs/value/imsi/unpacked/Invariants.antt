use Rattle.std.proofs.Common.{◌≡◌, ◌≤◌, ◌++◌, length}
use Rattle.gtp_ie.specs.Digits.{digits_in}
use Rattle.gtp_ie.proofs.value.imsi.unpacked.Given as goal

abbrev pub invariant-loop-left : goal.invariant-loop-left
invariant-loop-left l = record {
  text : l.digits ++ digits_in l.left ≡ digits_in l.body;
  room : length (digits_in l.body) ≤ 15;
}

abbrev pub decreases-loop-left : goal.decreases-loop-left
decreases-loop-left l = length l.left
