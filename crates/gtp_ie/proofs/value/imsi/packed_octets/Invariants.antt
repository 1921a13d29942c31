use Rattle.std.proofs.Common.{◌≡◌, ◌≤◌, ◌+◌, ◌*◌, ◌++◌, length}
use Rattle.std.specs.Prelude.{All, ◌<◌}
use Rattle.gtp_ie.specs.Digits.{packed}
use Rattle.gtp_ie.proofs.value.imsi.packed_octets.Given as goal

abbrev pub invariant-loop-left : goal.invariant-loop-left
invariant-loop-left l = record {
  text : l.octets ++ packed l.left ≡ packed l.digits;
  room : 2 * length l.octets + length l.left ≤ 15;
  decimal : All (λ digit. digit < 10) l.left;
}

abbrev pub decreases-loop-left : goal.decreases-loop-left
decreases-loop-left l = length l.left
