use Rattle.std.proofs.Common.{◌≡◌, length}
use Rattle.gtp_ie.specs.Digits.{digits_in, are_decimal}
use Rattle.gtp_ie.proofs.value.imsi.are_digits.Given as goal

abbrev pub invariant-loop-left : goal.invariant-loop-left
invariant-loop-left l = are_decimal (digits_in l.left) ≡ are_decimal (digits_in l.body)

abbrev pub decreases-loop-left : goal.decreases-loop-left
decreases-loop-left l = length l.left
