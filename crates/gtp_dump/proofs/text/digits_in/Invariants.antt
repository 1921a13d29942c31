use Rattle.std.proofs.Common.{◌≡◌, ◌++◌, length}
use Rattle.gtp_dump.specs.Text.{taken, digits_in}
use Rattle.gtp_dump.proofs.Walk.{at_digit}
use Rattle.gtp_dump.proofs.text.digits_in.Given as goal

abbrev pub invariant-loop-first : goal.invariant-loop-first
invariant-loop-first l = record {
  digits : l.digits.items ++ at_digit taken l.rest ≡ digits_in l.text;
}

abbrev pub decreases-loop-first : goal.decreases-loop-first
decreases-loop-first l = length l.rest
