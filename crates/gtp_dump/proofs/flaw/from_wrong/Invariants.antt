use Rattle.std.proofs.Common.{◌≡◌, length}
use Rattle.gtp_dump.specs.Flaw.{wrong, from_wrong}
use Rattle.gtp_dump.proofs.Walk.{at_digit}
use Rattle.gtp_dump.proofs.flaw.from_wrong.Given as goal

abbrev pub invariant-loop-first : goal.invariant-loop-first
invariant-loop-first l = record {
  wrong : at_digit wrong l.rest ≡ from_wrong l.text;
}

abbrev pub decreases-loop-first : goal.decreases-loop-first
decreases-loop-first l = length l.rest
