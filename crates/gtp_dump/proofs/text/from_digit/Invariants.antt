use Rattle.std.proofs.Common.{◌≡◌, ◌≤◌, length}
use Rattle.gtp_dump.specs.Text.{from_digit}
use Rattle.gtp_dump.proofs.text.from_digit.Given as goal

abbrev pub invariant-loop-first : goal.invariant-loop-first
invariant-loop-first l = record {
  digit : from_digit l.rest ≡ from_digit l.text;
  within : length l.rest ≤ length l.text;
}

abbrev pub decreases-loop-first : goal.decreases-loop-first
decreases-loop-first l = length l.rest
