use Rattle.std.proofs.Common.{◌≡◌, ◌+◌, length}
use Rattle.gtp_dump.specs.Row.{column_len}
use Rattle.gtp_dump.proofs.row.column_len.Given as goal

abbrev pub invariant-loop-after : goal.invariant-loop-after
invariant-loop-after l = record {
  count : l.count + column_len l.rest ≡ column_len l.text;
  within : l.count + length l.rest ≡ length l.text;
}

abbrev pub decreases-loop-after : goal.decreases-loop-after
decreases-loop-after l = length l.rest
