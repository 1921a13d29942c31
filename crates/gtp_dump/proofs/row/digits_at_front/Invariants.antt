use Rattle.std.proofs.Common.{◌≡◌, ◌+◌, length}
use Rattle.std.specs.List.{prefix_len}
use Rattle.gtp_dump.specs.Row.{is_hex}
use Rattle.gtp_dump.proofs.row.digits_at_front.Given as goal

abbrev pub invariant-loop-first : goal.invariant-loop-first
invariant-loop-first l = record {
  count : l.count + prefix_len is_hex l.rest ≡ prefix_len is_hex l.text;
  within : l.count + length l.rest ≡ length l.text;
}

abbrev pub decreases-loop-first : goal.decreases-loop-first
decreases-loop-first l = length l.rest
