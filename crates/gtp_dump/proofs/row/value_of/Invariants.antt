use Rattle.std.proofs.Common.{◌≡◌, length}
use Rattle.std.specs.Str.Parse.{AllDigits, digits_value, digits_value_after}
use Rattle.gtp_dump.proofs.row.value_of.Given as goal

abbrev pub invariant-loop-first : goal.invariant-loop-first
invariant-loop-first l = record {
  value : digits_value_after 16 l.value l.rest ≡ digits_value 16 l.digits;
  hexadecimal : AllDigits 16 l.rest;
}

abbrev pub decreases-loop-first : goal.decreases-loop-first
decreases-loop-first l = length l.rest
