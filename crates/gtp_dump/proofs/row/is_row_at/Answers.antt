use Rattle.std.proofs.Common.{sym, subst}
use Rattle.std.specs.Str.Parse.{AllDigits}
use Rattle.gtp_dump.specs.Row.{behind_prefix, from_text}
use Rattle.gtp_dump.proofs.Offsets.{front_digits}
use Rattle.gtp_dump.proofs.row.is_row_at.Goals as goal

pub value_of-requires-clause-hexadecimal : goal.value_of-requires-clause-hexadecimal
value_of-requires-clause-hexadecimal c = subst (AllDigits 16) (sym c.offset_of.ensures.digits) (front_digits (behind_prefix (from_text c.args.line.now)))
