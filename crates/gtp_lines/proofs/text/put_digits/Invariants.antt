use Rattle.std.proofs.Common.{◌≡◌, ◌++◌, take}
use Rattle.gtp_values.specs.Imsi.{digits_text}
use Rattle.gtp_lines.proofs.text.put_digits.Given as goal

abbrev pub invariant-loop-digit : goal.invariant-loop-digit
invariant-loop-digit l = l.out.items ≡ l.fn.out.items ++ digits_text (take l.digit-index l.digits)
