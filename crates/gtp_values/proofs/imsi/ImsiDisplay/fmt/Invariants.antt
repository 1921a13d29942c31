use Rattle.std.proofs.Common.{take}
use Rattle.std.specs.Fmt.{HasWritten, IsPlainFormatter}
use Rattle.gtp_values.specs.Imsi.{digits_text}
use Rattle.gtp_values.proofs.imsi.ImsiDisplay.fmt.Given as goal

abbrev pub invariant-loop-digit : goal.invariant-loop-digit
invariant-loop-digit g l =
    IsPlainFormatter l.initial.f → HasWritten g.W.Write.write_str_gives l.initial.f (digits_text (take l.digit-index l.digit-items)) l.f
