use Rattle.std.proofs.Common.{◌≡◌, take, string_bytes}
use Rattle.gtp_values.specs.Imsi.{digits_text}
use Rattle.gtp_json.proofs.object.Output.digits.Given as goal

abbrev pub invariant-loop-digit : goal.invariant-loop-digit
invariant-loop-digit l = string_bytes l.text ≡ digits_text (take l.digit-index l.digits)
