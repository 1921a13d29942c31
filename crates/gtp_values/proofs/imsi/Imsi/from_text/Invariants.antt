use Rattle.std.proofs.Common.{◌≡◌, map, take}
use Rattle.gtp_values.specs.Imsi.{value_of_digit}
use Rattle.gtp_values.proofs.imsi.Imsi.from_text.Given as goal

abbrev pub invariant-loop-octet : goal.invariant-loop-octet
invariant-loop-octet l = l.digits ≡ map value_of_digit (take l.octet-index l.octets)
