use Rattle.std.proofs.Common.{◌≡◌, drop}
use Rattle.gtp_forms.specs.Text.{are_zero}
use Rattle.gtp_forms.proofs.numbers.are_zero.Given as goal

abbrev pub invariant-loop-octet : goal.invariant-loop-octet
invariant-loop-octet l = are_zero (drop l.octet-index l.octets) ≡ are_zero l.octets
