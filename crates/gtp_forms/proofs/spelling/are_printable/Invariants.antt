use Rattle.std.proofs.Common.{◌≡◌, drop}
use Rattle.gtp_forms.specs.Text.{are_printable}
use Rattle.gtp_forms.proofs.spelling.are_printable.Given as goal

abbrev pub invariant-loop-octet : goal.invariant-loop-octet
invariant-loop-octet l = are_printable (drop l.octet-index l.octets) ≡ are_printable l.octets
