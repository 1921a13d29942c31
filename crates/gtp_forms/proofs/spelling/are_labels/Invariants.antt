use Rattle.std.proofs.Common.{◌≡◌, drop}
use Rattle.gtp_forms.specs.Text.{are_labels}
use Rattle.gtp_forms.proofs.spelling.are_labels.Given as goal

-- all octets are labels if those that are left are
abbrev pub invariant-loop-octet : goal.invariant-loop-octet
invariant-loop-octet l = are_labels l.left (drop l.octet-index l.octets) ≡ are_labels 0 l.octets
