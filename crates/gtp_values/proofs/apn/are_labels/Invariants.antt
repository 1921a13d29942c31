use Rattle.std.proofs.Common.{◌≡◌, drop}
use Rattle.gtp_values.specs.Apn.{are_labels_from}
use Rattle.gtp_values.proofs.apn.are_labels.Given as goal

abbrev pub invariant-loop-octet : goal.invariant-loop-octet
invariant-loop-octet l = are_labels_from l.left (drop l.octet-index l.octets) ≡ are_labels_from 0 l.octets
