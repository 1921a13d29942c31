use Rattle.std.proofs.Common.{◌≡◌, ◌++◌, List, ℕ, true, drop}
use Rattle.std.specs.Fmt.{HasWritten, IsPlainFormatter}
use Rattle.gtp_values.specs.Apn.{joined_from, are_labels_from}
use Rattle.gtp_values.proofs.apn.write_labels.Given as goal

-- labels are still to come, and with what is written they are the whole text
abbrev pub invariant-loop-octet : goal.invariant-loop-octet
invariant-loop-octet g l =
    (are_labels_from l.to_come (drop l.octet-index l.octets) ≡ true)
    × (IsPlainFormatter l.initial.f → (written : List ℕ) × HasWritten g.W.Write.write_str_gives l.initial.f written l.f
    × (written ++ joined_from l.to_come (drop l.octet-index l.octets) ≡ joined_from l.first l.octets))
