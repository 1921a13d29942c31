use Rattle.std.proofs.Common.{◌≡◌, ◌++◌, ◌+◌, length, drop}
use Rattle.gtp_values.specs.Apn.{lengths_for_dots, octets_of_text}
use Rattle.gtp_values.proofs.apn.octets_of_text.Given as goal

abbrev pub invariant-loop-index : goal.invariant-loop-index
invariant-loop-index l =
    (length l.octets ≡ l.index + 1)
    × (l.octets ++ lengths_for_dots (drop l.index l.text) ≡ octets_of_text l.text)
