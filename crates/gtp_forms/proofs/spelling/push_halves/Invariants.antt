use Rattle.std.proofs.Common.{◌≡◌, ◌++◌, drop, string_bytes}
use Rattle.std.specs.List.{flat_map}
use Rattle.gtp_forms.specs.Text.{halves}
use Rattle.gtp_forms.proofs.spelling.push_halves.Given as goal

-- the text so far and that of what is left are all
abbrev pub invariant-loop-octet : goal.invariant-loop-octet
invariant-loop-octet l = string_bytes l.text ++ flat_map halves (drop l.octet-index l.octets) ≡ string_bytes l.fn.text ++ flat_map halves l.octets
