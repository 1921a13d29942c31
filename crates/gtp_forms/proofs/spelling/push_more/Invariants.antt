use Rattle.std.proofs.Common.{◌≡◌, ◌++◌, drop, string_bytes}
use Rattle.gtp_forms.specs.Text.{dotted_more}
use Rattle.gtp_forms.proofs.spelling.push_more.Given as goal

-- the text so far and that of what is left are all
abbrev pub invariant-loop-octet : goal.invariant-loop-octet
invariant-loop-octet l = string_bytes l.text ++ dotted_more (drop l.octet-index l.octets) ≡ string_bytes l.fn.text ++ dotted_more l.octets
