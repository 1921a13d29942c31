use Rattle.std.proofs.Common.{◌≡◌, ◌++◌, drop, true, string_bytes}
use Rattle.gtp_forms.specs.Text.{are_printable}
use Rattle.gtp_forms.proofs.spelling.push_printable.Given as goal

-- the text so far and what is left are all, and that is printable
abbrev pub invariant-loop-octet : goal.invariant-loop-octet
invariant-loop-octet l = record {
  text : string_bytes l.text ++ drop l.octet-index l.octets ≡ string_bytes l.fn.text ++ l.octets;
  printable : are_printable (drop l.octet-index l.octets) ≡ true;
}
