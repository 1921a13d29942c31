use Rattle.std.proofs.Common.{◌≡◌, ◌++◌, drop, true, string_bytes}
use Rattle.gtp_forms.specs.Text.{label_text, are_labels}
use Rattle.gtp_forms.proofs.spelling.push_labels.Given as goal

-- the text so far and that of what is left are all, and what is left are labels
abbrev pub invariant-loop-octet : goal.invariant-loop-octet
invariant-loop-octet l = record {
  text : string_bytes l.text ++ label_text l.left (drop l.octet-index l.octets) ≡ string_bytes l.fn.text ++ label_text l.size l.octets;
  labels : are_labels l.left (drop l.octet-index l.octets) ≡ true;
}
