use Rattle.std.proofs.Common.{◌≡◌, ◌++◌, take}
use Rattle.hex.specs.Hex.{encode_lower}
use Rattle.gtp_lines.proofs.text.put_hex.Given as goal

abbrev pub invariant-loop-octet : goal.invariant-loop-octet
invariant-loop-octet l = l.out.items ≡ l.fn.out.items ++ encode_lower (take l.octet-index l.octets)
