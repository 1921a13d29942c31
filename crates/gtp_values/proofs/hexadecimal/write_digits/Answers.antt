use Rattle.std.proofs.Common.{rules, ◌<◌, sym, subst}
use Rattle.std.specs.Str.{IsAscii, IsUtf8}
use Rattle.std.proofs.lemmas.List.Elements.{All-from_recursion}
use Rattle.std.proofs.lemmas.Str.{IsUtf8-from_ascii}
use Rattle.std.proofs.lemmas.Str.Ascii.{IsAscii-from_all}
use Rattle.hex.specs.Hex.{encode_lower, lower_digits}
use Rattle.hex.proofs.HexLemmas.{IsAscii-encode_with}
use Rattle.gtp_values.proofs.hexadecimal.write_digits.Goals as goal

digits_are_ascii : IsAscii lower_digits
digits_are_ascii = IsAscii-from_all lower_digits (All-from_recursion (λ b. b < 128) lower_digits (search rules))

-- hexadecimal digits are text
pub unreachable-requires-in_default-from_utf8 : goal.unreachable-requires-in_default-from_utf8
unreachable-requires-in_default-from_utf8 g c =
    let text = subst IsUtf8 (sym c.in-Ok.ensures.written) (IsUtf8-from_ascii (encode_lower c.args.octets.now) (IsAscii-encode_with lower_digits c.args.octets.now digits_are_ascii)) in
    c.in_default-from_utf8.ensures.cases.0 text
