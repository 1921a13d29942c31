use Rattle.std.proofs.Common.{rules, ◌≡◌, ◌≤◌, ◌∙◌, All, ap, subst, sym, map, length, arith, ◌<◌}
use Rattle.std.proofs.lemmas.List.{take_all, length-map}
use Rattle.gtp_values.specs.Imsi.{IsDigitCode, value_of_digit}
use Rattle.gtp_values.proofs.Digits.{digits_below}
use Rattle.gtp_values.proofs.imsi.Imsi.from_text.Goals as goal

pub invariant_of-result : goal.invariant_of-result
invariant_of-result c =
    let octets = c.as_bytes-octets.result.now in
    let all : All IsDigitCode octets = search rules in
    let passed : length octets ≤ c.loop-octet.octet-index = omega (c.loop-octet-test.false, arith) in
    let whole : c.loop-octet.digits ≡ map value_of_digit octets = c.loop-octet.invariant ∙ ap (map value_of_digit) (take_all c.loop-octet.octet-index octets passed) in
    let count : length c.loop-octet.digits ≡ length octets = ap length whole ∙ length-map octets value_of_digit in
    record {
      least = subst (λ n. 6 ≤ n) (sym count) c.if-octets-lt6.false;
      most = subst (λ n. n ≤ 15) (sym count) c.if-octets-gt15.false;
      decimal = subst (All (λ digit. digit < 10)) (sym whole) (digits_below octets all);
    }

pub returns : goal.returns
returns c =
    let octets = c.as_bytes-octets.result.now in
    let passed : length octets ≤ c.loop-octet.octet-index = omega (c.loop-octet-test.false, arith) in
    let whole : c.loop-octet.digits ≡ map value_of_digit octets = c.loop-octet.invariant ∙ ap (map value_of_digit) (take_all c.loop-octet.octet-index octets passed) in
    record { ok = search rules; value = search rules; short = search rules; long = search rules; digit = search rules }
