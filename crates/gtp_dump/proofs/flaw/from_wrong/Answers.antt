use Rattle.std.proofs.Common.{◌≡◌, ◌∙◌, true, ap, refl, sym, rules}
use Rattle.std.specs.Char.{is_ascii_hexdigit}
use Rattle.gtp_dump.specs.Flaw.{wrong, from_wrong}
use Rattle.gtp_dump.proofs.Walk.{at_digit, onto}
use Rattle.gtp_dump.proofs.flaw.from_wrong.Goals as goal

pub loop-first-init : goal.loop-first-init
loop-first-init c = record { wrong = onto wrong c.args.text.now _ c.from_digit-rest.ensures.value }

pub loop-first-preserved : goal.loop-first-preserved
loop-first-preserved c =
    let after = c.in-Some.after.now in
    let is_hex : is_ascii_hexdigit c.in-Some.first.now ≡ true = search rules in
    let passes : wrong c.in-Some.first.now after (from_wrong after) ≡ from_wrong after = rw is_hex refl in
    record { wrong = onto wrong after _ c.from_digit-rest-in-Some.ensures.value ∙ (sym passes ∙ (sym (ap (at_digit wrong) c.in-Some.ensures.cases.0) ∙ c.loop-first.invariant.wrong)) }
