use Rattle.std.proofs.Common.{◌≡◌, ◌+◌, ◌*◌, ap, sym, ◌∙◌, arith}
use Rattle.std.specs.Char.{digit_value}
use Rattle.std.specs.Str.Parse.{digits_value, digits_value_after}
use Rattle.gtp_dump.proofs.Offsets.{grows, below}
use Rattle.gtp_dump.proofs.row.value_of.Goals as goal

pub overflow_mul-value : goal.overflow_mul-value
overflow_mul-value c =
    let total : digits_value_after 16 (c.loop-first.value * 16 + digit_value c.in-Some.first.now) c.in-Some.after.now ≡ digits_value 16 c.args.digits.now =
    sym (ap (digits_value_after 16 c.loop-first.value) c.in-Some.ensures.cases.0) ∙ c.loop-first.invariant.value in
    omega (arith, total, grows (c.loop-first.value * 16 + digit_value c.in-Some.first.now) c.in-Some.after.now, below c.args.digits.now c.requires.hexadecimal c.requires.few)

pub overflow_add-value : goal.overflow_add-value
overflow_add-value c =
    let total : digits_value_after 16 (c.loop-first.value * 16 + digit_value c.in-Some.first.now) c.in-Some.after.now ≡ digits_value 16 c.args.digits.now =
    sym (ap (digits_value_after 16 c.loop-first.value) c.in-Some.ensures.cases.0) ∙ c.loop-first.invariant.value in
    omega (arith, total, grows (c.loop-first.value * 16 + digit_value c.in-Some.first.now) c.in-Some.after.now, below c.args.digits.now c.requires.hexadecimal c.requires.few, c.from.ensures)

pub returns-clause-bound : goal.returns-clause-bound
returns-clause-bound c = omega (arith, grows c.loop-first.value c.loop-first.rest.now, c.loop-first.invariant.value, below c.args.digits.now c.requires.hexadecimal c.requires.few)
