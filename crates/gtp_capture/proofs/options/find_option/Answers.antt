use Rattle.std.proofs.Common.{length, refl, sym, ap, ◌∙◌, arith}
use Rattle.gtp_capture.specs.Options.{first_option, option_in}
use Rattle.gtp_capture.proofs.Choices.{other_option}
use Rattle.gtp_capture.proofs.options.find_option.Goals as goal

pub loop-rest-init : goal.loop-rest-init
unfolding option_in
loop-rest-init c = record { same = (length c.args.octets.now, omega arith, refl) }

pub loop-rest-preserved : goal.loop-rest-preserved
loop-rest-preserved c =
    let same = c.loop-rest.invariant.same in
    let more =
    other_option same.0 c.args.order c.args.code c.args.size c.loop-rest.rest.now (sym c.loop-rest-test.ensures.value) (sym c.if-is_option.ensures)
    (omega (arith, c.loop-rest-test.ensures.room refl)) same.1 in
    record { same = (more.0, omega (arith, more.1, ap length c.behind-rest.ensures), ap (first_option more.0 c.args.order c.args.code c.args.size) c.behind-rest.ensures ∙ sym more.2 ∙ same.2) }
