use Rattle.std.proofs.Common.{rules}
use Rattle.gtp_commands.specs.Flags.{ChoosesKinds}
use Rattle.gtp_commands.proofs.Choosing.{on_any_error, unsaid}
use Rattle.gtp_commands.proofs.flags.capture_asked.Goals as goal

pub returns-in_err-kinds_of-clause-only : goal.returns-in_err-kinds_of-clause-only
returns-in_err-kinds_of-clause-only c =
    on_any_error c.from_residual.result (λ capture is.
    unsaid (λ w. w.now) (ChoosesKinds c.args.names) _ c.get_str.result capture.frames.filter.kinds (search rules)
    (λ none. let ok = c.kinds_of.ensures.none none in let err = c.in_err-kinds_of.was in absurd cc)
    c.in_err-kinds_of.ensures.only is.kinds)

pub returns-in_err-capture_form_asked-clause-only : goal.returns-in_err-capture_form_asked-clause-only
returns-in_err-capture_form_asked-clause-only c =
    on_any_error c.from_residual-in_err-capture_form_asked.result (λ capture is. c.in_err-capture_form_asked.ensures.only capture.frames.form is.form)
