use Rattle.std.proofs.Common.{ap, ap₂, ◌∙◌}
use Rattle.std.proofs.lemmas.Result.{IfOk-weaker}
use Rattle.clap.specs.Words.{app_of, with_rule}
use Rattle.gtp_commands.proofs.command.with_forms.Goals as goal

pub returns-clause-words : goal.returns-clause-words
returns-clause-words c =
    let all = c.in_ok-command.ensures.words ∙ ap (with_rule (app_of c.args.command)) c.flag.ensures.rule in
    let json = c.in_ok-command-2.ensures.words ∙ ap₂ with_rule all c.flag-2.ensures.rule in
    let places = c.in_ok-command-3.ensures.words ∙ ap₂ with_rule json c.flag-3.ensures.rule in
    IfOk-weaker c.taking-4.result _ _ (λ r h. h ∙ ap₂ with_rule places c.option.ensures.rule) c.taking-4.ensures.words
