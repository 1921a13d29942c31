use Rattle.std.proofs.Common.{ap, ap₂, ◌∙◌}
use Rattle.std.proofs.lemmas.Result.{IfOk-weaker}
use Rattle.clap.specs.Words.{app_of, with_rule}
use Rattle.gtp_commands.proofs.command.with_filters.Goals as goal

pub returns-clause-words : goal.returns-clause-words
returns-clause-words c =
    let faults = c.in_ok-command.ensures.words ∙ ap (with_rule (app_of c.args.command)) c.flag.ensures.rule in
    let kind = c.in_ok-command-2.ensures.words ∙ ap₂ with_rule faults c.option.ensures.rule in
    let imsi = c.in_ok-command-3.ensures.words ∙ ap₂ with_rule kind c.option-2.ensures.rule in
    let teid = c.in_ok-command-4.ensures.words ∙ ap₂ with_rule imsi c.option-3.ensures.rule in
    IfOk-weaker c.taking-5.result _ _ (λ r h. h ∙ ap₂ with_rule teid c.option-4.ensures.rule) c.taking-5.ensures.words
