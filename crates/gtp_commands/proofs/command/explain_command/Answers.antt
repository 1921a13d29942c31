use Rattle.std.proofs.Common.{ap, ap₂, codes, ◌≡◌, ◌∙◌}
use Rattle.std.proofs.lemmas.Result.{IfOk-weaker}
use Rattle.clap.specs.Simple.{app_of_fields}
use Rattle.clap.specs.Words.{app_of, new_app, with_rule}
use Rattle.gtp_commands.proofs.command.explain_command.Goals as goal

pub returns-clause-words : goal.returns-clause-words
returns-clause-words c =
    let begun : app_of c.after_help-command.result ≡ new_app (codes "explain") = ap app_of_fields c.after_help-command.ensures ∙ (ap app_of_fields c.about.ensures ∙ c.new.ensures.app) in
    let code = c.in_ok-command.ensures.words ∙ ap₂ with_rule begun c.word.ensures.rule in
    IfOk-weaker c.taking-2.result _ _ (λ r h. h ∙ ap₂ with_rule code c.word-2.ensures.rule) c.taking-2.ensures.words
