use Rattle.std.proofs.Common.{ap, ap₂, codes, ◌≡◌, ◌∙◌}
use Rattle.std.proofs.lemmas.Result.{IfOk-weaker}
use Rattle.clap.specs.Simple.{app_of_fields}
use Rattle.clap.specs.Words.{app_of, new_app, with_rule}
use Rattle.gtp_commands.specs.Words.{with_form_words, with_filter_words, with_port_words}
use Rattle.gtp_commands.proofs.command.capture_command.Goals as goal

pub returns-clause-words : goal.returns-clause-words
returns-clause-words c =
    let begun : app_of c.about-command.result ≡ new_app (codes "capture") = ap app_of_fields c.about-command.ensures ∙ c.new.ensures.app in
    let brief = c.in_ok-command.ensures.words ∙ ap₂ with_rule begun c.flag.ensures.rule in
    let forms = c.in_ok-command-2.ensures.words ∙ ap with_form_words brief in
    let filters = c.in_ok-command-3.ensures.words ∙ ap with_filter_words forms in
    let ports = c.in_ok-command-4.ensures.words ∙ ap with_port_words filters in
    IfOk-weaker c.taking-2.result _ _ (λ r h. h ∙ ap₂ with_rule ports c.word.ensures.rule) c.taking-2.ensures.words
