use Rattle.std.proofs.Common.{ap, ap₂, codes, ◌≡◌, ◌∙◌}
use Rattle.std.proofs.lemmas.Result.{IfOk-weaker}
use Rattle.clap.specs.Simple.{app_of_fields}
use Rattle.clap.specs.Words.{app_of, new_app, with_rule}
use Rattle.gtp_commands.proofs.command.replay_command.Goals as goal

pub returns-clause-words : goal.returns-clause-words
returns-clause-words c =
    let begun : app_of c.after_help-command.result ≡ new_app (codes "replay") = ap app_of_fields c.after_help-command.ensures ∙ (ap app_of_fields c.about.ensures ∙ c.new.ensures.app) in
    let diagram = c.in_ok-command.ensures.words ∙ ap₂ with_rule begun c.flag.ensures.rule in
    let svg = c.in_ok-command-2.ensures.words ∙ ap₂ with_rule diagram c.flag-2.ensures.rule in
    let pcap = c.in_ok-command-3.ensures.words ∙ ap₂ with_rule svg c.flag-3.ensures.rule in
    let json = c.in_ok-command-4.ensures.words ∙ ap₂ with_rule pcap c.flag-4.ensures.rule in
    IfOk-weaker c.taking-5.result _ _ (λ r h. h ∙ ap₂ with_rule json c.word.ensures.rule) c.taking-5.ensures.words
