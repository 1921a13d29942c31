use Rattle.std.proofs.Common.{true, ap, ap₂, codes, [], ◌≡◌, ◌∙◌}
use Rattle.std.proofs.lemmas.Result.{IfOk-weaker}
use Rattle.clap.specs.Simple.{app_of_fields}
use Rattle.clap.specs.Words.{App, app_of, new_app, with_subcommand}
use Rattle.gtp_commands.specs.Words.{decode_words, capture_words, replay_words, gateway_words, node_words, gtpshow_word}
use Rattle.gtp_commands.proofs.command.command.Goals as goal

abbrev requiring : App → App
requiring a = record a { top = record a.top { subcommand_required = true } }

abbrev versioned : App → App
versioned a = record a { top = record a.top { has_version = true } }

pub returns : goal.returns
returns c =
    let named : app_of c.about.result ≡ new_app (codes "gtpshow") = ap app_of_fields c.about.ensures ∙ c.new.ensures.app in
    let dated : app_of c.after_help.result ≡ versioned (new_app (codes "gtpshow")) = ap app_of_fields c.after_help.ensures ∙ (ap app_of_fields c.version.ensures ∙ ap versioned named) in
    let above : app_of c.subcommand_required.result ≡ record { top = gtpshow_word; subs = [] } = ap app_of_fields c.subcommand_required.ensures ∙ ap requiring dated in
    let first : app_of c.in_ok-subcommand.field-0 ≡ with_subcommand (record { top = gtpshow_word; subs = [] }) decode_words.top =
    c.in_ok-subcommand.ensures.shape c.in_ok-decode_command.ensures.own
    ∙ ap₂ with_subcommand above (ap (λ (a : App). a.top) c.in_ok-decode_command.ensures.words) in
    let second : app_of c.in_ok-subcommand-2.field-0 ≡ with_subcommand (with_subcommand (record { top = gtpshow_word; subs = [] }) decode_words.top) capture_words.top =
    c.in_ok-subcommand-2.ensures.shape c.in_ok-capture_command.ensures.own
    ∙ ap₂ with_subcommand first (ap (λ (a : App). a.top) c.in_ok-capture_command.ensures.words) in
    let third : app_of c.in_ok-subcommand-3.field-0 ≡ with_subcommand
    (with_subcommand (with_subcommand (record { top = gtpshow_word; subs = [] }) decode_words.top) capture_words.top) replay_words.top =
    c.in_ok-subcommand-3.ensures.shape c.in_ok-replay_command.ensures.own ∙ ap₂ with_subcommand second
    (ap (λ (a : App). a.top) c.in_ok-replay_command.ensures.words) in
    let fourth : app_of c.in_ok-subcommand-4.field-0 ≡ with_subcommand
    (with_subcommand (with_subcommand (with_subcommand (record { top = gtpshow_word; subs = [] }) decode_words.top) capture_words.top)
    replay_words.top) gateway_words.top = c.in_ok-subcommand-4.ensures.shape c.gateway_command.ensures.own ∙ ap₂ with_subcommand third
    (ap (λ (a : App). a.top) c.gateway_command.ensures.words) in
    let fifth : app_of c.in_ok-subcommand-5.field-0 ≡ with_subcommand (with_subcommand
    (with_subcommand (with_subcommand (with_subcommand (record { top = gtpshow_word; subs = [] }) decode_words.top) capture_words.top)
    replay_words.top) gateway_words.top) node_words.top = c.in_ok-subcommand-5.ensures.shape c.node_command.ensures.own ∙ ap₂ with_subcommand fourth
    (ap (λ (a : App). a.top) c.node_command.ensures.words) in
    IfOk-weaker c.subcommand-6.result _ _
    (λ r h. h.shape c.in_ok-explain_command.ensures.own ∙ ap₂ with_subcommand fifth (ap (λ (a : App). a.top) c.in_ok-explain_command.ensures.words))
    c.subcommand-6.ensures
