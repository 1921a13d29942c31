use Rattle.std.proofs.Common.{◌∙◌}
use Rattle.gtp_machine.specs.Config.{Template}
use Rattle.gtp_scenario.specs.Heads.{configured}
use Rattle.gtp_scenario.proofs.Templates.{template_put}
use Rattle.gtp_scenario.proofs.head.put_template.Goals as goal

pub returns : goal.returns
returns c =
    let t : Template = record { access_point = c.args.access_point.now; tft = c.args.tft.now; qos = c.qos.result } in
    c.ok.ensures.value ∙ (template_put t c.args.config c.with_template.result c.with_template.ensures.ok c.with_template.ensures.value
    ∙ (λ i. configured c.args.config (record { access_point = c.args.access_point.now; tft = c.args.tft.now; qos = c.qos.ensures i })))
