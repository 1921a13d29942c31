use Rattle.std.proofs.Common.{◌≡◌, List, ℕ, sym, ◌∙◌, ap, subst}
use Rattle.gtp_machine.specs.Config.{template_for}
use Rattle.gtp_gateway.specs.Settings.{Settings, template_by, templates_in}
use Rattle.gtp_gateway.proofs.Templates.{same_in_order}
use Rattle.gtp_gateway.proofs.config.Config.template_for.Goals as goal

pub returns : goal.returns
returns c =
    let name = c.args.access_point.now in
    let places = c.self.inside.templates.places in
    subst (λ (names : List (List ℕ)). template_by name c.template_at.result ≡ template_for name (templates_in names places)) c.as_slice.ensures.value c.template_at.ensures
    ∙ (sym (same_in_order name c.self.inside.access_points.items places)
    ∙ ap (λ (s : Settings). template_for name s.config.templates) c.self.view_is)
