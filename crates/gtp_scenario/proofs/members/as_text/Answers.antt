use Rattle.std.proofs.Common.{◌∙◌, ap}
use Rattle.serde_json.specs.Find.{as_str}
use Rattle.gtp_scenario.specs.Trees.{view}
use Rattle.gtp_scenario.proofs.Trees.{text_found}
use Rattle.gtp_scenario.proofs.members.as_text.Goals as goal

pub returns : goal.returns
returns c = text_found c.value.inside.element _ c.value.invariant c.as_str.ensures ∙ ap (λ ts. as_str (view ts)) c.value.view_is
