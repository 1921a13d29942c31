use Rattle.std.proofs.Common.{◌∙◌, ap}
use Rattle.serde_json.specs.Find.{as_number}
use Rattle.gtp_scenario.specs.Trees.{view}
use Rattle.gtp_scenario.proofs.Trees.{number_found}
use Rattle.gtp_scenario.proofs.members.as_number.Goals as goal

pub returns : goal.returns
returns c = number_found c.value.inside.element c.as_number.result c.value.invariant c.as_number.ensures ∙ ap (λ ts. as_number (view ts)) c.value.view_is
