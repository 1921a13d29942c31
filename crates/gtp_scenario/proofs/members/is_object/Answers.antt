use Rattle.std.proofs.Common.{sym, ap, ◌∙◌}
use Rattle.std.specs.Prelude.{is_some}
use Rattle.serde_json.specs.Find.{as_object}
use Rattle.gtp_scenario.specs.Trees.{view}
use Rattle.gtp_scenario.proofs.Objects.{object_found}
use Rattle.gtp_scenario.proofs.members.is_object.Goals as goal

pub returns-in-Some : goal.returns-in-Some
returns-in-Some c =
    ap is_some (sym c.in-Some.is) ∙ object_found c.value.inside.element c.members.result c.value.invariant c.members.ensures ∙ ap (λ ts. is_some (as_object (view ts))) c.value.view_is

pub returns-in-None : goal.returns-in-None
returns-in-None c =
    ap is_some (sym c.in-None.is) ∙ object_found c.value.inside.element c.members.result c.value.invariant c.members.ensures ∙ ap (λ ts. is_some (as_object (view ts))) c.value.view_is
