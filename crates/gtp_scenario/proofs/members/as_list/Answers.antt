use Rattle.std.proofs.Common.{option_map, sym, ap, ◌∙◌}
use Rattle.serde_json.specs.Find.{as_array}
use Rattle.gtp_scenario.specs.Trees.{view, items_view}
use Rattle.gtp_scenario.proofs.Trees.{list_found}
use Rattle.gtp_scenario.proofs.members.as_list.Goals as goal

pub returns-in_err-items : goal.returns-in_err-items
returns-in_err-items c =
    ap (option_map items_view) (c.from_residual.ensures ∙ sym c.in_err-items.was)
    ∙ list_found c.value.inside.element c.items.result c.value.invariant c.items.ensures ∙ ap (λ ts. as_array (view ts)) c.value.view_is

pub invariant_of-result : goal.invariant_of-result
invariant_of-result c = let found = c.in_ok-items.ensures c.value.invariant.0 c.value.invariant.1 in (found.0, found.2)

pub returns : goal.returns
returns c =
    ap (option_map items_view) (sym c.in_ok-items.was)
    ∙ list_found c.value.inside.element c.items.result c.value.invariant c.items.ensures ∙ ap (λ ts. as_array (view ts)) c.value.view_is
