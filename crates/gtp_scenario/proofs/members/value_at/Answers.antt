use Rattle.std.proofs.Common.{option_map, sym, ap, ◌∙◌}
use Rattle.serde_json.specs.Find.{get}
use Rattle.gtp_scenario.specs.Trees.{view}
use Rattle.gtp_scenario.proofs.Trees.{value_found}
use Rattle.gtp_scenario.proofs.members.value_at.Goals as goal

pub returns-in_err-get : goal.returns-in_err-get
returns-in_err-get c =
    let key = c.args.key.now in
    ap (option_map view) (c.from_residual.ensures ∙ sym c.in_err-get.was)
    ∙ value_found key c.value.inside.element c.get.result c.value.invariant c.get.ensures ∙ ap (λ ts. get key (view ts)) c.value.view_is

pub invariant_of-result : goal.invariant_of-result
invariant_of-result c = let found = c.in_ok-get.ensures c.value.invariant.0 c.value.invariant.1 in (found.0, found.2)

pub returns : goal.returns
returns c =
    let key = c.args.key.now in
    ap (option_map view) (sym c.in_ok-get.was)
    ∙ value_found key c.value.inside.element c.get.result c.value.invariant c.get.ensures ∙ ap (λ ts. get key (view ts)) c.value.view_is
