use Rattle.std.proofs.Common.{option_map, sym, ap, ◌∙◌}
use Rattle.gtp_scenario.specs.Trees.{view, items_view, unless_empty}
use Rattle.gtp_scenario.proofs.Trees.{next_found}
use Rattle.gtp_scenario.proofs.members.Items.next.Goals as goal

pub returns-in_err-next-clause-value : goal.returns-in_err-next-clause-value
returns-in_err-next-clause-value c =
    let left = c.next.new.self in
    ap items_view (sym c.self.view_is) ∙ next_found c.self.inside.items left c.next.result c.self.invariant c.next.ensures.value
    ∙ ap (λ r. unless_empty (option_map view r) (items_view left)) (c.in_err-next.was ∙ sym c.from_residual.ensures)

pub invariant_of-result : goal.invariant_of-result
invariant_of-result c = let found = c.in_ok-next.ensures.value c.self.invariant.0 c.self.invariant.1 in (found.0, found.3)

pub invariant_of-self-2 : goal.invariant_of-self-2
invariant_of-self-2 c = let found = c.in_ok-next.ensures.value c.self.invariant.0 c.self.invariant.1 in (found.1, found.4)

pub returns-clause-value : goal.returns-clause-value
returns-clause-value c =
    let left = c.next.new.self in
    ap items_view (sym c.self.view_is) ∙ next_found c.self.inside.items left c.next.result c.self.invariant c.next.ensures.value
    ∙ ap (λ r. unless_empty (option_map view r) (items_view left)) c.in_ok-next.was
