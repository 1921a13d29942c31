use Rattle.std.proofs.Common.{◌≡◌, ◌+◌, ℕ, length}
use Rattle.serde_json.specs.Find.{get_item}
use Rattle.gtp_scenario.specs.reading.Faultless.{are_templates}
use Rattle.gtp_scenario.specs.Trees.{items_view}
use Rattle.gtp_scenario.proofs.reason.template.first_template.Given as goal

-- what is left begins at this place, and decides
abbrev pub invariant-loop-value : goal.invariant-loop-value
invariant-loop-value l = record {
  at : (k : ℕ) → get_item (l.place + k) (items_view l.initial.values) ≡ get_item k (items_view l.values);
  rest : are_templates l.names (items_view l.values) ≡ are_templates l.names (items_view l.initial.values);
}

abbrev pub decreases-loop-value : goal.decreases-loop-value
decreases-loop-value l = length l.values
