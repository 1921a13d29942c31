use Rattle.std.proofs.Common.{◌≡◌, ◌+◌, ℕ}
use Rattle.serde_json.specs.Find.{get_item}
use Rattle.gtp_scenario.specs.Trees.{items_view}
use Rattle.gtp_scenario.proofs.reason.item_at.Given as goal

-- what is left begins at this place
abbrev pub invariant-loop : goal.invariant-loop
invariant-loop l = (k : ℕ) → get_item (l.counter + k) (items_view l.initial.values) ≡ get_item k (items_view l.values)
