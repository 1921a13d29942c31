use Rattle.std.proofs.Common.{◌≡◌, ◌+◌, ◌≤◌, length}
use Rattle.gtp_scenario.specs.Heads.{access_points_in}
use Rattle.gtp_scenario.specs.Json.{count_of}
use Rattle.gtp_scenario.specs.Trees.{items_view}
use Rattle.gtp_scenario.proofs.Lists.{some_with_front}
use Rattle.gtp_scenario.proofs.head.access_points_in.Given as goal

-- the access points so far, and what is left
abbrev pub invariant-loop-value : goal.invariant-loop-value
invariant-loop-value l = record {
  read : some_with_front l.access_points.items (access_points_in (items_view l.values)) ≡ access_points_in (items_view l.initial.values);
  count : length l.access_points.items + count_of (items_view l.values) ≡ count_of (items_view l.initial.values);
  few : length l.access_points.items ≤ 16;
}

abbrev pub decreases-loop-value : goal.decreases-loop-value
decreases-loop-value l = length l.values
