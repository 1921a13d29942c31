use Rattle.std.proofs.Common.{◌≡◌, ◌≤◌, ◌-◌, ℕ, List, length, map, option_map}
use Rattle.gtp_scenario.specs.Past.{DeliversFirst}
use Rattle.gtp_scenario.specs.Named.{delivery}
use Rattle.gtp_scenario.specs.Views.{entry, past}
use Rattle.gtp_scenario.proofs.items.deliver_all.Given as goal

-- those that were delivered so far, each as the first
abbrev pub invariant-loop-number : goal.invariant-loop-number
invariant-loop-number l =
    record {
      numbers : List ℕ;
      delivered : DeliversFirst (past l.fn.past) numbers (past l.past);
      entries : map entry l.entries.items ≡ map (delivery (option_map (λ s. s.now) l.expect)) numbers;
      few : length numbers ≤ l.room;
    }

abbrev pub decreases-loop-number : goal.decreases-loop-number
decreases-loop-number l = l.room - length l.entries.items
