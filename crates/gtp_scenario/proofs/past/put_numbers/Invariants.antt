use Rattle.std.proofs.Common.{◌≡◌, ◌++◌, ◌-◌}
use Rattle.std.specs.List.{range_with_len}
use Rattle.gtp_scenario.proofs.past.put_numbers.Given as goal

-- the numbers so far, and those that are left
abbrev pub invariant-loop-number : goal.invariant-loop-number
invariant-loop-number l = l.waiting.items ++ range_with_len l.number (l.end - l.number) ≡ l.fn.waiting.items ++ range_with_len l.first (l.end - l.first)
