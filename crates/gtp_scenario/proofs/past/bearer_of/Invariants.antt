use Rattle.std.proofs.Common.{◌≡◌, map}
use Rattle.std.specs.FinMap.{entries}
use Rattle.std.specs.List.{filter, last_or}
use Rattle.gtp_scenario.specs.Past.{is_bearer_of, last_where}
use Rattle.gtp_scenario.proofs.past.bearer_of.Given as goal

-- the last of those that are left, or else what was found so far
abbrev pub invariant-loop-own : goal.invariant-loop-own
invariant-loop-own l =
    last_or l.found (map (λ e. e.0) (filter (λ e. is_bearer_of l.session l.identity e.1) l.own-iterator))
    ≡ last_where (is_bearer_of l.session l.identity) (entries l.gateway.node.bearers)
