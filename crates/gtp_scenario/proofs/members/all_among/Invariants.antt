use Rattle.std.proofs.Common.{◌≡◌, map, length}
use Rattle.json.specs.Json.{Members}
use Rattle.json.specs.Find.{InMembers}
use Rattle.gtp_scenario.proofs.Trees.{keys_among}
use Rattle.gtp_scenario.proofs.members.all_among.Given as goal

-- what is left decides
abbrev pub invariant-loop-key : goal.invariant-loop-key
invariant-loop-key l =
    (ms : Members) → InMembers l.initial.members ms
    → (rest : Members) × InMembers l.members rest × (keys_among (map (λ k. k.now) l.keys) rest ≡ keys_among (map (λ k. k.now) l.keys) ms)

abbrev pub decreases-loop-key : goal.decreases-loop-key
decreases-loop-key l = length l.members
