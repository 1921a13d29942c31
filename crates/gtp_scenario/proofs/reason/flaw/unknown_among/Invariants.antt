use Rattle.std.proofs.Common.{◌≡◌, ℕ, List, map, length, true}
use Rattle.json.specs.Json.{Members}
use Rattle.json.specs.Find.{InMembers}
use Rattle.gtp_scenario.specs.Keys.{key_text}
use Rattle.gtp_scenario.proofs.Objects.{has_name}
use Rattle.gtp_scenario.proofs.Trees.{keys_among}
use Rattle.gtp_scenario.proofs.reason.flaw.unknown_among.Given as goal

-- what is left decides, and is a part of the members
abbrev pub invariant-loop-text : goal.invariant-loop-text
invariant-loop-text l =
    (ms : Members) → InMembers l.initial.members ms
    → (rest : Members) × InMembers l.members rest × (keys_among (map key_text l.keys) rest ≡ keys_among (map key_text l.keys) ms)
    × ((text : List ℕ) → has_name text rest ≡ true → has_name text ms ≡ true)

abbrev pub decreases-loop-text : goal.decreases-loop-text
decreases-loop-text l = length l.members
