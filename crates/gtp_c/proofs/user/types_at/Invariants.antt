use Rattle.std.proofs.Common.{◌-◌, ℕ, List, drop, length}
use Rattle.gtp_c.specs.Sizes.{HasTypes}
use Rattle.gtp_c.proofs.user.types_at.Given as goal

-- the first list of all is the first from here on
abbrev pub invariant-loop-at : goal.invariant-loop-at
invariant-loop-at l = (types : List ℕ) → HasTypes types (drop l.start l.octets) → HasTypes types (drop l.at l.octets)

abbrev pub decreases-loop-at : goal.decreases-loop-at
decreases-loop-at l = length l.octets - l.at
