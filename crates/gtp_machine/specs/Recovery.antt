-- What a gateway does with the peer's restart counter (TS 29.274, 7.1.1; TS 23.007, 18): it is heard before the message is taken.
use Rattle.std.specs.Prelude.{◌≡◌, ℕ, Option, Some, None, false}
use Rattle.std.specs.FinMap.{get}
use Rattle.gtp_values.specs.Counter.{age_of}
use Rattle.gtp_values.specs.declared.counter.Age.{Age}
use Rattle.gtp_values.specs.declared.counter.Age.TheVariants.{Same, Later, Earlier}
use Rattle.gtp_machine.specs.Node.{Node}
use Rattle.gtp_machine.specs.Input.{Effect, dropped, OldCounter}
use Rattle.gtp_machine.specs.Removal.{without, is_opened}

-- The peer has restarted: all active and closing sessions go, and pending ones stay with their requests.
abbrev pub peer_restarted : Node → ℕ → Node
peer_restarted node counter = without (λ t. is_opened (get node.sessions t)) (λ t. false) (record node { known = Some counter })

-- the same counter changes nothing, a later one is a restart, and with an earlier one the message is dropped
abbrev pub Judges : (Node → Effect → Type 0) → Node → ℕ → Age → Effect → Type 0
Judges Takes old counter Same e = Takes old e
Judges Takes old counter Later e = Takes (peer_restarted old counter) e
Judges Takes old counter Earlier e = e ≡ dropped old OldCounter

-- the first counter that is heard is kept
abbrev pub Weighs : (Node → Effect → Type 0) → Node → ℕ → Option ℕ → Effect → Type 0
Weighs Takes old counter None e = Takes (record old { known = Some counter }) e
Weighs Takes old counter (Some known) e = Judges Takes old counter (age_of known counter) e

-- the counter, where it is a later one
abbrev pub later_only : Age → ℕ → Option ℕ
later_only Same counter = None
later_only Later counter = Some counter
later_only Earlier counter = None

-- the counter, where it is later than the one that was known
abbrev pub learned_by : Option ℕ → ℕ → Option ℕ
learned_by None counter = None
learned_by (Some known) counter = later_only (age_of known counter) counter

-- First the counter is heard, where the message has one, and then the message is taken.
abbrev pub Hears : (Node → Effect → Type 0) → Node → Option ℕ → Effect → Type 0
Hears Takes old None e = Takes old e
Hears Takes old (Some counter) e =
    (taken : Effect) × Weighs Takes old counter old.known taken ×
    (e ≡ record taken { out = record taken.out { heard = Some counter; learned = learned_by old.known counter } })

-- the gateway once it has heard a counter of this age
abbrev pub heard_at_age : Node → ℕ → Age → Node
heard_at_age node counter Same = node
heard_at_age node counter Later = peer_restarted node counter
heard_at_age node counter Earlier = node

abbrev pub heard_from : Node → ℕ → Option ℕ → Node
heard_from node counter None = record node { known = Some counter }
heard_from node counter (Some known) = heard_at_age node counter (age_of known counter)

-- the gateway once it has heard this counter
abbrev pub heard_by : Node → ℕ → Node
heard_by node counter = heard_from node counter node.known
