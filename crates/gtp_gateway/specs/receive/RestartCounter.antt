-- What a gateway does with the peer's restart counter.
use Rattle.std.specs.Prelude.{◌≡◌, ℕ, ◌||◌, Bool, false, Option, Some, None}
use Rattle.std.specs.FinMap.{get}
use Rattle.gtp_values.specs.FiniteMap.{FiniteMap}
use Rattle.gtp_values.specs.Counter.{age_of}
use Rattle.gtp_values.specs.declared.counter.Counter.{Counter}
use Rattle.gtp_values.specs.declared.counter.Age.{Age}
use Rattle.gtp_values.specs.declared.counter.Age.TheVariants as ages
use Rattle.gtp_tables.specs.Contexts.{is_opened}
use Rattle.gtp_machine.specs.Node.{Session, Node}
use Rattle.gtp_machine.specs.Removal.{on}
use Rattle.gtp_machine.specs.Recovery.{peer_restarted, learned_by}
use Rattle.gtp_machine.specs.Input.{Effect}
use Rattle.gtp_gateway.specs.declared.step.Report.{Report}
use Rattle.gtp_gateway.specs.declared.receive.restart_counter.Heard.{Heard}
use Rattle.gtp_gateway.specs.declared.receive.restart_counter.Heard.TheVariants.{Nothing, First, Same, Later, Earlier}
use Rattle.gtp_gateway.specs.declared.command.purpose.Purpose.{Purpose}
use Rattle.gtp_gateway.specs.command.Purpose.{session_of, bearer_of}

-- whether a request is about a session that was opened
abbrev pub goes_with : FiniteMap Session → Purpose → Bool
goes_with sessions purpose = on (λ t. is_opened (get sessions t)) (session_of purpose) || on (λ t. false) (bearer_of purpose)

-- what a counter of this age says
abbrev pub aged : Age → Counter → Heard
aged ages.Same counter = Same counter
aged ages.Later counter = Later counter
aged ages.Earlier counter = Earlier counter

-- what a counter says, by the one that is known
abbrev pub weighed : Option ℕ → Counter → Heard
weighed None counter = First counter
weighed (Some known) counter = aged (age_of known counter.0) counter

-- what the counter of a message says, where it has one
abbrev pub weighed_by : Option Counter → Option ℕ → Heard
weighed_by None known = Nothing
weighed_by (Some counter) known = weighed known counter

-- this is what a counter, or none, says by the one that is known
abbrev pub IsHeard : Heard → Option ℕ → Type 0
IsHeard heard known = (told : Option Counter) × (heard ≡ weighed_by told known)

-- the node by which the message is judged
abbrev pub node_heard : Heard → Node → Node
node_heard Nothing node = node
node_heard (First counter) node = record node { known = Some counter.0 }
node_heard (Same counter) node = node
node_heard (Later counter) node = peer_restarted node counter.0
node_heard (Earlier counter) node = node

-- the counter is of an earlier start
abbrev pub IsEarlier : Heard → Type 0
IsEarlier (Earlier counter) = Unit {0}
IsEarlier heard = ⊥

-- the counter that was told
abbrev pub told_in : Heard → Option Counter
told_in Nothing = None
told_in (First counter) = Some counter
told_in (Same counter) = Some counter
told_in (Later counter) = Some counter
told_in (Earlier counter) = Some counter

-- the same, where it is later than the one that was known
abbrev pub later_in : Heard → Option Counter
later_in Nothing = None
later_in (First counter) = None
later_in (Same counter) = None
later_in (Later counter) = Some counter
later_in (Earlier counter) = None

-- a report, where this was heard
abbrev pub report_heard : Heard → Report → Report
report_heard heard report = record report { heard = told_in heard; restart = later_in heard }

-- an effect, where this counter was heard
abbrev pub effect_heard : ℕ → Option ℕ → Effect → Effect
effect_heard counter known e = record e { out = record e.out { heard = Some counter; learned = learned_by known counter } }
