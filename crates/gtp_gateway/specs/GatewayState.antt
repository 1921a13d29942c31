-- A gateway as contracts see it.
use Rattle.std.specs.Prelude.{◌≡◌, ℕ, List, [], map, length}
use Rattle.gtp_tables.specs.Drawn.{drawn_up_to}
use Rattle.gtp_reliable.specs.Waiting.{Waiting}
use Rattle.gtp_reliable.specs.Held.{HeldPair}
use Rattle.gtp_machine.specs.declared.role.Role.{Role}
use Rattle.gtp_machine.specs.Node.{Node, fresh_node}
use Rattle.gtp_machine.specs.Sound.{IsSound}
use Rattle.gtp_gateway.specs.declared.config.Timers.{Timers}
use Rattle.gtp_gateway.specs.declared.command.purpose.Purpose.{Purpose}
use Rattle.gtp_gateway.specs.declared.parts.Parts.{Parts}
use Rattle.gtp_gateway.specs.Settings.{Settings}
use Rattle.gtp_gateway.specs.Parts.{pending_in, held_of, node_of}

-- what ticks and sequence numbers go by: the times, the number from which the next free one is sought, the requests that wait, in order of beginning, and
-- the answers that are held, in order of keeping, each with how long it waits or is held
pub record Queues : Type 0 where
  pub timers : Timers
  pub next : ℕ
  pub waiting : List (Waiting Purpose)
  pub held : List HeldPair

-- which gateway it is, the node of the machine that it stands for, and what its ticks go by
pub record GatewayState : Type 0 where
  pub role : Role
  pub node : Node
  pub queues : Queues

abbrev pub queues_of : Parts → Queues
queues_of g = record { timers = record { t3 = g.pending.t3; n3 = g.pending.n3; hold = g.held.hold }; next = g.pending.next; waiting = g.pending.waiting; held = g.held.pairs }

abbrev pub state_of : Parts → GatewayState
state_of g = record { role = g.role; node = node_of g; queues = queues_of g }

-- a gateway that has just started with this restart counter: its first request has the number 0
abbrev pub starting : Role → Settings → ℕ → GatewayState
starting role settings counter = record { role = role; node = fresh_node settings.config counter; queues = record { timers = settings.timers; next = 0; waiting = []; held = [] } }

-- what the node keeps is what ticks and draws go by: the requests that wait, the answers that are held, and as many TEIDs, one after the other, as were drawn
pub record NodeMatchesQueues (s : GatewayState) : Type 0 where
  pub pending : s.node.pending ≡ pending_in s.queues.waiting
  pub held : s.node.held ≡ map held_of s.queues.held
  pub drawn : s.node.drawn ≡ drawn_up_to s.node.counter (length s.node.drawn)

-- the gateway is sound: what a step needs stands
abbrev pub IsSoundState : GatewayState → Type 0
IsSoundState s = ∥ IsSound s.role s.node ∥₁
