-- The node that a gateway stands for.
use Rattle.std.specs.Prelude.{ℕ, List, map}
use Rattle.std.specs.FinMap.{from_entries}
use Rattle.gtp_values.specs.FiniteMap.{FiniteMap}
use Rattle.gtp_values.specs.declared.address.Endpoint.{Endpoint}
use Rattle.gtp_tables.specs.Drawn.{drawn_up_to}
use Rattle.gtp_reliable.specs.Waiting.{Waiting}
use Rattle.gtp_reliable.specs.Held.{HeldPair}
use Rattle.gtp_machine.specs.Node.{PendingRequest, Arrival, Held, Node}
use Rattle.gtp_gateway.specs.declared.command.purpose.Purpose.{Purpose}
use Rattle.gtp_gateway.specs.declared.parts.Parts.{Parts}
use Rattle.gtp_gateway.specs.command.Purpose.{session_of, bearer_of}
use Rattle.gtp_gateway.specs.messages.Spelled.{message_in, messages_in}

-- a request that waits, under its sequence number
abbrev pub pending_of : Waiting Purpose → ℕ × PendingRequest
pending_of w = (w.seq, record { session = session_of w.purpose; bearer = bearer_of w.purpose; request = message_in w.octets })

-- requests that wait, by sequence number
abbrev pub pending_in : List (Waiting Purpose) → FiniteMap PendingRequest
pending_in waiting = from_entries (map pending_of waiting)

-- a request, from where it came
abbrev pub arrival_of : Endpoint → List ℕ → Arrival
arrival_of source octets = record { source = source; octets = octets }

-- an answer that is held, with its request
abbrev pub held_of : HeldPair → Held
held_of p = record { request = arrival_of p.source p.request; answer = messages_in p.answer }

-- the node that a gateway with these parts stands for
abbrev pub node_of : Parts → Node
node_of g =
    record {
      config = g.config.config;
      counter = g.draws.counter;
      drawn = drawn_up_to g.draws.counter g.draws.count;
      known = g.peer;
      sessions = g.sessions.table;
      bearers = g.bearers;
      pending = pending_in g.pending.waiting;
      held = map held_of g.held.pairs;
    }
