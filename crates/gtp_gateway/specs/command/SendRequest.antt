-- A request that is begun.
use Rattle.std.specs.Prelude.{ℕ, List, [], ◌∷◌, ◌++◌}
use Rattle.std.specs.FinMap.{insert}
use Rattle.gtp_values.specs.declared.address.Endpoint.{Endpoint}
use Rattle.gtp_reliable.specs.Waiting.{just_sent}
use Rattle.gtp_reliable.specs.Pending.{number_after}
use Rattle.gtp_machine.specs.Message.{Message}
use Rattle.gtp_machine.specs.Node.{PendingRequest, Node}
use Rattle.gtp_gateway.specs.declared.tables.change.Change.{Change}
use Rattle.gtp_gateway.specs.declared.command.purpose.Purpose.{Purpose}
use Rattle.gtp_gateway.specs.tables.Change.{changed_by}
use Rattle.gtp_gateway.specs.command.Purpose.{session_of, bearer_of}
use Rattle.gtp_gateway.specs.GatewayState.{Queues}

-- a request that waits, with what it is about
abbrev pub about : Purpose → Message → PendingRequest
about purpose request = record { session = session_of purpose; bearer = bearer_of purpose; request = request }

-- the node after a change, where the request waits
abbrev pub asking : Change → ℕ → Purpose → Message → Node → Node
asking change number purpose request old = record (changed_by change old) { pending = insert old.pending number (about purpose request) }

-- what ticks go by, once a request of this number was sent there
abbrev pub after_begun : ℕ → Purpose → Endpoint → List ℕ → Queues → Queues
after_begun number purpose to octets old = record old { next = number_after number; waiting = old.waiting ++ (just_sent number to octets purpose ∷ []) }
