-- What ticks go by, after a datagram of the control plane.
use Rattle.std.specs.Prelude.{◌≡◌, ◌≢◌, ℕ, Bool, List, filter, Option, Some, None, All}
use Rattle.gtp_values.specs.declared.address.Endpoint.{Endpoint}
use Rattle.gtp_reliable.specs.Held.{HeldPair}
use Rattle.gtp_reliable.specs.Pending.{IsNextFree}
use Rattle.gtp_reliable.specs.Waiting.{Waiting}
use Rattle.gtp_machine.specs.Config.{control_end}
use Rattle.gtp_machine.specs.Node.{Arrival}
use Rattle.gtp_gateway.specs.declared.command.purpose.Purpose.{Purpose}
use Rattle.gtp_gateway.specs.receive.Answer.{after_held}
use Rattle.gtp_gateway.specs.command.SendRequest.{after_begun}
use Rattle.gtp_gateway.specs.messages.Spelled.{message_in, AreSpelled}
use Rattle.gtp_gateway.specs.GatewayState.{Queues, GatewayState, NodeMatchesQueues}

-- the answers that are held: one more, last of all, where one was given to the request
abbrev pub held_with : Endpoint → List ℕ → Option (List ℕ) → List HeldPair → List HeldPair
held_with source request None pairs = pairs
held_with source request (Some answer) pairs = after_held source request answer pairs

-- a request that is begun: its number, what it is for, where it goes, and its octets
pub record Beginning : Type 0 where
  pub number : ℕ
  pub purpose : Purpose
  pub to : Endpoint
  pub octets : List ℕ

-- what ticks go by, where a request was begun or none
abbrev pub begun_with : Option Beginning → Queues → Queues
begun_with None old = old
begun_with (Some b) old = after_begun b.number b.purpose b.to b.octets old

-- the request has the next free number
abbrev pub IsNext : Option Beginning → Queues → Type 0
IsNext None old = Unit {0}
IsNext (Some b) old = IsNextFree old.next old.waiting b.number

-- the request goes to the peer, is kept as it is spelled, and is none of those that waited
pub record IsNewFor (b : Beginning) (old : GatewayState) : Type 0 where
  pub to : b.to ≡ control_end old.node.config.peer.control
  pub spelled : AreSpelled b.octets
  pub other : All (λ (w : Waiting Purpose). message_in w.octets ≢ message_in b.octets) old.queues.waiting

-- where a request was begun, it is a new one
abbrev pub IsNew : Option Beginning → GatewayState → Type 0
IsNew None old = Unit {0}
IsNew (Some b) old = IsNewFor b old

-- what ticks go by, of the requests that are still pending
abbrev pub waiting_on : (Waiting Purpose → Bool) → Queues → Queues
waiting_on stays old = record old { waiting = filter stays old.waiting }

-- the requests that are still pending wait on as they did, one more may wait from now on, a new one with the next free number, and an answer that was given is held from now
-- on; nothing else changes of what ticks go by; and it is what the node keeps
pub record QueuesAfterMessage (arrival : Arrival) (old new : GatewayState) : Type 0 where
  pub stays : Waiting Purpose → Bool
  pub begun : Option Beginning
  pub next : IsNext begun (waiting_on stays old.queues)
  pub new_one : IsNew begun old
  pub answer : Option (List ℕ)
  pub queues : new.queues ≡ record (begun_with begun (waiting_on stays old.queues)) { held = held_with arrival.source arrival.octets answer old.queues.held }
  pub tied : NodeMatchesQueues new
