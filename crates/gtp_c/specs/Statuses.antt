-- Which status a call answers. Of several reasons to do nothing the first in this order is told: no gateway behind the handle, a bad value, too much that waits,
-- no memory, and last a rule of the machine.
use Rattle.std.specs.Prelude.{◌≡◌, ◌⊎◌, ◌↔◌, ◌<◌, ◌+◌, ℕ, List, [], ◌∷◌, Option, Some, None, IsSome, IsSomeAnd}
use Rattle.std.specs.VecDeque.{deque_len, deque_capacity}
use Rattle.gtp_values.specs.declared.address.Endpoint.{Endpoint}
use Rattle.gtp_machine.specs.Input.{Command, Commanded, refused}
use Rattle.gtp_machine.specs.Message.{Plane}
use Rattle.gtp_machine.specs.Step.{Step as MachineStep}
use Rattle.gtp_machine.specs.declared.outcome.Refusal.{Refusal}
use Rattle.gtp_gateway.specs.receive.Received.{MayRunOut}
use Rattle.gtp_gateway.specs.Tick.{IsIdle}
use Rattle.gtp_c.specs.Common.{IsOneOf}
use Rattle.gtp_c.specs.Ends.{endpoint_at, plane_at}
use Rattle.gtp_c.specs.declared.gateway_with_queue.GatewayWithQueue.{GatewayWithQueue}
use Rattle.gtp_c.specs.declared.ends.End.{End}

-- more than 4,096 datagrams wait
abbrev pub IsFull : GatewayWithQueue → Type 0
IsFull d = 4096 < deque_len d.waiting

-- A call on a handle, whose values may be bad: it answers 7, 1 and 3 exactly for their reasons, and else one of the statuses that it has.
pub record HasStatus (known : List ℕ) (Bad : Type 0) (behind : Option GatewayWithQueue) (status : ℕ) : Type 0 where
  pub empty : (status ≡ 7) ↔ (behind ≡ None)
  pub bad : (status ≡ 1) ↔ (IsSome behind × Bad)
  pub full : (status ≡ 3) ↔ (IsSomeAnd behind IsFull × ¬ Bad)
  pub among : IsOneOf known status

-- a datagram is received, or a tick passes
abbrev pub step_statuses : List ℕ
step_statuses = 0 ∷ 1 ∷ 2 ∷ 3 ∷ 7 ∷ []

-- a command
abbrev pub command_statuses : List ℕ
command_statuses = 0 ∷ 1 ∷ 2 ∷ 3 ∷ 6 ∷ 7 ∷ []

-- ---- when memory may run out

-- there is no room for so many datagrams more, and memory is asked for
abbrev pub LacksRoom : ℕ → GatewayWithQueue → Type 0
LacksRoom count d = deque_capacity d.waiting < deque_len d.waiting + count

-- by a datagram: something is to be sent, or a context is to be opened
abbrev pub ReceiveMayRunOut : Plane → Endpoint → List ℕ → GatewayWithQueue → Type 0
ReceiveMayRunOut plane source octets d = LacksRoom 1 d ⊎ MayRunOut plane source octets d.gateway

-- the same, from C's number of the plane and C's end
pub record ComingMayRunOut (number : ℕ) (source : End) (octets : List ℕ) (d : GatewayWithQueue) : Type 0 where
  pub plane : Plane
  pub is_plane : plane_at plane ≡ number
  pub from : Endpoint
  pub is_from : endpoint_at source ≡ Some from
  pub may : ReceiveMayRunOut plane from octets d

-- by a tick: a request or an answer is due
abbrev pub TickMayRunOut : GatewayWithQueue → Type 0
TickMayRunOut d = LacksRoom 256 d ⊎ ¬ (IsIdle d.gateway.queues)

-- by a command: no rule of the machine refuses it
abbrev pub CommandMayRunOut : Command → GatewayWithQueue → Type 0
CommandMayRunOut command d =
    LacksRoom 1 d ⊎ ((why : Refusal) → MachineStep d.gateway.role d.gateway.node (Commanded command) (refused d.gateway.node why) → ⊥)

-- ---- bad values

-- no plane has this number, or the source is no address
abbrev pub IsBadArrival : ℕ → End → Type 0
IsBadArrival number source = (1 < number) ⊎ (endpoint_at source ≡ None)
