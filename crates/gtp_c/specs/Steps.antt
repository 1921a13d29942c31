-- What happens to a gateway and to the datagrams that wait to be taken.
use Rattle.std.specs.Prelude.{◌≡◌, ℕ, List, [], ◌∷◌, ◌++◌, ◌<◌, ◌≤◌, IsSome, drop, length, Option, Some, None, slice_index_or, option_to_list}
use Rattle.std.specs.VecDeque.{deque_len, deque_capacity}
use Rattle.gtp_values.specs.declared.address.Endpoint.{Endpoint}
use Rattle.gtp_machine.specs.Input.{Command, Mark_end, Send_user, Commanded, refused}
use Rattle.gtp_machine.specs.Message.{Plane, Control, User}
use Rattle.gtp_machine.specs.Step.{Step as MachineStep}
use Rattle.gtp_machine.specs.declared.outcome.Refusal.{Refusal}
use Rattle.gtp_gateway.specs.command.Command.{IsCarriedOut, IsTimed}
use Rattle.gtp_gateway.specs.receive.Choosing.{ChoosesLowest}
use Rattle.gtp_gateway.specs.receive.Received.{IsReceived, QueuesAfterReceive}
use Rattle.gtp_gateway.specs.Tick.{IsTicked, QueuesAfterTick}
use Rattle.gtp_gateway.specs.declared.sent.Begun.{Begun}
use Rattle.gtp_gateway.specs.declared.sent.Sent.{Sent}
use Rattle.gtp_gateway.specs.user.Accepted.{Accepted}
use Rattle.gtp_gateway.specs.declared.step.Step.{Step}
use Rattle.gtp_gateway.specs.declared.tick.Ticked.{Ticked}
use Rattle.gtp_c.specs.Common.{AreLast}
use Rattle.gtp_c.specs.Ends.{endpoint_at, plane_at}
use Rattle.gtp_c.specs.Told.{step_told, begun_told, refused_told, tick_told}
use Rattle.gtp_c.specs.Writing.{StandsAt}
use Rattle.gtp_c.specs.declared.gateway_with_queue.GatewayWithQueue.{GatewayWithQueue}
use Rattle.gtp_c.specs.declared.ends.End.{End}
use Rattle.gtp_c.specs.declared.datagram.Datagram.{Datagram}
use Rattle.gtp_c.specs.declared.told.Told.{Told}

-- there is room for as many datagrams as before
abbrev pub KeepsRoom : GatewayWithQueue → GatewayWithQueue → Type 0
KeepsRoom old new = deque_capacity old.waiting ≤ deque_capacity new.waiting

-- nothing happened to the gateway, nor to what waits
abbrev pub Keeps : GatewayWithQueue → GatewayWithQueue → Type 0
Keeps old new = (new.gateway ≡ old.gateway) × (new.waiting.items ≡ old.waiting.items) × KeepsRoom old new

-- the packet that was accepted is the last octets of the datagram
abbrev pub IsPayload : Option Accepted → List ℕ → Type 0
IsPayload None octets = Unit {0}
IsPayload (Some accepted) octets = AreLast accepted.payload octets

-- the same on the user plane; no packet comes on the other
abbrev pub IsPayloadOf : Plane → Option Accepted → List ℕ → Type 0
IsPayloadOf Control accepted octets = Unit {0}
IsPayloadOf User accepted octets = IsPayload accepted octets

-- a datagram was received: that is a step of the machine, what it sends waits behind all that waited, and what it came to is told; an accepted packet
-- changes nothing
pub record HasReceived (plane : Plane) (source : Endpoint) (octets : List ℕ) (told : Told) (old new : GatewayWithQueue) : Type 0 where
  pub step : Step
  pub received : IsReceived plane source octets old.gateway step new.gateway
  pub queues : QueuesAfterReceive plane source octets step old.gateway new.gateway
  pub choices : ChoosesLowest step.report.made old.gateway.role old.gateway.node new.gateway.node
  pub payload : IsPayloadOf plane step.accepted octets
  pub packet : IsSome step.accepted → new.gateway ≡ old.gateway
  pub waiting : new.waiting.items ≡ old.waiting.items ++ option_to_list step.out
  pub room : KeepsRoom old new
  pub tells : told ≡ step_told step (deque_len new.waiting)

-- the same, from C's number of the plane and C's end
pub record Comes (number : ℕ) (source : End) (octets : List ℕ) (told : Told) (old new : GatewayWithQueue) : Type 0 where
  pub plane : Plane
  pub is_plane : plane_at plane ≡ number
  pub from : Endpoint
  pub is_from : endpoint_at source ≡ Some from
  pub received : HasReceived plane from octets told old new

-- the number of what a command comes to: a request is sent, or a packet or an End Marker
abbrev pub begun_number : Command → ℕ
begun_number (Mark_end bearer) = 2
begun_number (Send_user bearer payload) = 2
begun_number command = 1

-- a packet or an End Marker is sent for no context of its own, so there is no TEID of one
abbrev pub IsUntold : Command → Begun → Type 0
IsUntold (Mark_end bearer) begun = begun.teid ≡ None
IsUntold (Send_user bearer payload) begun = begun.teid ≡ None
IsUntold command begun = Unit {0}

-- a command was carried out: that is a step of the machine, what it sends waits behind all that waited, and what it came to is told
pub record HasBegun (command : Command) (told : Told) (old new : GatewayWithQueue) : Type 0 where
  pub begun : Begun
  pub done : IsCarriedOut command old.gateway begun new.gateway
  pub timed : IsTimed command old.gateway begun new.gateway
  pub untold : IsUntold command begun
  pub waiting : new.waiting.items ≡ old.waiting.items ++ begun.out ∷ []
  pub room : KeepsRoom old new
  pub tells : told ≡ begun_told (begun_number command) begun (deque_len new.waiting)

-- a command was refused, as the machine refuses it, and why is told
pub record IsRefused (command : Command) (told : Told) (old new : GatewayWithQueue) : Type 0 where
  pub why : Refusal
  pub refuses : MachineStep old.gateway.role old.gateway.node (Commanded command) (refused old.gateway.node why)
  pub tells : told ≡ refused_told why (deque_len new.waiting)

-- a tick passed: that is a step of the machine, what is sent again, at most 256 datagrams, waits behind all that waited, and what it came to is told
pub record HasTicked (told : Told) (old new : GatewayWithQueue) : Type 0 where
  pub ticked : Ticked
  pub is_ticked : IsTicked old.gateway ticked new.gateway
  pub counts : QueuesAfterTick old.gateway new.gateway
  pub few : length ticked.resent.items ≤ 256
  pub few_forgotten : length ticked.forgotten.items ≤ 4096
  pub waiting : new.waiting.items ≡ old.waiting.items ++ ticked.resent.items
  pub room : KeepsRoom old new
  pub tells : told ≡ tick_told (length ticked.gave_up.items) (length ticked.forgotten.items) (deque_len new.waiting)

-- no datagram waits
abbrev pub NothingWaits : GatewayWithQueue → Type 0
NothingWaits d = d.waiting.items ≡ []

-- the datagram that waited longest waits no more
abbrev pub HasTaken : GatewayWithQueue → GatewayWithQueue → Type 0
HasTaken old new = (new.gateway ≡ old.gateway) × (new.waiting.items ≡ drop 1 old.waiting.items) × KeepsRoom old new

-- C's datagram says what this one is: its plane, its ends and its length
pub record Says (datagram : Datagram) (sent : Sent) : Type 0 where
  pub plane : datagram.plane ≡ plane_at sent.plane
  pub from : endpoint_at datagram.from ≡ Some sent.from
  pub to : endpoint_at datagram.to ≡ Some sent.to
  pub len : datagram.len ≡ length sent.octets.items

-- the datagram that waited longest is told
pub record Shows (old : GatewayWithQueue) (datagram : Datagram) (sent : Sent) : Type 0 where
  pub waited : 0 < deque_len old.waiting
  pub first : sent ≡ slice_index_or old.waiting.items 0 sent
  pub says : Says datagram sent

-- the datagram that waited longest stands at the front of a buffer, with all behind it as it was
pub record Hands (before after : List ℕ) (datagram : Datagram) (old new : GatewayWithQueue) : Type 0 where
  pub sent : Sent
  pub shows : Shows old datagram sent
  pub written : StandsAt 0 sent.octets.items before after
  pub taken : HasTaken old new

-- the datagram that waited longest has more octets than there is room for
pub record IsTooSmall (room : ℕ) (datagram : Datagram) (old new : GatewayWithQueue) : Type 0 where
  pub sent : Sent
  pub shows : Shows old datagram sent
  pub small : room < length sent.octets.items
