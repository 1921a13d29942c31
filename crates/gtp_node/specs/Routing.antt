-- Which peer a datagram comes from, and what a call of a node does: it is a call of one gateway.
use Rattle.std.specs.Prelude.{◌≡◌, ◌≢◌, ℕ, ◌<◌, List, [], ◌∷◌, ◌++◌, Option, Some, None, slice_get, slice_set}
use Rattle.gtp_values.specs.declared.address.Ip.{Ip}
use Rattle.gtp_values.specs.declared.address.Endpoint.{Endpoint}
use Rattle.gtp_values.specs.declared.plane.Plane.{Plane}
use Rattle.gtp_values.specs.declared.plane.Plane.TheVariants.{Control, User}
use Rattle.gtp_machine.specs.declared.role.Role.{Role}
use Rattle.gtp_gateway.specs.Settings.{Settings}
use Rattle.gtp_gateway.specs.GatewayState.{GatewayState, starting}
use Rattle.gtp_gateway.specs.receive.Choosing.{ChoosesLowest}
use Rattle.gtp_gateway.specs.receive.Received.{IsReceived, QueuesAfterReceive, MayRunOut}
use Rattle.gtp_node.specs.declared.node.Node.{Node}
use Rattle.gtp_node.specs.declared.node.Routed.{Routed}

-- the addresses of peers on each plane, and the gateway of each, in one order
pub record Peers : Type 0 where
  pub control : List Ip
  pub user : List Ip
  pub gateways : List GatewayState

abbrev pub peers_of : Node → Peers
peers_of node = record { control = node.control; user = node.user; gateways = node.gateways.items }

abbrev pub no_peers : Peers
no_peers = record { control = []; user = []; gateways = [] }

-- the addresses on a plane
abbrev pub addresses_on : Plane → Peers → List Ip
addresses_on Control peers = peers.control
addresses_on User peers = peers.user

-- the address stands at this place, and at none before it
pub record IsFirstAt (addresses : List Ip) (address : Ip) (place : ℕ) : Type 0 where
  pub stands : slice_get addresses place ≡ Some address
  pub first : (k : ℕ) → k < place → slice_get addresses k ≢ Some address

-- it stands at none
abbrev pub NoneHas : List Ip → Ip → Type 0
NoneHas addresses address = (k : ℕ) → slice_get addresses k ≢ Some address

-- the gateway of the first peer that has the address on the plane
pub record IsGatewayOf (plane : Plane) (address : Ip) (peers : Peers) (place : ℕ) (gateway : GatewayState) : Type 0 where
  pub from : IsFirstAt (addresses_on plane peers) address place
  pub stands : slice_get peers.gateways place ≡ Some gateway

-- a further peer, behind the others, with a gateway that has just started
abbrev pub with_peer : Role → Settings → ℕ → Peers → Peers
with_peer role settings counter peers =
    record {
      control = peers.control ++ settings.config.peer.control ∷ [];
      user = peers.user ++ settings.config.peer.user ∷ [];
      gateways = peers.gateways ++ starting role settings counter ∷ [];
    }

-- the gateway at a place stands so; all others, and the addresses, stay as they are
abbrev pub with_gateway : ℕ → GatewayState → Peers → Peers
with_gateway place gateway peers = record peers { gateways = slice_set peers.gateways place gateway }

-- the datagram was received by the gateway of the first peer that has the address of its source
pub record GoesTo (plane : Plane) (source : Endpoint) (octets : List ℕ) (old : Peers) (routed : Routed) (new : Peers) : Type 0 where
  pub before : GatewayState
  pub after : GatewayState
  pub from : IsGatewayOf plane source.ip old routed.place before
  pub received : IsReceived plane source octets before routed.step after
  pub queues : QueuesAfterReceive plane source octets routed.step before after
  pub choices : ChoosesLowest routed.step.report.made before.role before.node after.node
  pub changes : new ≡ with_gateway routed.place after old

-- a datagram of a peer goes to its gateway; one of no peer changes nothing
abbrev pub IsRouted : Plane → Endpoint → List ℕ → Peers → Option Routed → Peers → Type 0
IsRouted plane source octets old None new = ((place : ℕ) (gateway : GatewayState) → IsGatewayOf plane source.ip old place gateway → ⊥) × (new ≡ old)
IsRouted plane source octets old (Some routed) new = GoesTo plane source octets old routed new

-- where no memory could be had, the datagram was one of a peer, whose gateway had something to send or to open
pub record PeerMayRunOut (plane : Plane) (source : Endpoint) (octets : List ℕ) (old : Peers) : Type 0 where
  pub place : ℕ
  pub gateway : GatewayState
  pub from : IsGatewayOf plane source.ip old place gateway
  pub runs_out : MayRunOut plane source octets gateway
