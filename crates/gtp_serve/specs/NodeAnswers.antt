-- What a line to a node is answered with, and how the node goes on.
use Rattle.std.specs.Prelude.{◌≡◌, ℕ, ◌⊎◌, List, [], ◌∷◌, length, codes, bytes_eq, if◌then◌else◌, Option, Some, None, slice_get}
use Rattle.json.specs.Json.{Json}
use Rattle.serde_json.specs.Data.{Data}
use Rattle.serde_json.specs.Find.{get}
use Rattle.gtp_values.specs.declared.address.Endpoint.{Endpoint}
use Rattle.gtp_values.specs.declared.plane.Plane.{Plane}
use Rattle.gtp_machine.specs.World.{Came_to}
use Rattle.gtp_machine.specs.declared.role.Role.{Role}
use Rattle.gtp_machine.specs.declared.outcome.Outcome.TheVariants.{Dropped}
use Rattle.gtp_machine.specs.declared.outcome.DropReason.TheVariants.{NotPeer}
use Rattle.gtp_gateway.specs.declared.config.Addresses.{Addresses}
use Rattle.gtp_gateway.specs.GatewayState.{GatewayState}
use Rattle.gtp_gateway.specs.Settings.{Settings}
use Rattle.gtp_node.specs.Routing.{IsRouted, Peers, no_peers, with_gateway, with_peer}
use Rattle.gtp_node.specs.declared.node.Routed.{Routed}
use Rattle.gtp_scenario.specs.Json.{number_at, text_at, has_only}
use Rattle.gtp_scenario.specs.Scenarios.{json_of}
use Rattle.gtp_scenario.specs.Steps.{◌>>=◌}
use Rattle.gtp_serve.specs.Answers.{Does}
use Rattle.gtp_serve.specs.NodeHeads.{NodeHead, node_in, peer_of, settings_in}
use Rattle.gtp_serve.specs.Replies.{of_step, plain, reply_json, word_json}
use Rattle.gtp_serve.specs.Requests.{Request, Receives, receive_of, request_of}
use Rattle.gtp_serve.specs.Served.{Stays}

-- what is asked of a node: something of the gateway at the place of a peer, to take a datagram from somewhere, or to add a peer
pub data NodeRequest : Type 0 where
  OfPeer : ℕ → Request → NodeRequest
  Routes : Plane → Endpoint → List ℕ → NodeRequest
  Adds : Addresses → NodeRequest

-- a line to the gateway of a peer
unfoldable pub of_peer : Data → Option NodeRequest
of_peer d =
    if has_only (codes "peer" ∷ codes "line" ∷ []) d
    then (do
      place ← number_at (codes "peer") d
      request ← get (codes "line") d >>= request_of
      Some (OfPeer place request))
    else None

unfoldable pub adds : Data → Option NodeRequest
adds d = if has_only (codes "do" ∷ codes "peer" ∷ []) d then (get (codes "peer") d >>= peer_of >>= λ peer. Some (Adds peer)) else None

-- a datagram goes to the gateway of its peer
abbrev pub routes : Request → Option NodeRequest
routes (Receives plane source octets) = Some (Routes plane source octets)
routes request = None

unfoldable pub node_request_named : List ℕ → Data → Option NodeRequest
node_request_named word d = if bytes_eq word (codes "receive") then receive_of d >>= routes else if bytes_eq word (codes "add") then adds d else None

-- by the word of `do`, where there is one
abbrev pub node_request_by : Option (List ℕ) → Data → Option NodeRequest
node_request_by None d = of_peer d
node_request_by (Some word) d = node_request_named word d

unfoldable pub node_request_of : Data → Option NodeRequest
node_request_of d = node_request_by (text_at (codes "do") d) d

-- what a line asks
unfoldable pub node_request_in : List ℕ → Option NodeRequest
node_request_in line = json_of line >>= node_request_of

-- ---- what stands behind lines

-- the peers of a node, with the line that it started by, the role of its gateways and its restart counter
pub record NodeState : Type 0 where
  pub head : List ℕ
  pub role : Role
  pub counter : ℕ
  pub peers : Peers

-- The gateway at a place does what is asked, and all others stay as they are.
pub record DoesAt (place : ℕ) (request : Request) (old : NodeState) (answer : Json) (new : NodeState) : Type 0 where
  pub before : GatewayState
  pub after : GatewayState
  pub stands : slice_get old.peers.gateways place ≡ Some before
  pub does : Does (Some place) request before answer after
  pub changes : new ≡ record old { peers = with_gateway place after old.peers }

-- there is no gateway at the place
abbrev pub HasNoPeer : ℕ → NodeState → Json → NodeState → Type 0
HasNoPeer place old answer new = (slice_get old.peers.gateways place ≡ None) × Stays (codes "no peer") old answer new

-- the answer to a datagram: of no peer what a gateway answers to one that is not of its peer
abbrev pub routed_json : Option Routed → Json
routed_json None = reply_json None (plain (Came_to (Dropped NotPeer)))
routed_json (Some routed) = reply_json (Some routed.place) (of_step routed.step)

-- A datagram goes to the gateway of the peer that it comes from.
pub record Takes (plane : Plane) (source : Endpoint) (octets : List ℕ) (old : NodeState) (answer : Json) (new : NodeState) : Type 0 where
  pub routed : Option Routed
  pub peers : Peers
  pub goes_to : IsRouted plane source octets old.peers routed peers
  pub changes : new ≡ record old { peers = peers }
  pub told : answer ≡ routed_json routed

-- A peer is added, with a gateway that starts.
pub record Joins (peer : Addresses) (old : NodeState) (answer : Json) (new : NodeState) : Type 0 where
  pub settings : Settings
  pub has : settings_in old.role old.head peer (length old.peers.gateways) ≡ Some settings
  pub changes : new ≡ record old { peers = with_peer old.role settings old.counter old.peers }
  pub told : answer ≡ word_json (Some (length old.peers.gateways)) (codes "added")

-- there are no addresses left for its sessions
abbrev pub HasNoAddresses : Addresses → NodeState → Json → NodeState → Type 0
HasNoAddresses peer old answer new = (settings_in old.role old.head peer (length old.peers.gateways) ≡ None) × Stays (codes "no addresses") old answer new

-- a request is done, and told of
abbrev pub DoesOfNode : NodeRequest → NodeState → Json → NodeState → Type 0
DoesOfNode (OfPeer place request) old answer new = DoesAt place request old answer new ⊎ HasNoPeer place old answer new
DoesOfNode (Routes plane source octets) old answer new = Takes plane source octets old answer new
DoesOfNode (Adds peer) old answer new = Joins peer old answer new ⊎ HasNoAddresses peer old answer new

abbrev pub FollowsNode : Option NodeRequest → NodeState → Json → NodeState → Type 0
FollowsNode (Some request) old answer new = DoesOfNode request old answer new
FollowsNode None old answer new = Stays (codes "bad line") old answer new

-- a line to a node
abbrev pub NodeDoes : List ℕ → NodeState → Json → NodeState → Type 0
NodeDoes line = FollowsNode (node_request_in line)

-- peers in order are added
abbrev pub with_peers : Role → ℕ → List Settings → Peers → Peers
with_peers role counter [] peers = peers
with_peers role counter (settings ∷ others) peers = with_peers role counter others (with_peer role settings counter peers)

-- the node that a head says, as it starts
abbrev pub node_started : List ℕ → NodeHead → NodeState
node_started line head = record { head = line; role = head.role; counter = head.counter; peers = with_peers head.role head.counter head.settings no_peers }

-- the line says this node, whose gateways have just started
abbrev pub NodeStarts : List ℕ → NodeState → Type 0
NodeStarts line new = (head : NodeHead) × (node_in line ≡ Some head) × (new ≡ node_started line head)

-- it says none
abbrev pub SaysNoNode : List ℕ → Type 0
SaysNoNode line = node_in line ≡ None

-- each gateway has this role
abbrev pub HasRole : Role → List GatewayState → Type 0
HasRole role gateways = (place : ℕ) (gateway : GatewayState) → slice_get gateways place ≡ Some gateway → gateway.role ≡ role
