-- Which JSON data are which node, and which settings its gateways have.
use Rattle.std.specs.Prelude.{ℕ, ◌+◌, ◌*◌, ◌^◌, nat_le, List, [], ◌∷◌, ◌++◌, drop, codes, if◌then◌else◌, Option, Some, None}
use Rattle.std.specs.Int.{w64, to_be_bytes}
use Rattle.serde_json.specs.Data.{Data, Items, no_items, item}
use Rattle.serde_json.specs.Find.{get, as_array}
use Rattle.gtp_machine.specs.declared.role.Role.{Role}
use Rattle.gtp_machine.specs.declared.role.Role.TheVariants.{Serving, Packet}
use Rattle.gtp_tables.specs.Pool.{Range, Prefixes, prefix_of}
use Rattle.gtp_tables.specs.declared.pool.Pools.{Pools}
use Rattle.gtp_gateway.specs.declared.config.Addresses.{Addresses}
use Rattle.gtp_gateway.specs.Settings.{Settings, settings_of, switched}
use Rattle.gtp_scenario.specs.Events.{role_of}
use Rattle.gtp_scenario.specs.Heads.{access_points_at, counter_at, no_pools, pool_from, pools_at, switches_at, timers_at, with_templates_at}
use Rattle.gtp_scenario.specs.Json.{text_at, has_only}
use Rattle.gtp_scenario.specs.Scenarios.{json_of}
use Rattle.gtp_scenario.specs.Steps.{◌>>=◌}
use Rattle.gtp_serve.specs.Heads.{addresses_at}

-- a node: which gateways it has, its restart counter, and the settings of each
pub record NodeHead : Type 0 where
  pub role : Role
  pub counter : ℕ
  pub settings : List Settings

-- ---- peers

-- the addresses of a peer: an object of their own
unfoldable pub peer_of : Data → Option Addresses
peer_of d = if has_only (codes "control" ∷ codes "user" ∷ []) d then addresses_at d else None

-- peers, in order
abbrev pub peers_in : Items → Option (List Addresses)
peers_in no_items = Some []
peers_in (item d items) = do
  first ← peer_of d
  others ← peers_in items
  Some (first ∷ others)

unfoldable pub peers_at : Data → Option (List Addresses)
peers_at d = get (codes "peers") d >>= as_array >>= peers_in

-- ---- the addresses that a gateway gives: each peer has as many, behind those of the peers before it

abbrev pub pool_for : ℕ → Range → Option Range
pool_for place pool = pool_from (pool.start + place * pool.count) pool.count

abbrev pub prefixes_for : ℕ → Prefixes → Option Prefixes
prefixes_for place pool =
    if nat_le (prefix_of pool.start + place * pool.count + pool.count) (2 ^ 64)
    then Some (record { start = to_be_bytes w64 (prefix_of pool.start + place * pool.count) ++ drop 8 pool.start; count = pool.count })
    else None

unfoldable pub pools_for : ℕ → Pools → Option Pools
pools_for place pools = do
  v4 ← pool_for place pools.v4
  v6 ← prefixes_for place pools.v6
  Some (record { v4 = v4; v6 = v6 })

-- ---- the settings of the gateway for a peer, at a place

-- a serving gateway has no access points and no pools
unfoldable pub serving_for : Data → Addresses → Option Settings
serving_for d peer = do
  own ← addresses_at d
  timers ← timers_at d
  switches ← switches_at d
  Some (switched switches (settings_of own peer [] no_pools timers))

unfoldable pub packet_for : Data → Addresses → ℕ → Option Settings
packet_for d peer place = do
  own ← addresses_at d
  timers ← timers_at d
  access_points ← access_points_at d
  pools ← pools_at d >>= pools_for place
  switches ← switches_at d
  with_templates_at d (switched switches (settings_of own peer access_points pools timers))

abbrev pub settings_for : Role → Data → Addresses → ℕ → Option Settings
settings_for Serving d peer place = serving_for d peer
settings_for Packet d peer place = packet_for d peer place

-- those of peers in order, from a place on
abbrev pub all_settings : Role → Data → ℕ → List Addresses → Option (List Settings)
all_settings role d place [] = Some []
all_settings role d place (peer ∷ peers) = do
  first ← settings_for role d peer place
  others ← all_settings role d (place + 1) peers
  Some (first ∷ others)

-- ---- whole heads

-- the keys that a head has, and no others
abbrev pub node_keys : Role → List (List ℕ)
node_keys Serving = codes "role" ∷ codes "control" ∷ codes "user" ∷ codes "peers" ∷ codes "counter" ∷ codes "t3" ∷ codes "n3" ∷ codes "hold" ∷
    codes "switches" ∷ []
node_keys Packet =
    codes "role" ∷ codes "control" ∷ codes "user" ∷ codes "peers" ∷ codes "counter" ∷ codes "t3" ∷ codes "n3" ∷ codes "hold" ∷
    codes "apns" ∷ codes "pool" ∷ codes "count" ∷ codes "pool6" ∷ codes "count6" ∷ codes "templates" ∷ codes "switches" ∷ []

-- also a node without peers has to say what settings need
unfoldable pub node_as : Role → Data → Option NodeHead
node_as role d =
    if has_only (node_keys role) d
    then (do
      own ← addresses_at d
      needed ← settings_for role d own 0
      counter ← counter_at d
      peers ← peers_at d
      settings ← all_settings role d 0 peers
      Some (record { role = role; counter = counter; settings = settings }))
    else None

unfoldable pub node_of : Data → Option NodeHead
node_of d = do
  role ← text_at (codes "role") d >>= role_of
  node_as role d

-- the node that a line says
unfoldable pub node_in : List ℕ → Option NodeHead
node_in line = json_of line >>= node_of

-- the settings that the line of a node has for a further peer
unfoldable pub settings_in : Role → List ℕ → Addresses → ℕ → Option Settings
settings_in role line peer place = json_of line >>= λ d. settings_for role d peer place
