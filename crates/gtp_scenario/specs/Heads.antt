-- Which JSON data are which two gateways.
use Rattle.std.specs.Prelude.{ℕ, ◌+◌, ◌^◌, List, [], ◌∷◌, codes, ◌||◌, true, nat_le, bytes_eq, if◌then◌else◌, Option, Some, None, is_some, option_map}
use Rattle.std.specs.Int.{w32, from_be_bytes}
use Rattle.serde_json.specs.Data.{Data, Items, no_items, item}
use Rattle.serde_json.specs.Find.{get, as_str, as_array}
use Rattle.gtp_values.specs.declared.address.Ip.{Ip}
use Rattle.gtp_values.specs.declared.address.Ip.TheVariants.{V4}
use Rattle.gtp_tables.specs.Pool.{Range, Prefixes, prefix_of, no_prefixes}
use Rattle.gtp_tables.specs.declared.pool.Pools.{Pools}
use Rattle.gtp_reliable.specs.Pending.{AreLimits}
use Rattle.gtp_reliable.specs.Held.{IsHold}
use Rattle.gtp_gateway.specs.declared.config.Addresses.{Addresses}
use Rattle.gtp_gateway.specs.declared.config.Timers.{Timers}
use Rattle.gtp_machine.specs.declared.switches.Switches.{Switches}
use Rattle.gtp_machine.specs.Config.{Template, no_switches}
use Rattle.gtp_gateway.specs.Settings.{Settings, settings_of, switched, with_template}
use Rattle.gtp_world.specs.Runs.{Setup}
use Rattle.gtp_scenario.specs.Steps.{◌>>=◌}
use Rattle.gtp_scenario.specs.Events.{tft_at, qos}
use Rattle.gtp_scenario.specs.Json.{text_at, number_at, number_or, within, is_among, has_only, count_of}
use Rattle.gtp_scenario.specs.Texts.{apn_of, address_of, ipv6_of}

-- ---- values of keys

unfoldable pub address_at : List ℕ → Data → Option Ip
address_at key d = option_map V4 (text_at key d >>= address_of)

-- the address of a gateway on each plane
unfoldable pub addresses_at : Data → Option Addresses
addresses_at d = do
  control ← address_at (codes "control") d
  user ← address_at (codes "user") d
  Some (record { control = control; user = user })

-- a restart counter: 0 to 255
unfoldable pub counter_at : Data → Option ℕ
counter_at d = number_at (codes "counter") d >>= within 0 255

-- an access point name
unfoldable pub access_point_of : Data → Option (List ℕ)
access_point_of d = as_str d >>= apn_of

-- access point names, in order
abbrev pub access_points_in : Items → Option (List (List ℕ))
access_points_in no_items = Some []
access_points_in (item d items) = do
  first ← access_point_of d
  others ← access_points_in items
  Some (first ∷ others)

-- at most 16 of them
unfoldable pub access_points_at : Data → Option (List (List ℕ))
access_points_at d = do
  items ← get (codes "apns") d >>= as_array
  if nat_le (count_of items) 16 then access_points_in items else None

-- addresses in a row, which end at 255.255.255.255 at the latest
abbrev pub pool_from : ℕ → ℕ → Option Range
pool_from start count = if nat_le (start + count) (2 ^ 32) then Some (record { start = start; count = count }) else None

-- 0 to 65,536 addresses
unfoldable pub pool_at : Data → Option Range
pool_at d = do
  start ← option_map (from_be_bytes w32) (text_at (codes "pool") d >>= address_of)
  count ← number_at (codes "count") d >>= within 0 65536
  pool_from start count

-- IPv6 addresses, one under each of some prefixes in a row, up to the last prefix at the latest
abbrev pub prefixes_from : List ℕ → ℕ → Option Prefixes
prefixes_from start count = if nat_le (prefix_of start + count) (2 ^ 64) then Some (record { start = start; count = count }) else None

-- 0 to 65,536 of them; none where the scenario has neither key
unfoldable pub prefixes_at : Data → Option Prefixes
prefixes_at d =
    if is_some (get (codes "pool6") d) || is_some (get (codes "count6") d)
    then (do
      start ← text_at (codes "pool6") d >>= ipv6_of
      count ← number_at (codes "count6") d >>= within 0 65536
      prefixes_from start count)
    else Some no_prefixes

-- the addresses of each version
unfoldable pub pools_at : Data → Option Pools
pools_at d = do
  v4 ← pool_at d
  v6 ← prefixes_at d
  Some (record { v4 = v4; v6 = v6 })

-- each time is in its range
pub record AreTimers (timers : Timers) : Type 0 where
  pub requests : AreLimits timers.t3 timers.n3
  pub answers : IsHold timers.hold

-- a time in ticks, from low to high, which may be absent
abbrev pub time_at : List ℕ → ℕ → ℕ → ℕ → Data → Option ℕ
time_at key absent low high d = number_or absent (get key d) >>= within low high

-- the times, which are 3, 3 and 60 ticks where the scenario does not say
unfoldable pub timers_at : Data → Option Timers
timers_at d = do
  t3 ← time_at (codes "t3") 3 1 1000 d
  n3 ← time_at (codes "n3") 3 0 100 d
  hold ← time_at (codes "hold") 60 1 100000 d
  Some (record { t3 = t3; n3 = n3; hold = hold })

-- the switch that this word names, on
abbrev pub switch_on : List ℕ → Switches → Option Switches
switch_on word switches =
    if bytes_eq word (codes "network_identifiers") then Some (record switches { network_identifiers = true })
    else if bytes_eq word (codes "version_not_supported") then Some (record switches { version_not_supported = true })
    else None

-- switches, by their words
abbrev pub switches_in : Items → Switches → Option Switches
switches_in no_items switches = Some switches
switches_in (item d items) switches = do
  word ← as_str d
  more ← switch_on word switches
  switches_in items more

-- those of a list, which may be absent
abbrev pub switches_of : Option Data → Option Switches
switches_of None = Some no_switches
switches_of (Some d) = as_array d >>= λ items. switches_in items no_switches

unfoldable pub switches_at : Data → Option Switches
switches_at d = switches_of (get (codes "switches") d)

-- ---- gateways

pub record ServingHead : Type 0 where
  pub own : Addresses
  pub counter : ℕ
  pub switches : Switches

unfoldable pub serving_of : Data → Option ServingHead
serving_of d =
    if has_only (codes "control" ∷ codes "user" ∷ codes "counter" ∷ codes "switches" ∷ []) d
    then (do
      own ← addresses_at d
      counter ← counter_at d
      switches ← switches_at d
      Some (record { own = own; counter = counter; switches = switches }))
    else None

pub record PacketHead : Type 0 where
  pub own : Addresses
  pub counter : ℕ
  pub access_points : List (List ℕ)
  pub pools : Pools
  pub switches : Switches

abbrev pub packet_keys : List (List ℕ)
packet_keys =
    codes "control" ∷ codes "user" ∷ codes "counter" ∷ codes "apns" ∷
    codes "pool" ∷ codes "count" ∷ codes "pool6" ∷ codes "count6" ∷ codes "templates" ∷ codes "switches" ∷ []

unfoldable pub packet_of : Data → Option PacketHead
packet_of d =
    if has_only packet_keys d
    then (do
      own ← addresses_at d
      counter ← counter_at d
      access_points ← access_points_at d
      pools ← pools_at d
      switches ← switches_at d
      Some (record { own = own; counter = counter; access_points = access_points; pools = pools; switches = switches }))
    else None

-- no addresses
abbrev pub no_pool : Range
no_pool = record { start = 0; count = 0 }

abbrev pub no_pools : Pools
no_pools = record { v4 = no_pool; v6 = no_prefixes }

-- the two gateways as each other's peers: the access points and the pools are the packet gateway's alone
abbrev pub set_up : Timers → ServingHead → PacketHead → Setup
set_up timers serving packet =
    record {
      serving = switched serving.switches (settings_of serving.own packet.own [] no_pools timers);
      packet = switched packet.switches (settings_of packet.own serving.own packet.access_points packet.pools timers);
      serving_counter = serving.counter;
      packet_counter = packet.counter;
    }

-- the template of an access point: its name and the TFT of its bearers, whose QoS is that of all
unfoldable pub template_of : Data → Option Template
template_of d =
    if has_only (codes "apn" ∷ codes "tft" ∷ []) d
    then (do
      name ← text_at (codes "apn") d >>= apn_of
      tft ← tft_at d
      Some (record { access_point = name; tft = tft; qos = qos }))
    else None

-- the settings with this template, where its access point is one of theirs
abbrev pub configured : Settings → Template → Option Settings
configured s t = if is_among s.config.access_points t.access_point then Some (with_template t s) else None

-- the settings with the template that this is
abbrev pub with_this : Data → Settings → Option Settings
with_this d s = template_of d >>= configured s

-- the settings with each of these templates, one after the other
abbrev pub with_each : Items → Settings → Option Settings
with_each no_items s = Some s
with_each (item d items) s = with_this d s >>= with_each items

-- the settings with the templates, which may be absent
abbrev pub with_those : Option Data → Settings → Option Settings
with_those None s = Some s
with_those (Some d) s = do
  items ← as_array d
  with_each items s

unfoldable pub with_templates_at : Data → Settings → Option Settings
with_templates_at d s = with_those (get (codes "templates") d) s

-- all of a scenario but its events
unfoldable pub setup_of : Data → Option Setup
setup_of d =
    if has_only (codes "serving" ∷ codes "packet" ∷ codes "t3" ∷ codes "n3" ∷ codes "hold" ∷ codes "events" ∷ []) d
    then (do
      timers ← timers_at d
      serving ← get (codes "serving") d >>= serving_of
      said ← get (codes "packet") d
      packet ← packet_of said
      settings ← with_templates_at said (set_up timers serving packet).packet
      Some (record (set_up timers serving packet) { packet = settings }))
    else None

-- the list of events
unfoldable pub events_at : Data → Option Items
events_at d = get (codes "events") d >>= as_array
