-- Which JSON data are which gateway.
use Rattle.std.specs.Prelude.{ℕ, List, [], ◌∷◌, codes, if◌then◌else◌, Option, Some, None, option_map}
use Rattle.serde_json.specs.Data.{Data}
use Rattle.serde_json.specs.Find.{get}
use Rattle.gtp_values.specs.declared.address.Ip.{Ip}
use Rattle.gtp_values.specs.declared.address.Ip.TheVariants.{V4, V6}
use Rattle.gtp_machine.specs.declared.role.Role.{Role}
use Rattle.gtp_machine.specs.declared.role.Role.TheVariants.{Serving, Packet}
use Rattle.gtp_gateway.specs.declared.config.Addresses.{Addresses}
use Rattle.gtp_gateway.specs.Settings.{Settings, settings_of, switched}
use Rattle.gtp_scenario.specs.Events.{role_of}
use Rattle.gtp_scenario.specs.Heads.{access_points_at, counter_at, no_pools, pools_at, switches_at, timers_at, with_templates_at}
use Rattle.gtp_scenario.specs.Json.{text_at, has_only}
use Rattle.gtp_scenario.specs.Scenarios.{json_of}
use Rattle.gtp_scenario.specs.Steps.{◌>>=◌}
use Rattle.gtp_scenario.specs.Texts.{address_of, ipv6_of}

-- a gateway by itself: which one it is, its settings, and its restart counter
pub record Head : Type 0 where
  pub role : Role
  pub settings : Settings
  pub counter : ℕ

-- an address of either version
abbrev pub ip_from : Option (List ℕ) → Option (List ℕ) → Option Ip
ip_from (Some v4) v6 = Some (V4 v4)
ip_from None v6 = option_map V6 v6

-- IPv4 in dotted decimal, IPv6 as 32 hexadecimal digits
unfoldable pub ip_of : List ℕ → Option Ip
ip_of text = ip_from (address_of text) (ipv6_of text)

unfoldable pub ip_at : List ℕ → Data → Option Ip
ip_at key d = text_at key d >>= ip_of

-- the address of a gateway on each plane
unfoldable pub addresses_at : Data → Option Addresses
addresses_at d = do
  control ← ip_at (codes "control") d
  user ← ip_at (codes "user") d
  Some (record { control = control; user = user })

-- the addresses of the other gateway: an object of their own
unfoldable pub peer_at : Data → Option Addresses
peer_at d = do
  peer ← get (codes "peer") d
  if has_only (codes "control" ∷ codes "user" ∷ []) peer then addresses_at peer else None

-- the keys that a head has, and no others
abbrev pub serving_keys : List (List ℕ)
serving_keys =
    codes "role" ∷ codes "control" ∷ codes "user" ∷ codes "peer" ∷ codes "counter" ∷ codes "t3" ∷ codes "n3" ∷ codes "hold" ∷
    codes "switches" ∷ []

abbrev pub packet_keys : List (List ℕ)
packet_keys =
    codes "role" ∷ codes "control" ∷ codes "user" ∷ codes "peer" ∷ codes "counter" ∷ codes "t3" ∷ codes "n3" ∷ codes "hold" ∷
    codes "apns" ∷ codes "pool" ∷ codes "count" ∷ codes "pool6" ∷ codes "count6" ∷ codes "templates" ∷ codes "switches" ∷ []

-- a serving gateway has no access points and no pools
unfoldable pub serving_of : Data → Option Head
serving_of d =
    if has_only serving_keys d
    then (do
      own ← addresses_at d
      peer ← peer_at d
      counter ← counter_at d
      timers ← timers_at d
      switches ← switches_at d
      Some (record { role = Serving; settings = switched switches (settings_of own peer [] no_pools timers); counter = counter }))
    else None

unfoldable pub packet_of : Data → Option Head
packet_of d =
    if has_only packet_keys d
    then (do
      own ← addresses_at d
      peer ← peer_at d
      counter ← counter_at d
      timers ← timers_at d
      access_points ← access_points_at d
      pools ← pools_at d
      switches ← switches_at d
      settings ← with_templates_at d (switched switches (settings_of own peer access_points pools timers))
      Some (record { role = Packet; settings = settings; counter = counter }))
    else None

abbrev pub head_as : Role → Data → Option Head
head_as Serving d = serving_of d
head_as Packet d = packet_of d

unfoldable pub head_of : Data → Option Head
head_of d = do
  role ← text_at (codes "role") d >>= role_of
  head_as role d

-- the gateway that a line says
unfoldable pub head_in : List ℕ → Option Head
head_in line = json_of line >>= head_of
