-- Objects with which nothing is wrong; for private clauses.
use Rattle.std.specs.Prelude.{◌≡◌, ℕ, List, Bool, true, ◌&&◌, codes, Some, IsSome}
use Rattle.serde_json.specs.Data.{Data, Items, no_items, item}
use Rattle.serde_json.specs.Find.{get, as_array}
use Rattle.gtp_machine.specs.declared.role.Role.{Role}
use Rattle.gtp_machine.specs.declared.role.Role.TheVariants.{Serving, Packet}
use Rattle.gtp_scenario.specs.declared.reason.key.Key.{Key}
use Rattle.gtp_scenario.specs.Steps.{◌>>=◌}
use Rattle.gtp_scenario.specs.Heads.{access_points_at, pool_at, prefixes_at}
use Rattle.gtp_scenario.specs.Keys.{serving_keys, packet_keys, template_keys, serving_gateway_keys, packet_gateway_keys, peer_keys}
use Rattle.gtp_scenario.specs.Reasons.{fits, names_one_of, role_at}

abbrev pub is_template : List (List ℕ) → Data → Bool
is_template names d = fits template_keys d && names_one_of names d

abbrev pub are_templates : List (List ℕ) → Items → Bool
are_templates names no_items = true
are_templates names (item d items) = is_template names d && are_templates names items

-- the templates of a packet gateway
abbrev pub AreTemplatesOf : Data → Type 0
AreTemplatesOf d = (items : Items) (names : List (List ℕ)) → (get (codes "templates") d >>= as_array) ≡ Some items → access_points_at d ≡ Some names → are_templates names items ≡ true

-- a packet gateway that is to have these keys
pub record IsPacket (known : List Key) (d : Data) : Type 0 where
  pub keys : fits known d ≡ true
  pub pool : IsSome (pool_at d)
  pub prefixes : IsSome (prefixes_at d)
  pub templates : AreTemplatesOf d

-- both gateways, by the keys of a scenario
abbrev pub IsPacketAt : Data → Type 0
IsPacketAt d = (e : Data) → get (codes "packet") d ≡ Some e → IsPacket packet_keys e

abbrev pub IsServingAt : Data → Type 0
IsServingAt d = (e : Data) → get (codes "serving") d ≡ Some e → fits serving_keys e ≡ true

-- ---- a gateway by itself

abbrev pub IsGatewayAs : Role → Data → Type 0
IsGatewayAs Serving d = fits serving_gateway_keys d ≡ true
IsGatewayAs Packet d = IsPacket packet_gateway_keys d

abbrev pub IsPeerAt : Data → Type 0
IsPeerAt d = (e : Data) → get (codes "peer") d ≡ Some e → fits peer_keys e ≡ true

pub record IsGateway (d : Data) : Type 0 where
  pub role : Role
  pub says : role_at d ≡ Some role
  pub own : IsGatewayAs role d
  pub peer : IsPeerAt d
