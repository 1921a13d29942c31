-- What a gateway is set up with.
use Rattle.std.specs.Prelude.{ℕ, Bool, true, false, List, [], ◌∷◌, Option, Some, None, option_and_then, nat_eq, if◌then◌else◌}
use Rattle.std.specs.Cmp.Lexicographic.{pointwise}
use Rattle.gtp_values.specs.declared.address.Ip.{Ip}
use Rattle.gtp_values.specs.declared.address.Endpoint.{Endpoint}
use Rattle.gtp_values.specs.declared.plane.Plane.{Plane}
use Rattle.gtp_values.specs.declared.plane.Plane.TheVariants.{Control, User}
use Rattle.gtp_values.specs.declared.qos.Qos.{Qos}
use Rattle.gtp_tables.specs.declared.pool.Pools.{Pools}
use Rattle.gtp_machine.specs.declared.switches.Switches.{Switches}
use Rattle.gtp_machine.specs.AccessPoints.{is_meant}

-- the address of each plane
pub record Addresses : Type 0 where
  pub control : Ip
  pub user : Ip

-- what the sessions of an access point get besides their default bearer: a dedicated bearer with this TFT and this QoS
pub record Template : Type 0 where
  pub access_point : List ℕ
  pub tft : List ℕ
  pub qos : Qos

-- all off
abbrev pub no_switches : Switches
no_switches = record { network_identifiers = false; version_not_supported = false }

-- the two ends of the path, the access points, the switches, the pools of addresses, and the templates
pub record Config : Type 0 where
  pub own : Addresses
  pub peer : Addresses
  pub access_points : List (List ℕ)
  pub switches : Switches
  pub pools : Pools
  pub templates : List Template

-- the template of an access point: the first that has its name
abbrev pub template_for : List ℕ → List Template → Option Template
template_for name [] = None
template_for name (t ∷ templates) = if pointwise nat_eq t.access_point name then Some t else template_for name templates

-- of these access points the first that is meant by a name
abbrev pub meant_among : Bool → List (List ℕ) → List ℕ → Option (List ℕ)
meant_among by_network [] name = None
meant_among by_network (own ∷ access_points) name = if is_meant by_network own name then Some own else meant_among by_network access_points name

-- the one that is written so, where there is one
abbrev pub as_written_or : Option (List ℕ) → Option (List ℕ) → Option (List ℕ)
as_written_or (Some own) other = Some own
as_written_or None other = other

-- the access point of a gateway that is meant by a name: the one that is written so, else, by the switch, the first with its network identifier
abbrev pub access_point_for : Config → List ℕ → Option (List ℕ)
access_point_for config name =
    as_written_or (meant_among false config.access_points name)
    (if config.switches.network_identifiers then meant_among true config.access_points name else None)

-- its template
abbrev pub template_asked : Config → List ℕ → Option Template
template_asked config name = option_and_then (λ own. template_for own config.templates) (access_point_for config name)

-- where control requests go: UDP port 2123 (TS 29.274, 4.2.1.1)
abbrev pub control_end : Ip → Endpoint
control_end ip = record { ip = ip; port = 2123 }

-- where user plane datagrams go: UDP port 2152 (TS 29.281, 4.4.2.3)
abbrev pub user_end : Ip → Endpoint
user_end ip = record { ip = ip; port = 2152 }

-- where datagrams of a plane leave from: the gateway's own address, at the plane's port
abbrev pub own_end : Config → Plane → Endpoint
own_end config Control = control_end config.own.control
own_end config User = user_end config.own.user
