-- Which addresses, ends and planes C's values are.
use Rattle.std.specs.Prelude.{ℕ, ◌==◌, Option, Some, None, option_map, if◌then◌else◌, take}
use Rattle.gtp_values.specs.declared.address.Endpoint.{Endpoint}
use Rattle.gtp_values.specs.declared.address.Ip.{Ip}
use Rattle.gtp_values.specs.declared.address.Ip.TheVariants.{V4, V6}
use Rattle.gtp_machine.specs.Message.{Plane, Control, User}
use Rattle.gtp_c.specs.declared.ends.Address.{Address}
use Rattle.gtp_c.specs.declared.ends.End.{End}

-- the address: of version 4 its first four octets, of version 6 all sixteen, and of no other version
abbrev pub ip_at : Address → Option Ip
ip_at a = if a.version == 4 then Some (V4 (take 4 a.octets)) else (if a.version == 6 then Some (V6 a.octets) else None)

-- the end, where its address is one
abbrev pub endpoint_at : End → Option Endpoint
endpoint_at e = option_map (λ (ip : Ip). record { ip = ip; port = e.port }) (ip_at e.address)

-- a plane's number
abbrev pub plane_at : Plane → ℕ
plane_at Control = 0
plane_at User = 1
