-- The GTP datagram that a frame carries.
use Rattle.std.specs.Prelude.{ℕ, ◌==◌, ◌||◌, Bool, List, Option, Some, None, if◌then◌else◌}
use Rattle.gtp_values.specs.declared.address.Endpoint.{Endpoint}
use Rattle.gtp_values.specs.declared.plane.Plane.{Plane}
use Rattle.gtp_values.specs.declared.plane.Plane.TheVariants.{Control, User}
use Rattle.gtp_capture.specs.declared.ports.Ports.{Ports}

-- a datagram from one to another, on a plane; whether it is the first of several fragments; how many octets it had by its UDP length, and those that are held
pub record Packet : Type 0 where
  pub from : Endpoint
  pub to : Endpoint
  pub plane : Plane
  pub fragment : Bool
  pub had : ℕ
  pub octets : List ℕ

-- a port is the standard one or the further one
abbrev pub is_port : ℕ → Option ℕ → ℕ → Bool
is_port standard None port = port == standard
is_port standard (Some further) port = (port == standard) || (port == further)

-- the plane by the UDP ports: 2123 control (TS 29.274, 4.2.1), 2152 user (TS 29.281, 4.4.2), and what counts beside them
abbrev pub plane_at : Ports → ℕ → ℕ → Option Plane
plane_at ports from to =
    if is_port 2123 ports.control from || is_port 2123 ports.control to then Some Control
    else (if is_port 2152 ports.user from || is_port 2152 ports.user to then Some User else None)
