-- The lines of a datagram.
use Rattle.std.specs.Prelude.{ℕ, Bool, List}
use Rattle.gtp_values.specs.declared.plane.Plane.{Plane}
use Rattle.gtp_values.specs.declared.plane.Plane.TheVariants as planes
use Rattle.gtp_lines.specs.Messages.{ControlLines}
use Rattle.gtp_lines.specs.User.{UserLines}

-- by the protocol, and whether they are a fault's
abbrev pub LinesOf : Plane → List ℕ → List ℕ → Bool → Type 0
LinesOf planes.Control octets text faulty = ControlLines octets text faulty
LinesOf planes.User octets text faulty = UserLines octets text faulty
