-- How many datagrams at fault name an interface other than S5/S8.
use Rattle.std.specs.Prelude.{◌≡◌, ℕ, ◌⊎◌, Bool, IsTrue, List}
use Rattle.gtp_values.specs.declared.plane.Plane.{Plane}
use Rattle.gtp_lines.specs.Elsewhere.{IsElsewhere}

-- a datagram counts where it is at fault and names another interface
abbrev pub CountsElsewhere : Bool → Plane → List ℕ → ℕ → Type 0
CountsElsewhere faulty plane octets count =
    (IsTrue faulty × IsElsewhere plane octets × (count ≡ 1)) ⊎ ((IsTrue faulty → IsElsewhere plane octets → ⊥) × (count ≡ 0))
