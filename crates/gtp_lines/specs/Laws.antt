-- What holds of all octets.
use Rattle.std.specs.Prelude.{◌≡◌, ℕ, Bool, false, List, None}
use Rattle.gtp_values.specs.declared.plane.Plane.{Plane}
use Rattle.gtp_ie.specs.Element.{Element}
use Rattle.gtp_v2.specs.Message.{MessageValue, raw_of}
use Rattle.gtp_v2.specs.Pair.{DatagramValue, IsDatagram, OfEach}
use Rattle.gtp_names.specs.declared.names.Names.{Names}
use Rattle.gtp_interfaces.specs.declared.interface.Interface.{Interface}
use Rattle.gtp_interfaces.specs.declared.interface.Interface.TheVariants as interfaces
use Rattle.gtp_lines.specs.Named.{Named}
use Rattle.gtp_lines.specs.Messages.{WholeLines}
use Rattle.gtp_lines.specs.All.{IsFront, AllControl, AllLines}

-- octets begin with one list of whole elements, and one rest
abbrev pub OneFront : Type 0
OneFront =
    (at : ℕ) (octets : List ℕ) (es : List Element) (rest : List ℕ) (others : List Element) (left : List ℕ)
    → IsFront at octets es rest → IsFront at octets others left → (es ≡ others) × (rest ≡ left)

-- a message whose type has a table
abbrev pub IsTyped : MessageValue → Type 0
IsTyped m = raw_of m.content ≡ None

-- the lines of a datagram without a fault on S5/S8, whose messages are such, by names and forms are all that can be shown of it
abbrev pub WholeShown : Type 0
WholeShown =
    (names : Names) (octets : List ℕ) (text : List ℕ)
    → ((d : DatagramValue) → IsDatagram octets d → OfEach IsTyped d.first d.second) → WholeLines (Named names) octets text → AllControl names interfaces.S5S8 octets text false

-- what is shown of a datagram is one text, and whether it has a fault on an interface is determined
abbrev pub OneText : Type 0
OneText =
    (names : Names) (interface : Interface) (plane : Plane) (octets : List ℕ) (text : List ℕ) (faulty : Bool) (other : List ℕ) (wrong : Bool)
    → AllLines names interface plane octets text faulty → AllLines names interface plane octets other wrong → (text ≡ other) × (faulty ≡ wrong)
