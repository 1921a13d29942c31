-- Information elements of the user plane (TS 29.281 8), and the octets that they are.
use Rattle.std.specs.Prelude.{◌≡◌, ◌≢◌, ℕ, ◌+◌, ◌-◌, ◌*◌, ◌<◌, ◌≤◌, Bool, true, false, List, [], ◌∷◌, ◌++◌, length, Option, Some, None}
use Rattle.std.specs.Int.{w32, from_be_bytes}
use Rattle.gtp_values.specs.declared.address.Ip.{Ip}
use Rattle.gtp_values.specs.declared.address.Ip.TheVariants as addresses
use Rattle.gtp_user.specs.declared.fault.UserFault.{UserFault}
use Rattle.gtp_user.specs.declared.fault.UserFault.TheVariants as faults

-- an element: Recovery, TEID Data I, GTP-U Peer Address, Extension Header Type List, or one that is skipped
pub data Element : Type 0 where
  Recovery : Element
  TeidData : ℕ → Element
  Peer : Ip → Element
  Types : List ℕ → Element
  Skipped : Element

-- the octets are an address and then the rest
abbrev pub SpellsAddress : List ℕ → Ip → List ℕ → Type 0
SpellsAddress octets (addresses.V4 address) rest = (octets ≡ 0 ∷ 4 ∷ (address ++ rest)) × (length address ≡ 4)
SpellsAddress octets (addresses.V6 address) rest = (octets ≡ 0 ∷ 16 ∷ (address ++ rest)) × (length address ≡ 16)

-- the octets are an element and then the rest (8.1): below type 128 the length is the type's own, from 128 on it stands in two octets, in one for type 141 (8.5)
abbrev pub BeginsElement : List ℕ → Element → List ℕ → Type 0
BeginsElement octets Recovery rest = (counter : ℕ) × (octets ≡ 14 ∷ counter ∷ rest)
BeginsElement octets (TeidData teid) rest =
    (a : ℕ) × (b : ℕ) × (c : ℕ) × (d : ℕ) × (octets ≡ 16 ∷ a ∷ b ∷ c ∷ d ∷ rest) × (teid ≡ from_be_bytes w32 (a ∷ b ∷ c ∷ d ∷ []))
BeginsElement octets (Peer address) rest = (tail : List ℕ) × (octets ≡ 133 ∷ tail) × SpellsAddress tail address rest
BeginsElement octets (Types types) rest = octets ≡ 141 ∷ length types ∷ (types ++ rest)
BeginsElement octets Skipped rest =
    (kind : ℕ) × (high : ℕ) × (low : ℕ) × (body : List ℕ) × (octets ≡ kind ∷ high ∷ low ∷ (body ++ rest))
    × (length body ≡ 256 * high + low) × (128 ≤ kind) × (kind ≢ 133) × (kind ≢ 141)

-- the octets are elements in order, and then the rest
abbrev pub Spans : List ℕ → List Element → List ℕ → Type 0
Spans octets [] rest = octets ≡ rest
Spans octets (e ∷ es) rest = (after : List ℕ) × BeginsElement octets e after × Spans after es rest

-- the octets are elements in order, and nothing else
abbrev pub AreElements : List ℕ → List Element → Type 0
AreElements octets es = Spans octets es []

-- after whole elements there are octets which begin with none, and which are the last ones of `end` octets
abbrev pub IsCut : ℕ → List ℕ → UserFault → Type 0
IsCut end octets f =
    (es : List Element) × (rest : List ℕ) × Spans octets es rest × (0 < length rest)
    × ((e : Element) (after : List ℕ) → BeginsElement rest e after → ⊥) × (f ≡ faults.Element (end - length rest))

-- whether there is a Recovery element
abbrev pub has_recovery : List Element → Bool
has_recovery [] = false
has_recovery (Recovery ∷ es) = true
has_recovery (e ∷ es) = has_recovery es

-- what the first element of a type says
abbrev pub first_teid : List Element → Option ℕ
first_teid [] = None
first_teid (TeidData teid ∷ es) = Some teid
first_teid (e ∷ es) = first_teid es

abbrev pub first_peer : List Element → Option Ip
first_peer [] = None
first_peer (Peer address ∷ es) = Some address
first_peer (e ∷ es) = first_peer es

abbrev pub first_types : List Element → Option (List ℕ)
first_types [] = None
first_types (Types types ∷ es) = Some types
first_types (e ∷ es) = first_types es
