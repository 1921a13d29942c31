-- Reading functions, for private contracts and proofs: information elements, one after the other.
use Rattle.std.specs.Prelude.{ℕ, zero, suc, ◌+◌, ◌-◌, ◌*◌, List, [], ◌∷◌, length, take, drop, Bool, Option, Some, None, ◌||◌, Result, Ok, Err, nat_lt, ◌==◌, if◌then◌else◌}
use Rattle.std.specs.Int.{w32, from_be_bytes}
use Rattle.gtp_values.specs.declared.address.Ip.{Ip}
use Rattle.gtp_values.specs.declared.address.Ip.TheVariants as addresses
use Rattle.gtp_user.specs.declared.fault.UserFault.{UserFault}
use Rattle.gtp_user.specs.declared.fault.UserFault.TheVariants as faults
use Rattle.gtp_values.specs.Steps.{◌>>=◌}
use Rattle.gtp_user.specs.Element.{Element, Recovery, TeidData, Peer, Types, Skipped, has_recovery, first_teid, first_peer, first_types}

-- so many octets, and those after them
abbrev pub split : ℕ → List ℕ → Option (List ℕ × List ℕ)
split size octets = if nat_lt (length octets) size then None else Some (take size octets, drop size octets)

-- the body after a length in two octets, and the octets after it
abbrev pub split_body : List ℕ → Option (List ℕ × List ℕ)
split_body (high ∷ low ∷ tail) = split (256 * high + low) tail
split_body octets = None

abbrev pub recovery_at : List ℕ → Option (Element × List ℕ)
recovery_at [] = None
recovery_at (counter ∷ rest) = Some (Recovery, rest)

abbrev pub teid_at : List ℕ → Option (Element × List ℕ)
teid_at (a ∷ b ∷ c ∷ d ∷ rest) = Some (TeidData (from_be_bytes w32 (a ∷ b ∷ c ∷ d ∷ [])), rest)
teid_at octets = None

abbrev pub types_of : Option (List ℕ × List ℕ) → Option (Element × List ℕ)
types_of None = None
types_of (Some p) = Some (Types p.0, p.1)

abbrev pub types_at : List ℕ → Option (Element × List ℕ)
types_at [] = None
types_at (size ∷ tail) = types_of (split size tail)

-- an address of four octets, or of sixteen
abbrev pub address_of : List ℕ → Option Ip
address_of octets = if length octets == 4 then Some (addresses.V4 octets) else (if length octets == 16 then Some (addresses.V6 octets) else None)

abbrev pub with_rest : List ℕ → Option Ip → Option (Element × List ℕ)
with_rest rest None = None
with_rest rest (Some address) = Some (Peer address, rest)

abbrev pub peer_of : Option (List ℕ × List ℕ) → Option (Element × List ℕ)
peer_of None = None
peer_of (Some p) = with_rest p.1 (address_of p.0)

abbrev pub skipped_of : Option (List ℕ × List ℕ) → Option (Element × List ℕ)
skipped_of None = None
skipped_of (Some p) = Some (Skipped, p.1)

-- the element at the start, and the octets after it
unfoldable pub element_at : List ℕ → Option (Element × List ℕ)
element_at [] = None
element_at (kind ∷ tail) =
    if kind == 14 then recovery_at tail
    else (if kind == 16 then teid_at tail
    else (if kind == 133 then peer_of (split_body tail)
    else (if kind == 141 then types_at tail
    else (if nat_lt kind 128 then None else skipped_of (split_body tail)))))

-- what follows an element, or the place where there is none
abbrev pub go_on : ℕ → (List ℕ → Result (List Element) UserFault) → Option (Element × List ℕ) → Result (List Element) UserFault
go_on at others None = Err (faults.Element at)
go_on at others (Some p) = others p.1 >>= λ es. Ok (p.0 ∷ es)

-- the elements, in at most so many steps
unfoldable pub elements_in : ℕ → ℕ → List ℕ → Result (List Element) UserFault
elements_in steps end [] = Ok []
elements_in zero end (octet ∷ octets) = Err (faults.Element (end - length (octet ∷ octets)))
elements_in (suc steps) end (octet ∷ octets) = go_on (end - length (octet ∷ octets)) (elements_in steps end) (element_at (octet ∷ octets))

-- all elements of the last octets of a datagram of `end` octets
unfoldable pub elements_at : ℕ → List ℕ → Result (List Element) UserFault
elements_at end octets = elements_in (length octets) end octets

-- the first element of each type
pub record Found : Type 0 where
  pub recovery : Bool
  pub teid : Option ℕ
  pub peer : Option Ip
  pub types : Option (List ℕ)

unfoldable pub found_in : List Element → Found
found_in es = record { recovery = has_recovery es; teid = first_teid es; peer = first_peer es; types = first_types es }

-- the first one
abbrev pub or_else : {X : Type 0} → Option X → Option X → Option X
or_else (Some x) o = Some x
or_else None o = o

-- what was found before, and then this
abbrev pub and_found : Found → Found → Found
and_found f g = record { recovery = f.recovery || g.recovery; teid = or_else f.teid g.teid; peer = or_else f.peer g.peer; types = or_else f.types g.types }
