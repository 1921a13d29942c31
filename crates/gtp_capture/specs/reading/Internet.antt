-- The UDP datagram that an IP packet carries, whole or its first fragment, by one reading.
use Rattle.std.specs.Prelude.{ℕ, zero, suc, ◌+◌, ◌-◌, ◌*◌, ◌/◌, ◌%◌, List, length, take, drop, slice_index, slice_range, Option, Some, None, nat_lt, ◌==◌, ◌||◌, Bool, false, if◌then◌else◌}
use Rattle.gtp_values.specs.declared.address.Ip.TheVariants.{V4, V6}
use Rattle.gtp_capture.specs.Octets.{two_at}
use Rattle.gtp_capture.specs.Internet.{Parcel, is_passed}
use Rattle.gtp_capture.specs.reading.Steps.{◌>>=◌}
use denote.Ref.{Bor}
use Rattle.gtp_capture.specs.declared.internet.Parcel.{Parcel as Held}
use Rattle.gtp_capture.specs.declared.internet.Header.{Header as HeldHeader}
use Rattle.gtp_capture.specs.declared.internet.Inside.{Inside as HeldInside}

abbrev pub parcel_of : Held → Parcel
parcel_of p = record { from = p.from; to = p.to; fragment = p.fragment; octets = p.octets.now }

-- after a header of this size
abbrev pub v4_after : ℕ → List ℕ → Option Parcel
v4_after size octets =
    if nat_lt size 20 then None
    else (if nat_lt (two_at 2 octets) size then None
    else (if nat_lt (length octets) size then None
    else Some (record {
      from = V4 (slice_range octets 12 16);
      to = V4 (slice_range octets 16 20);
      fragment = two_at 6 octets / 8192 % 2 == 1;
      octets = take (two_at 2 octets - size) (drop size octets);
    })))

unfoldable pub v4_in : List ℕ → Option Parcel
v4_in octets =
    if nat_lt (length octets) 20 then None
    else (if slice_index octets 0 / 16 == 4
    then (if slice_index octets 9 == 17
    then (if two_at 6 octets % 8192 == 0 then v4_after (4 * (slice_index octets 0 % 16)) octets else None)
    else None)
    else None)

-- a header to pass over: the kind of what follows, whether more fragments follow, and the octets behind it
pub record Header : Type 0 where
  pub next : ℕ
  pub more : Bool
  pub rest : List ℕ

abbrev pub header_of : HeldHeader → Header
header_of h = record { next = h.next; more = h.more; rest = h.rest.now }

-- one that says how long it is
abbrev pub sized_in : List ℕ → Option Header
sized_in octets =
    if nat_lt (length octets) (8 * slice_index octets 1 + 8) then None
    else Some (record { next = slice_index octets 0; more = false; rest = drop (8 * slice_index octets 1 + 8) octets })

-- one of a fragment
abbrev pub fragment_in : List ℕ → Option Header
fragment_in octets =
    if two_at 2 octets / 8 == 0 then Some (record { next = slice_index octets 0; more = two_at 2 octets % 2 == 1; rest = drop 8 octets })
    else None

abbrev pub header_in : ℕ → List ℕ → Option Header
header_in kind octets =
    if nat_lt (length octets) 8 then None
    else (if is_passed kind then sized_in octets
    else (if kind == 44 then fragment_in octets
    else None))

abbrev pub chained_of : Bor (List ℕ) → List ℕ
chained_of b = b.now

-- a UDP datagram behind headers: whether it is a fragment, and its octets
pub record Inside : Type 0 where
  pub fragment : Bool
  pub octets : List ℕ

abbrev pub inside_of : HeldInside → Inside
inside_of i = record { fragment = i.fragment; octets = i.octets.now }

-- behind at most so many headers
abbrev pub chain_in : ℕ → ℕ → Bool → List ℕ → Option Inside
chain_in zero kind before octets = if kind == 17 then Some (record { fragment = before; octets = octets }) else None
chain_in (suc steps) kind before octets =
    if kind == 17 then Some (record { fragment = before; octets = octets }) else (header_in kind octets >>= λ h. chain_in steps h.next (before || h.more) h.rest)

-- behind any number of headers
unfoldable pub chain : ℕ → List ℕ → Option Inside
chain kind octets = chain_in (length octets) kind false octets

unfoldable pub v6_in : List ℕ → Option Parcel
v6_in octets =
    if nat_lt (length octets) 40 then None
    else (if slice_index octets 0 / 16 == 6
    then (chain (slice_index octets 6) (take (two_at 4 octets) (drop 40 octets)) >>= λ inside.
    Some (record { from = V6 (slice_range octets 8 24); to = V6 (slice_range octets 24 40); fragment = inside.fragment; octets = inside.octets }))
    else None)
