-- IP packets that carry a UDP datagram, whole or its first fragment: IPv4 (RFC 791, 3.1) and IPv6 (RFC 8200, 3, 4.3 to 4.6).
use Rattle.std.specs.Prelude.{◌≡◌, ℕ, zero, suc, Bool, false, ◌||◌, ◌==◌, IsTrue, ◌+◌, ◌*◌, ◌/◌, ◌%◌, ◌≤◌, ◌<◌, ◌⊎◌, List, length, take, drop, slice_index, slice_range}
use Rattle.gtp_values.specs.declared.address.Ip.{Ip}
use Rattle.gtp_values.specs.declared.address.Ip.TheVariants.{V4, V6}
use Rattle.gtp_capture.specs.Octets.{two_at}

-- the addresses that it is from and to, whether it is the first of several fragments, and the octets of the UDP datagram that are held
pub record Parcel : Type 0 where
  pub from : Ip
  pub to : Ip
  pub fragment : Bool
  pub octets : List ℕ

-- Octet 0 is the version, 4, and how many times four octets the header has, five or more; from octet 2 on stands the length of all; octet 9 is the protocol, 17; from 12 and
-- 16 on stand the addresses. From 6 on stand three flags (reserved, do not fragment, more fragments) and the offset of a fragment, thirteen bits: 0, of a whole packet or a
-- first fragment; a packet is a fragment if more follow (RFC 791, 3.1). After the header comes what it carries, up to the length of all.
pub record IsV4 (octets : List ℕ) (p : Parcel) (words carried : ℕ) : Type 0 where
  pub first : slice_index octets 0 ≡ 64 + words
  pub few : words < 16
  pub some : 5 ≤ words
  pub head : 4 * words ≤ length octets
  pub size : two_at 2 octets ≡ 4 * words + carried
  pub offset : two_at 6 octets % 8192 ≡ 0
  pub more : p.fragment ≡ (two_at 6 octets / 8192 % 2 == 1)
  pub protocol : slice_index octets 9 ≡ 17
  pub from : p.from ≡ V4 (slice_range octets 12 16)
  pub to : p.to ≡ V4 (slice_range octets 16 20)
  pub inside : p.octets ≡ take carried (drop (4 * words) octets)

-- the extension headers that say how long they are: hop-by-hop options (RFC 8200, 4.3), routing (4.4), destination options (4.6)
abbrev pub is_passed : ℕ → Bool
is_passed kind = (kind == 0) || ((kind == 43) || (kind == 60))

-- A header of this kind that is passed over: how many octets it has, and whether it says that more fragments follow. Octet 1 is how many times eight octets it has after its
-- first eight. Kind 44 is a fragment header, of eight octets (RFC 8200, 4.5): from octet 2 on stand the offset, thirteen bits, two reserved ones, and the flag for more
-- fragments. The offset is 0 in a first fragment, and in a packet that is whole: there no more follow (RFC 6946).
abbrev pub IsHeader : ℕ → List ℕ → ℕ → Bool → Type 0
IsHeader kind octets size more =
    (IsTrue (is_passed kind) × (size ≡ 8 * slice_index octets 1 + 8) × (more ≡ false))
    ⊎ ((kind ≡ 44) × (size ≡ 8) × (two_at 2 octets / 8 ≡ 0) × (more ≡ (two_at 2 octets % 2 == 1)))

-- Octets whose first header is of this kind are so many headers and then a UDP datagram, kind 17. Octet 0 of a header is the kind of what follows it. The datagram is the first
-- fragment of several if one of the headers says that more follow, or one before these octets did. Behind a header of another kind, or of a later fragment, nothing is read.
abbrev pub IsChain : ℕ → ℕ → Bool → List ℕ → Bool → List ℕ → Type 0
IsChain zero kind before octets fragment inside = (kind ≡ 17) × (fragment ≡ before) × (inside ≡ octets)
IsChain (suc n) kind before octets fragment inside =
    (size : ℕ) × (more : Bool) × IsHeader kind octets size more × (size ≤ length octets) × IsChain n (slice_index octets 0) (before || more) (drop size octets) fragment inside

-- Octet 0 begins with the version, 6; from octet 4 on stands the length of what the header carries, octet 6 is the kind of what follows it, and from 8 and 24 on stand the addresses.
pub record IsV6 (octets : List ℕ) (p : Parcel) (headers : ℕ) : Type 0 where
  pub head : 40 ≤ length octets
  pub first : slice_index octets 0 / 16 ≡ 6
  pub from : p.from ≡ V6 (slice_range octets 8 24)
  pub to : p.to ≡ V6 (slice_range octets 24 40)
  pub chain : IsChain headers (slice_index octets 6) false (take (two_at 4 octets) (drop 40 octets)) p.fragment p.octets
