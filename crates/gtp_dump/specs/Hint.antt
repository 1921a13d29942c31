-- What octets are in place of a datagram.
use Rattle.std.specs.Prelude.{ℕ, ◌+◌, ◌*◌, ◌/◌, ◌==◌, ◌||◌, ◌&&◌, nat_le, nat_lt, Bool, if◌then◌else◌, List, length, slice_index, Option, Some, None}
use Rattle.gtp_dump.specs.declared.hint.Hint.{Hint}
use Rattle.gtp_dump.specs.declared.hint.Hint.TheVariants as hints

-- two octets, the first of them at this place, as a number
abbrev pub number_at : List ℕ → ℕ → ℕ
number_at octets place = slice_index octets place * 256 + slice_index octets (place + 1)

abbrev pub version_at : List ℕ → ℕ → ℕ
version_at octets place = slice_index octets place / 16

-- behind two addresses of six octets stands 0x0800 before a packet of version 4, or 0x86dd before one of version 6
abbrev pub is_frame : List ℕ → Bool
is_frame octets = ((number_at octets 12 == 0x0800) && (version_at octets 14 == 4)) || ((number_at octets 12 == 0x86dd) && (version_at octets 14 == 6))

-- a packet of version 4 with a header of 20 to 28 octets, which no header of GTP begins as, and more behind it; or one of version 6, which none of GTP has
abbrev pub is_packet_4 : List ℕ → Bool
is_packet_4 octets = ((nat_le 0x45 (slice_index octets 0) && nat_le (slice_index octets 0) 0x47) && nat_le 20 (length octets)) && nat_lt 20 (number_at octets 2)

abbrev pub is_packet_6 : List ℕ → Bool
is_packet_6 octets = (version_at octets 0 == 6) && nat_le 40 (length octets)

-- two octets that are 0 begin no datagram, but an offset
abbrev pub is_offset : List ℕ → Bool
is_offset octets = nat_le 2 (length octets) && (number_at octets 0 == 0)

abbrev pub hint_of : List ℕ → Option Hint
hint_of octets =
    if is_frame octets then Some hints.Frame
    else if is_packet_4 octets || is_packet_6 octets then Some hints.Packet
    else if is_offset octets then Some hints.Offset
    else None
