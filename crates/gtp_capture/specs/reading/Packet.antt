-- The GTP datagram that a frame carries, by one reading.
use Rattle.std.specs.Prelude.{ℕ, List, length, drop, Option, Some, None, nat_lt, ◌==◌, ◌||◌, if◌then◌else◌}
use Rattle.gtp_capture.specs.Octets.{two_at, is_either}
use Rattle.gtp_capture.specs.reading.Steps.{◌>>=◌, or_else}
use Rattle.gtp_capture.specs.Internet.{Parcel}
use Rattle.gtp_capture.specs.Packet.{Packet, plane_at}
use Rattle.gtp_capture.specs.reading.Udp.{udp_in}
use Rattle.gtp_capture.specs.reading.Internet.{v4_in, v6_in}
use Rattle.gtp_capture.specs.reading.Link.{untagged}
use Rattle.gtp_capture.specs.declared.packet.Packet.{Packet as Held}
use Rattle.gtp_capture.specs.declared.ports.Ports.{Ports}

abbrev pub packet_of : Held → Packet
packet_of p = record { from = p.from; to = p.to; plane = p.plane; fragment = p.fragment; had = p.had; octets = p.octets.now }

-- in octets of this type
unfoldable pub internet_in : ℕ → List ℕ → Option Parcel
internet_in kind octets = untagged kind octets >>= λ t. (if t.kind == 2048 then v4_in t.inside else (if t.kind == 34525 then v6_in t.inside else None))

-- in a frame that has the type here, and what has it there
unfoldable pub typed_at : ℕ → ℕ → List ℕ → Option Parcel
typed_at at size frame = if nat_lt (length frame) size then None else internet_in (two_at at frame) (drop size frame)

-- in a frame that begins with a family of addresses
unfoldable pub family_in : List ℕ → Option Parcel
family_in frame =
    if nat_lt (length frame) 4 then None
    else (if is_either 2 frame then v4_in (drop 4 frame)
    else (if is_either 24 frame || (is_either 28 frame || is_either 30 frame) then v6_in (drop 4 frame)
    else None))

unfoldable pub inside_in : ℕ → List ℕ → Option Parcel
inside_in link frame =
    if (link == 0) || (link == 108) then family_in frame
    else (if link == 1 then typed_at 12 14 frame
    else (if (link == 12) || ((link == 14) || (link == 101)) then or_else (v4_in frame) (v6_in frame)
    else (if link == 113 then typed_at 14 16 frame
    else (if link == 228 then v4_in frame
    else (if link == 229 then v6_in frame
    else (if link == 276 then typed_at 0 20 frame
    else None))))))

unfoldable pub packet_in : Ports → ℕ → List ℕ → Option Packet
packet_in ports link frame = do
  p ← inside_in link frame
  u ← udp_in p.octets
  plane ← plane_at ports u.from u.to
  Some (record { from = record { ip = p.from; port = u.from }; to = record { ip = p.to; port = u.to }; plane = plane; fragment = p.fragment; had = u.had; octets = u.held })
