-- What the octets of a UDP datagram carry, by one reading.
use Rattle.std.specs.Prelude.{ℕ, ◌-◌, List, length, take, drop, Option, Some, None, nat_lt, if◌then◌else◌}
use Rattle.gtp_capture.specs.Octets.{two_at}
use Rattle.gtp_capture.specs.Udp.{Udp}
use Rattle.gtp_capture.specs.declared.udp.Udp.{Udp as Held}

abbrev pub udp_of : Held → Udp
udp_of u = record { from = u.from; to = u.to; had = u.had; held = u.held.now }

unfoldable pub udp_in : List ℕ → Option Udp
udp_in octets =
    if nat_lt (length octets) 8 then None
    else (if nat_lt (two_at 4 octets) 8 then None
    else Some (record { from = two_at 0 octets; to = two_at 2 octets; had = two_at 4 octets - 8; held = take (two_at 4 octets - 8) (drop 8 octets) }))
