-- Requests in an order: by the version of the address where one came from, then by its octets, then
-- by port, then by the octets of the request from its sequence number on (TS 29.274 5.1), and then by
-- all of them.
use Rattle.std.specs.Prelude.{ℕ, List, drop}
use Rattle.std.specs.declared.cmp.Ordering.{Ordering}
use Rattle.std.specs.Cmp.Lexicographic.{slice_cmp}
use Rattle.std.specs.Ordering.{nat_cmp, ordering_then}
use Rattle.gtp_values.specs.declared.address.Endpoint.{Endpoint}
use Rattle.gtp_values.specs.declared.address.Ip.{Ip}
use Rattle.gtp_values.specs.declared.address.Ip.TheVariants.{V4, V6}
use Rattle.gtp_reliable.specs.Held.{Question}

abbrev pub version : Ip → ℕ
version (V4 octets) = 4
version (V6 octets) = 6

abbrev pub address_octets : Ip → List ℕ
address_octets (V4 octets) = octets
address_octets (V6 octets) = octets

abbrev pub ip_cmp : Ip → Ip → Ordering
ip_cmp a b =
    ordering_then (nat_cmp (version a) (version b))
    (slice_cmp nat_cmp (address_octets a) (address_octets b))

abbrev pub source_cmp : Endpoint → Endpoint → Ordering
source_cmp a b = ordering_then (ip_cmp a.ip b.ip) (nat_cmp a.port b.port)

-- the octets from the sequence number on
abbrev pub from_number : List ℕ → List ℕ
from_number octets = drop 8 octets

abbrev pub octets_cmp : List ℕ → List ℕ → Ordering
octets_cmp a b =
    ordering_then (slice_cmp nat_cmp (from_number a) (from_number b)) (slice_cmp nat_cmp a b)

abbrev pub question_cmp : Question → Question → Ordering
question_cmp a b = ordering_then (source_cmp a.source b.source) (octets_cmp a.octets b.octets)
