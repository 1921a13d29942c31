-- What the code's readings of headers stand for.
use Rattle.std.specs.Prelude.{ℕ, List, map}
use Rattle.std.specs.Borrow.{Bor}
use Rattle.gtp_v2.specs.Headed.{Headed}
use Rattle.gtp_v2.specs.Viewed.{place_of}
use Rattle.gtp_lines.specs.All.{UserHead}
use Rattle.gtp_lines.specs.declared.header.Header.{Header}
use Rattle.gtp_lines.specs.declared.user_header.UserHeader.{UserHeader}
use Rattle.gtp_lines.specs.declared.extension_front.ChainFront.{ChainFront}
use Rattle.gtp_lines.specs.declared.extension_front.Begun.{Begun}
use Rattle.gtp_lines.specs.Fronts.{Front}
use Rattle.gtp_lines.specs.Fronts.{Begun as BegunHeader}
use Rattle.gtp_user.specs.Chain.{extension_of}

abbrev pub headed_of : Header → Headed
headed_of h = record { kind = h.kind; teid = h.teid; seq = h.seq; priority = h.priority; rest = h.rest.now; at = place_of h.teid }

-- a header, and the octets of a second message
abbrev pub pair_of : Header × Bor (List ℕ) → Headed × List ℕ
pair_of p = (headed_of p.0, p.1.now)

abbrev pub user_head_of : UserHeader → UserHead
user_head_of h = record { kind = h.kind; teid = h.teid; seq = h.seq; rest = h.rest.now }

-- the headers of a datagram at fault
abbrev pub front_seen : ChainFront → Front
front_seen f = record { headers = map extension_of f.headers.items; next = f.next; rest = f.rest.now }

-- one of them
abbrev pub begun_seen : Begun → BegunHeader
begun_seen b = record { content = b.content.now; next = b.next; rest = b.rest.now }

-- the type of the first one, and the octets behind it
abbrev pub chain_of : ℕ × Bor (List ℕ) → ℕ × List ℕ
chain_of p = (p.0, p.1.now)
