-- Which GTP datagram a frame carries.
use Rattle.std.specs.Prelude.{◌≡◌, ℕ, ◌≤◌, List, length, drop, Some, ◌⊎◌, ◌==◌, ◌||◌, IsTrue, false}
use Rattle.gtp_capture.specs.Octets.{two_at, is_either}
use Rattle.gtp_capture.specs.Link.{IsTagged}
use Rattle.gtp_capture.specs.Internet.{Parcel, IsV4, IsV6}
use Rattle.gtp_capture.specs.Udp.{Udp, IsUdp}
use Rattle.gtp_capture.specs.Packet.{Packet, plane_at}
use Rattle.gtp_capture.specs.reading.Packet.{packet_in}
use Rattle.gtp_capture.specs.declared.ports.Ports.{Ports}

-- a packet of IPv4, or of IPv6
abbrev pub CarriesV4 : List ℕ → Parcel → Type 0
CarriesV4 octets p = (words : ℕ) × (carried : ℕ) × IsV4 octets p words carried

abbrev pub CarriesV6 : List ℕ → Parcel → Type 0
CarriesV6 octets p = (headers : ℕ) × IsV6 octets p headers

-- any number of tags, and then a packet whose type is 0800 or 86dd, written with the base 16
abbrev pub CarriesTyped : ℕ → List ℕ → Parcel → Type 0
CarriesTyped kind octets p =
    (tags : ℕ) × (type : ℕ) × (inside : List ℕ) × IsTagged tags kind octets type inside
    × (((type ≡ 2048) × CarriesV4 inside p) ⊎ ((type ≡ 34525) × CarriesV6 inside p))

-- a frame of which so many octets stand before what it carries, and the type of that here
abbrev pub CarriesAt : ℕ → ℕ → List ℕ → Parcel → Type 0
CarriesAt at size frame p = (size ≤ length frame) × CarriesTyped (two_at at frame) (drop size frame) p

-- a family of addresses in four octets, in either order: 2, or one of those that systems give IPv6
abbrev pub IsFamily : ℕ → List ℕ → Type 0
IsFamily n frame = IsTrue (is_either n frame)

abbrev pub CarriesFamily : List ℕ → Parcel → Type 0
CarriesFamily frame p = (4 ≤ length frame) × ((IsFamily 2 frame × CarriesV4 (drop 4 frame) p)
    ⊎ ((is_either 2 frame ≡ false) × IsTrue (is_either 24 frame || (is_either 28 frame || is_either 30 frame)) × CarriesV6 (drop 4 frame) p))

-- by the link's type, as tcpdump numbers them: null and loop; Ethernet; raw packets; Linux cooked; raw IPv4; raw IPv6; Linux cooked, the second form
abbrev pub InFrame : ℕ → List ℕ → Parcel → Type 0
InFrame link frame p =
    (IsTrue ((link == 0) || (link == 108)) × CarriesFamily frame p)
    ⊎ (((link ≡ 1) × CarriesAt 12 14 frame p)
    ⊎ ((IsTrue ((link == 12) || ((link == 14) || (link == 101))) × (CarriesV4 frame p ⊎ CarriesV6 frame p))
    ⊎ (((link ≡ 113) × CarriesAt 14 16 frame p)
    ⊎ (((link ≡ 228) × CarriesV4 frame p)
    ⊎ (((link ≡ 229) × CarriesV6 frame p)
    ⊎ ((link ≡ 276) × CarriesAt 0 20 frame p))))))

-- The frame carries a UDP datagram with a plane by its ports, or its first fragment.
abbrev pub Carries : Ports → ℕ → List ℕ → Packet → Type 0
Carries ports link frame d = (p : Parcel) × (u : Udp) × InFrame link frame p × IsUdp p.octets u × (plane_at ports u.from u.to ≡ Some d.plane)
    × (d.from ≡ record { ip = p.from; port = u.from }) × (d.to ≡ record { ip = p.to; port = u.to }) × (d.fragment ≡ p.fragment) × (d.had ≡ u.had) × (d.octets ≡ u.held)

-- what is read of a frame is what it carries, and what it carries is read
abbrev pub ReadsWhatIsCarried : Type 0
ReadsWhatIsCarried =
    (ports : Ports) (link : ℕ) (frame : List ℕ) (d : Packet)
    → (packet_in ports link frame ≡ Some d → Carries ports link frame d)
    × (Carries ports link frame d → packet_in ports link frame ≡ Some d)
