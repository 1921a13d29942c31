-- What is written, in parts; the sum that a checksum is taken of, from the last octets on.
use Rattle.std.specs.Prelude.{ℕ, List, [], ◌∷◌, ◌++◌, ◌≡◌}
use Rattle.std.specs.Int.{w16, from_be_bytes}
use Rattle.gtp_capture.specs.Writing.{Sent, two, four, ones_plus, IsChecksum, header_v4}

-- the number in the first two octets
abbrev pub first_number : List ℕ → ℕ
first_number (a ∷ b ∷ octets) = from_be_bytes w16 (a ∷ b ∷ [])
first_number (a ∷ []) = from_be_bytes w16 (a ∷ 0 ∷ [])
first_number [] = 0

-- of the numbers in octets, two for each, and of a further one
abbrev pub ones_onto : List ℕ → ℕ → ℕ
ones_onto (a ∷ b ∷ octets) further = ones_plus (from_be_bytes w16 (a ∷ b ∷ [])) (ones_onto octets further)
ones_onto (a ∷ []) further = ones_plus (from_be_bytes w16 (a ∷ 0 ∷ [])) further
ones_onto [] further = further

-- a header of IPv4 up to its addresses, with this checksum
abbrev pub front_v4 : ℕ → ℕ → ℕ → List ℕ
front_v4 sum size identification = 69 ∷ 0 ∷ [] ++ two size ++ two identification ++ (0 ∷ 0 ∷ 64 ∷ 17 ∷ []) ++ two sum

-- one of IPv6, that carries so many octets
abbrev pub front_v6 : ℕ → List ℕ
front_v6 size = 96 ∷ 0 ∷ 0 ∷ 0 ∷ [] ++ two size ++ (17 ∷ 64 ∷ [])

-- a header of UDP with this checksum
abbrev pub udp_head : ℕ → ℕ → ℕ → ℕ → List ℕ
udp_head sum from_port to_port size = two from_port ++ two to_port ++ two size ++ two sum

-- a pseudo header behind its addresses
abbrev pub pseudo_tail : ℕ → List ℕ
pseudo_tail size = four size ++ (0 ∷ 0 ∷ 0 ∷ 17 ∷ [])

-- octets grow by a header of IPv4 with its checksum
abbrev pub WritesHeader : List ℕ → List ℕ → Sent → List ℕ → List ℕ → Type 0
WritesHeader old new d from to = (sum : ℕ) × IsChecksum (header_v4 0 d from to) sum × (new ≡ old ++ header_v4 sum d from to)
