-- What stands before an IP packet in a frame, by the type of link.
use Rattle.std.specs.Prelude.{◌≡◌, ℕ, zero, suc, ◌≤◌, Bool, ◌||◌, ◌==◌, IsTrue, false, List, length, drop}
use Rattle.gtp_capture.specs.Octets.{two_at}

-- a type that says that a tag follows: 8100 (802.1Q), 88a8 (802.1ad), 9100 (used before 802.1ad), written with the base 16
abbrev pub is_tag : ℕ → Bool
is_tag kind = (kind == 33024) || ((kind == 34984) || (kind == 37120))

-- Octets that have this type are so many tags and then what has the other type. From octet 2 of a tag on stands the type of what follows.
abbrev pub IsTagged : ℕ → ℕ → List ℕ → ℕ → List ℕ → Type 0
IsTagged zero kind octets type inside = (is_tag kind ≡ false) × (type ≡ kind) × (inside ≡ octets)
IsTagged (suc tags) kind octets type inside = IsTrue (is_tag kind) × (4 ≤ length octets) × IsTagged tags (two_at 2 octets) (drop 4 octets) type inside
