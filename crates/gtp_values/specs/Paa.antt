-- Addresses of subscribers (TS 29.274 8.14).
use Rattle.std.specs.Prelude.{ℕ, IsTrue, ◌==◌, ◌||◌, ◌&&◌, nat_le}

-- a PDN type that is none of IPv4, IPv6 and IPv4v6, of the eight in three bits
abbrev pub IsOtherPdnType : ℕ → Type 0
IsOtherPdnType number = IsTrue ((number == 0) || (nat_le 4 number && nat_le number 7))
