-- UDP datagrams (RFC 768).
use Rattle.std.specs.Prelude.{◌≡◌, ℕ, ◌+◌, ◌≤◌, ◌<◌, List, length, take, drop}
use Rattle.gtp_capture.specs.Octets.{two_at}

-- the ports, how many octets it carries, and those that are held
pub record Udp : Type 0 where
  pub from : ℕ
  pub to : ℕ
  pub had : ℕ
  pub held : List ℕ

-- From octet 0 on the port it is from, from 2 the one it is to, from 4 the length of all, from 6 a checksum, from 8 what it carries. A length above the octets that are there is
-- the datagram's all the same: of what it carries all that is there is held.
pub record IsUdp (octets : List ℕ) (u : Udp) : Type 0 where
  pub head : 8 ≤ length octets
  pub from : u.from ≡ two_at 0 octets
  pub to : u.to ≡ two_at 2 octets
  pub size : 8 + u.had ≡ two_at 4 octets
  pub whole : two_at 4 octets ≤ length octets → u.held ≡ take u.had (drop 8 octets)
  pub cut : length octets < two_at 4 octets → u.held ≡ drop 8 octets
