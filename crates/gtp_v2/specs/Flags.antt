-- The first octet of a message (TS 29.274 5.1): version 2 in its three highest bits, and the flags.
use Rattle.std.specs.Prelude.{ℕ}

abbrev pub version_2 : ℕ
version_2 = 64

-- P: another message follows in the datagram (5.5.1)
abbrev pub piggybacking : ℕ
piggybacking = 16

-- T: the header has a TEID
abbrev pub with_teid : ℕ
with_teid = 8

-- MP: the header has a message priority
abbrev pub with_priority : ℕ
with_priority = 4
