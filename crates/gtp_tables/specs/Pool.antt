-- Pools of addresses.
use Rattle.std.specs.Prelude.{◌≡◌, ℕ, ◌+◌, ◌≤◌, ◌^◌, List, length, take}
use Rattle.std.proofs.Math.ListN.{replicate}
use Rattle.std.specs.Int.{w64, from_be_bytes}

-- IPv4 addresses in a row, as numbers: the first, and how many
pub record Range : Type 0 where
  pub start : ℕ
  pub count : ℕ

-- a pool has at most 65,536 addresses, and ends at 255.255.255.255 at the latest
pub record IsPool (pool : Range) : Type 0 where
  pub few : pool.count ≤ 65536
  pub within : pool.start + pool.count ≤ 2 ^ 32

-- IPv6 addresses, one under each of some prefixes of 64 bits in a row: the octets of the first, and how many
pub record Prefixes : Type 0 where
  pub start : List ℕ
  pub count : ℕ

-- the prefix of an address (TS 23.401 5.3.1.2.2): the number that its first eight octets stand for
abbrev pub prefix_of : List ℕ → ℕ
prefix_of octets = from_be_bytes w64 (take 8 octets)

-- at most 65,536 of them, up to the last prefix that there is
pub record ArePrefixes (pool : Prefixes) : Type 0 where
  pub long : length pool.start ≡ 16
  pub few : pool.count ≤ 65536
  pub within : prefix_of pool.start + pool.count ≤ 2 ^ 64

-- none
abbrev pub no_prefixes : Prefixes
no_prefixes = record { start = replicate 16 0; count = 0 }
