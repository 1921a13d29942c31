-- The parts of a session's address.
use Rattle.std.specs.Prelude.{ℕ, List, Bool, false, nat_eq, Option, Some, None}
use Rattle.std.specs.Cmp.Lexicographic.{pointwise}
use Rattle.gtp_values.specs.PdnAddress.{PdnAddress}
use Rattle.gtp_tables.specs.declared.pool.IpVersion.{IpVersion}
use Rattle.gtp_tables.specs.declared.pool.IpVersion.TheVariants.{V4, V6}

-- the part of this version
abbrev pub part_in : IpVersion → PdnAddress → Option (List ℕ)
part_in V4 a = a.v4
part_in V6 a = a.v6

abbrev pub part_of : IpVersion → Option PdnAddress → Option (List ℕ)
part_of version None = None
part_of version (Some a) = part_in version a

-- whether there are octets, and they are these
abbrev pub are_octets : List ℕ → Option (List ℕ) → Bool
are_octets octets None = false
are_octets octets (Some others) = pointwise nat_eq others octets
