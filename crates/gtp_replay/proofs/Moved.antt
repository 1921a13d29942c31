-- Octets that were read.
use Rattle.std.proofs.Common.{ℕ, ◌+◌, ◌≤◌, List, ◌++◌, length, Option, length-append, arith}
use Rattle.std.proofs.KnownBytes.{Consumes-trans}
use Rattle.std.specs.Io.KnownBytes.{Consumes}
use Rattle.gtp_replay.specs.Streams.{ConsumesUpTo}

pub more_read : (most : ℕ) (a b c : Option (List ℕ)) (octets more : List ℕ) → Consumes a b octets → Consumes b c more → length octets + length more ≤ most → ConsumesUpTo most a c
more_read most a b c octets more h i fits = (octets ++ more, omega (arith, length-append octets more), Consumes-trans a b c octets more h i)
