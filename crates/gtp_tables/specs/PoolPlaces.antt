-- How many sessions have the address with each place of a pool.
use Rattle.std.specs.Prelude.{◌≡◌, ℕ, ◌<◌, List, length, filter, slice_index, Option, IfSome, false}
use Rattle.gtp_tables.specs.declared.context.Session.{Session}
use Rattle.gtp_tables.specs.declared.pool_places.PoolPlaces.{PoolPlaces}
use Rattle.gtp_tables.specs.Contexts.{takes}
use Rattle.gtp_tables.specs.Free.{Pools, IpVersion, V4, V6, count_of, address_at}

-- how many of the sessions have the address with this place
abbrev pub users_of : Pools → IpVersion → ℕ → List Session → ℕ
users_of pools version place sessions = length (filter (takes false version (address_at pools version place)) sessions)

-- the counts are those of these sessions
pub record IsCounted (pools : Pools) (version : IpVersion) (sessions : List Session) (counts : List ℕ) : Type 0 where
  pub long : length counts ≡ count_of pools version
  pub counted : (place : ℕ) → place < count_of pools version → slice_index counts place ≡ users_of pools version place sessions

-- the counts of both versions are those of these sessions
pub record AreCounted (sessions : List Session) (places : PoolPlaces) : Type 0 where
  pub v4 : IsCounted places.pools V4 sessions places.v4
  pub v6 : IsCounted places.pools V6 sessions places.v6

-- how many sessions have the address with each place of this version
abbrev pub counts_in : PoolPlaces → IpVersion → List ℕ
counts_in places V4 = places.v4
counts_in places V6 = places.v6

-- where places are counted, they are those of these sessions
abbrev pub AreCountedIn : List Session → Option PoolPlaces → Type 0
AreCountedIn sessions places = IfSome places (AreCounted sessions)
