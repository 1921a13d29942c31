-- The addresses of both pools, and the sessions that have them.
use Rattle.std.specs.Prelude.{◌≡◌, ◌≢◌, ℕ, ◌+◌, ◌<◌, List, ◌++◌, ◌||◌, drop, Bool, true, Option, Some, None, is_some, IsTrue}
use Rattle.std.specs.FinMap.{get}
use Rattle.std.specs.Int.{w32, w64, to_be_bytes}
use Rattle.gtp_values.specs.FiniteMap.{FiniteMap}
use Rattle.gtp_values.specs.PdnAddress.{PdnAddress}
use Rattle.gtp_tables.specs.declared.context.Session.{Session}
pub use Rattle.gtp_tables.specs.declared.pool.Asked.{Asked}
pub use Rattle.gtp_tables.specs.declared.pool.Pools.{Pools}
pub use Rattle.gtp_tables.specs.declared.pool.IpVersion.{IpVersion}
pub use Rattle.gtp_tables.specs.declared.pool.IpVersion.TheVariants.{V4, V6}
use Rattle.gtp_tables.specs.Pool.{prefix_of}
use Rattle.gtp_tables.specs.Part.{part_of}

-- how many addresses there are
abbrev pub count_of : Pools → IpVersion → ℕ
count_of pools V4 = pools.v4.count
count_of pools V6 = pools.v6.count

-- The address with this place, from 0: the number after so many others; or the same last eight octets under the prefix after so many others.
abbrev pub address_at : Pools → IpVersion → ℕ → List ℕ
address_at pools V4 place = to_be_bytes w32 (pools.v4.start + place)
address_at pools V6 place = to_be_bytes w64 (prefix_of pools.v6.start + place) ++ drop 8 pools.v6.start

-- it is the address with this place, and with no other
pub record IsPlaceOf (pools : Pools) (version : IpVersion) (part : Option (List ℕ)) (place : ℕ) : Type 0 where
  pub in_pool : place < count_of pools version
  pub has : part ≡ Some (address_at pools version place)
  pub one : (p : ℕ) → p < count_of pools version → part ≡ Some (address_at pools version p) → p ≡ place

-- a session has the address, as its part of this version
pub record HasAddress (version : IpVersion) (sessions : FiniteMap Session) (address : List ℕ) : Type 0 where
  pub teid : ℕ
  pub session : Session
  pub stands : get sessions teid ≡ Some session
  pub has : part_of version session.address ≡ Some address

-- no session has the address
abbrev pub IsUnusedAddress : IpVersion → FiniteMap Session → List ℕ → Type 0
IsUnusedAddress version sessions address = (t : ℕ) (s : Session) → get sessions t ≡ Some s → part_of version s.address ≢ Some address

-- an address of the pool of this version that no session has, and sessions have all lower ones
pub record IsLowestFree (version : IpVersion) (sessions : FiniteMap Session) (pools : Pools) (address : List ℕ) : Type 0 where
  pub place : ℕ
  pub in_pool : place < count_of pools version
  pub is : address ≡ address_at pools version place
  pub unused : IsUnusedAddress version sessions address
  pub lower : (p : ℕ) → p < place → HasAddress version sessions (address_at pools version p)

-- sessions have all addresses of the pool of this version
abbrev pub IsUsedUp : IpVersion → FiniteMap Session → Pools → Type 0
IsUsedUp version sessions pools = (p : ℕ) → p < count_of pools version → HasAddress version sessions (address_at pools version p)

-- whether this version is asked for
abbrev pub asks_for : Asked → IpVersion → Bool
asks_for asked V4 = asked.v4
asks_for asked V6 = asked.v6

-- what is given of this version: the lowest address that is free, where it is asked for and there is one, and else none
abbrev pub IsLowestPart : FiniteMap Session → Pools → Asked → IpVersion → Option (List ℕ) → Type 0
IsLowestPart sessions pools asked version None = asks_for asked version ≡ true → IsUsedUp version sessions pools
IsLowestPart sessions pools asked version (Some address) = (asks_for asked version ≡ true) × IsLowestFree version sessions pools address

-- an address of the versions that are asked for
pub record IsLowestGiven (sessions : FiniteMap Session) (pools : Pools) (asked : Asked) (address : PdnAddress) : Type 0 where
  pub v4 : IsLowestPart sessions pools asked V4 address.v4
  pub v6 : IsLowestPart sessions pools asked V6 address.v6
  pub some_part : IsTrue (is_some address.v4 || is_some address.v6)

-- sessions have all addresses of each version that is asked for
abbrev pub AreUsedUp : FiniteMap Session → Pools → Asked → Type 0
AreUsedUp sessions pools asked = (version : IpVersion) → asks_for asked version ≡ true → IsUsedUp version sessions pools
