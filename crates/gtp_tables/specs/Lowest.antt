-- The lowest places that are free.
use Rattle.std.specs.Prelude.{◌≡◌, ℕ, ◌<◌, List, Bool, true, false, not, ◌==◌, slice_index, Option, Some, None}
use Rattle.std.specs.List.{list_any}
use Rattle.gtp_tables.specs.declared.context.Session.{Session}
use Rattle.gtp_tables.specs.declared.pool.Places.{Places}
use Rattle.gtp_tables.specs.Contexts.{takes}
use Rattle.gtp_tables.specs.Free.{Pools, IpVersion, V4, V6, count_of, address_at}

-- a free place below a count, and all lower ones are taken
pub record IsLowest (count : ℕ) (taken : ℕ → Bool) (place : ℕ) : Type 0 where
  pub within : place < count
  pub free : taken place ≡ false
  pub lower : (p : ℕ) → p < place → taken p ≡ true

-- the lowest place below a count that is free, none where all are taken
abbrev pub IsFirstFree : ℕ → (ℕ → Bool) → Option ℕ → Type 0
IsFirstFree count taken None = (p : ℕ) → p < count → taken p ≡ true
IsFirstFree count taken (Some place) = IsLowest count taken place

-- whether a place is marked: not by zero
abbrev pub is_marked : List ℕ → ℕ → Bool
is_marked marks place = not (slice_index marks place == 0)

-- whether a session that is seen has the address with this place
abbrev pub is_taken : Bool → IpVersion → Pools → List Session → ℕ → Bool
is_taken restarted version pools sessions place = list_any (takes restarted version (address_at pools version place)) sessions

-- the lowest place of this version whose address no session has that is seen
abbrev pub IsLowestPlace : Bool → IpVersion → Pools → List Session → Option ℕ → Type 0
IsLowestPlace restarted version pools sessions found = IsFirstFree (count_of pools version) (is_taken restarted version pools sessions) found

-- the place of this version
abbrev pub place_in : Places → IpVersion → Option ℕ
place_in places V4 = places.v4
place_in places V6 = places.v6
