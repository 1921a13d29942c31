-- The places that no session has.
use Rattle.std.specs.Prelude.{◌≡◌, ℕ, ◌*◌, ◌^◌, ◌≤◌, List, length, not, ◌&&◌, nat_lt}
use Rattle.gtp_tables.specs.Lowest.{is_marked}
use Rattle.gtp_tables.specs.PlaceSet.{has_place}

-- the set has the places that no session has
pub record AreFree (counts free : List ℕ) : Type 0 where
  pub few : length counts ≤ 2 ^ 31
  pub within : length counts ≤ 64 * length free
  pub told : (place : ℕ) → has_place free place ≡ (nat_lt place (length counts) && not (is_marked counts place))
