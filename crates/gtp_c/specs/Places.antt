-- What happens to addresses and their places behind a handle.
use Rattle.std.specs.Prelude.{◌≡◌, ◌≢◌, ℕ, ◌-◌, ◌++◌, [], ◌∷◌, length, take, Some}
use Rattle.gtp_values.specs.declared.address.Ip.{Ip}
use Rattle.gtp_node.specs.Routing.{IsFirstAt, NoneHas}
use Rattle.gtp_c.specs.Ends.{ip_at}
use Rattle.gtp_c.specs.declared.address_places.AddressPlaces.{AddressPlaces}
use Rattle.gtp_c.specs.declared.ends.Address.{Address}

-- there are no addresses
abbrev pub HasNone : AddressPlaces → Type 0
HasNone a = a.places ≡ []

-- the address stands behind all others
pub record Adds (address : Address) (old new : AddressPlaces) : Type 0 where
  pub ip : Ip
  pub is : ip_at address ≡ Some ip
  pub added : new.places ≡ old.places ++ ip ∷ []

-- there are addresses, and the last one goes
pub record Drops (old new : AddressPlaces) : Type 0 where
  pub some : old.places ≢ []
  pub rest : new.places ≡ take (length old.places - 1) old.places

-- the address stands first at this place
pub record Finds (address : Address) (place : ℕ) (a : AddressPlaces) : Type 0 where
  pub ip : Ip
  pub is : ip_at address ≡ Some ip
  pub first : IsFirstAt a.places ip place

-- the address stands at no place
pub record Lacks (address : Address) (a : AddressPlaces) : Type 0 where
  pub ip : Ip
  pub is : ip_at address ≡ Some ip
  pub none : NoneHas a.places ip
