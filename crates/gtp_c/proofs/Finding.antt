-- The first place of C's address among those behind a handle, or that it has none.
use Rattle.std.proofs.Common.{◌≡◌, ℕ, sym, ap, ◌∙◌, subst}
use Rattle.std.specs.Prelude.{Option, Some, None, IsSomeAnd}
use Rattle.std.proofs.lemmas.Option.{same_Some}
use Rattle.gtp_values.specs.declared.address.Ip.{Ip}
use Rattle.gtp_values.specs.contracts.address.IpPartialEq.TheImpl.{eq-value}
use Rattle.gtp_node.specs.Places.{first_by}
use Rattle.gtp_node.proofs.Routing.{first_says, none_says}
use Rattle.gtp_c.specs.Ends.{ip_at}
use Rattle.gtp_c.specs.Places.{Finds, Lacks}
use Rattle.gtp_c.specs.declared.address_places.AddressPlaces.{AddressPlaces}
use Rattle.gtp_c.specs.declared.ends.Address.{Address}

module _ (address : Address) (ip : Ip) (is : ip_at address ≡ Some ip) (a : AddressPlaces) (old : Option AddressPlaces) (there : Some a ≡ old) where
  pub finds : (place : ℕ) → Some place ≡ first_by eq-value.it ip a.places → IsSomeAnd old (Finds address place)
  finds place found =
      subst (λ (v : Option AddressPlaces). IsSomeAnd v (Finds address place)) there
      (record { ip = ip; is = is; first = first_says a.places ip (Some place) found })

  pub lacks : None ≡ first_by eq-value.it ip a.places → IsSomeAnd old (Lacks address)
  lacks found =
      subst (λ (v : Option AddressPlaces). IsSomeAnd v (Lacks address)) there
      (record { ip = ip; is = is; none = none_says a.places ip None found })

  -- an address that has a place does not lack one
  pub does_not_lack : (place : ℕ) → Some place ≡ first_by eq-value.it ip a.places → IsSomeAnd old (Lacks address) → ⊥
  does_not_lack place found lacks =
      let none : Lacks address a = subst (λ (v : Option AddressPlaces). IsSomeAnd v (Lacks address)) (sym there) lacks in
      let same : none.ip ≡ ip = same_Some none.ip ip (sym none.is ∙ is) in
      none.none place ((first_says a.places ip (Some place) found).stands ∙ ap Some (sym same))
