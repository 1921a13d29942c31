-- An address, and the allocation of it.
use Rattle.std.proofs.Common.{◌≡◌, ◌||◌, ℕ, false, true, List, Option, Some, None, refl}
use Rattle.std.specs.Prelude.{IsTrue, is_some}
use Rattle.gtp_values.specs.PdnAddress.{PdnAddress, allocation_of, allocation, address_in}

-- what is allocated says the address
pub address_back : (prefix : ℕ) (a : PdnAddress) → IsTrue (is_some a.v4 || is_some a.v6) → address_in (allocation prefix a) ≡ Some a
address_back prefix a some_part = by a.v4 a.v6 some_part
  where
    by : (v4 v6 : Option (List ℕ)) → IsTrue (is_some v4 || is_some v6) → address_in (allocation_of prefix v4 v6) ≡ Some (record { v4 = v4; v6 = v6 })
    by (Some x) None some = refl
    by None (Some y) some = refl
    by (Some x) (Some y) some = refl
    by None None some = let no : false ≡ true = some in absurd cc
