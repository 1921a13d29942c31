-- A text among those of a list, where `any` looks for it.
use Rattle.std.proofs.Common.{◌≡◌, ℕ, List, [], ◌∷◌, ◌||◌, bytes_eq, map, refl, ap}
use Rattle.std.specs.List.{list_any}
use Rattle.gtp_scenario.specs.Json.{is_among}

-- what is looked at is seen by view
pub any_among : {X : Type 0} (view : X → List ℕ) (key : List ℕ) (xs : List X) → list_any (λ x. bytes_eq key (view x)) xs ≡ is_among (map view xs) key
any_among view key [] = refl
any_among view key (x ∷ xs) = ap (λ b. bytes_eq key (view x) || b) (any_among view key xs)

-- the texts themselves
pub any_known : (key : List ℕ) (xs : List (List ℕ)) → list_any (bytes_eq key) xs ≡ is_among xs key
any_known key [] = refl
any_known key (x ∷ xs) = ap (λ b. bytes_eq key x || b) (any_known key xs)
