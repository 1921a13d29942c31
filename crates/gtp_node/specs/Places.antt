-- The first place of a key in a list.
use Rattle.std.specs.Prelude.{ℕ, suc, Bool, List, [], ◌∷◌, Option, Some, None, option_map, if◌then◌else◌}

-- where keys are compared so: the place of the first one that equals this
abbrev pub first_by : {K : Type 0} → (K → K → Bool) → K → List K → Option ℕ
first_by eq key [] = None
first_by eq key (x ∷ xs) = if eq key x then Some 0 else option_map (λ n. suc n) (first_by eq key xs)
