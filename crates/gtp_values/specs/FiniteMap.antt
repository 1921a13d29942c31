-- Finite maps from numbers, and what holds of each entry.
use Rattle.std.specs.Prelude.{◌≡◌, ◌⊎◌, ℕ, Bool, false, List, [], ◌∷◌, map, Option, Some, None}
use Rattle.std.specs.FinMap.{FinMap, get, retain_keys, entries, from_entries}
use Rattle.std.specs.Ordering.{nat_cmp}

-- a finite map from numbers
abbrev pub FiniteMap : Type 0 → Type 0
FiniteMap X = FinMap nat_cmp X

-- P holds of each key and what stands there
abbrev pub Each : {X : Type 0} → (ℕ → X → Type 0) → FiniteMap X → Type 0
Each {X} P m = (key : ℕ) (x : X) → get m key ≡ Some x → P key x

-- something stands there that passes the test
abbrev pub passes : {X : Type 0} → (ℕ → X → Bool) → ℕ → Option X → Bool
passes test key None = false
passes test key (Some x) = test key x

-- the entries that pass a test
abbrev pub kept : {X : Type 0} → (ℕ → X → Bool) → FiniteMap X → FiniteMap X
kept test m = retain_keys m (λ key. passes test key (get m key))

-- x is one of the list
abbrev pub Among : {X : Type 0} → X → List X → Type 0
Among x [] = ⊥
Among x (y ∷ ys) = (x ≡ y) ⊎ Among x ys

-- an entry with its value changed
abbrev pub with_value : {X : Type 0} → (X → X) → ℕ × X → ℕ × X
with_value f e = (e.0, f e.1)

-- each entry with its value changed
abbrev pub changed : {X : Type 0} → (X → X) → FiniteMap X → FiniteMap X
changed f m = from_entries (map (with_value f) (entries m))
