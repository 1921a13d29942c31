-- Lists that say of each of a list whether something holds.
use Rattle.std.specs.Prelude.{◌≡◌, ◌↔◌, List, [], ◌∷◌, ◌++◌, Bool, IsTrue}

-- what is told has a part for each, which says whether this holds of it
abbrev pub TellsEach : {X Y : Type 0} → (X → Type 0) → (X → Bool → List Y) → List X → List Y → Type 0
TellsEach Holds part [] told = told ≡ []
TellsEach Holds part (x ∷ xs) told = (verdict : Bool) × (others : List _) × (IsTrue verdict ↔ Holds x) × TellsEach Holds part xs others × (told ≡ part x verdict ++ others)

-- such parts come after what was there
abbrev pub AddsEach : {X Y : Type 0} → (X → Type 0) → (X → Bool → List Y) → List X → List Y → List Y → Type 0
AddsEach Holds part xs old new = (parts : List _) × TellsEach Holds part xs parts × (new ≡ old ++ parts)
