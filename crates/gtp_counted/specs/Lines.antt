-- Lines of a text.
use Rattle.std.specs.Prelude.{◌≡◌, ◌≢◌, List, [], ◌∷◌, ℕ}
use Rattle.std.specs.Io.BufRead.{take_through, drop_through}

-- the octets begin with these lines, each up to its line feed or the end, and then have the rest
abbrev pub BeginsWithLines : List ℕ → List (List ℕ) → List ℕ → Type 0
BeginsWithLines octets [] rest = octets ≡ rest
BeginsWithLines octets (line ∷ lines) rest = (octets ≢ []) × (line ≡ take_through 10 octets) × BeginsWithLines (drop_through 10 octets) lines rest
