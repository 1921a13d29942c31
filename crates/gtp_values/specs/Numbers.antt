-- Numbers in octets, the highest first, and then the rest.
use Rattle.std.specs.Prelude.{ℕ, ◌/◌, ◌%◌, List, ◌∷◌}

abbrev pub two : ℕ → List ℕ → List ℕ
two n rest = ((n / 256) % 256) ∷ (n % 256) ∷ rest

abbrev pub three : ℕ → List ℕ → List ℕ
three n rest = ((n / 65536) % 256) ∷ ((n / 256) % 256) ∷ (n % 256) ∷ rest

abbrev pub four : ℕ → List ℕ → List ℕ
four n rest = ((n / 16777216) % 256) ∷ ((n / 65536) % 256) ∷ ((n / 256) % 256) ∷ (n % 256) ∷ rest
