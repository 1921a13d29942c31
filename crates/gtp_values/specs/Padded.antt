-- Texts of a fixed room, padded with zeros.
use Rattle.std.specs.Prelude.{◌≡◌, ℕ, ◌-◌, List, ◌++◌, length, take}
use Rattle.std.proofs.Math.ListN.{replicate}
use Rattle.std.proofs.Common.{refl}

-- the octets, and zeros up to n
abbrev pub padded : ℕ → List ℕ → List ℕ
padded n xs = xs ++ replicate (n - length xs) 0

-- the cells are the first len of them, and zeros
pub record IsPadded (n : ℕ) (cells : List ℕ) (len : ℕ) : Type 0 where
  pub zeros : padded n (take len cells) ≡ cells
  pub count : length (take len cells) ≡ len

-- padding the first len cells gives the cells back
pub padded_back : {X : Type 0} (make : List ℕ → ℕ → X) (n : ℕ) (cells : List ℕ) (len : ℕ) → IsPadded n cells len
    → make (padded n (take len cells)) (length (take len cells)) ≡ make cells len
padded_back make n cells len h = rw (h.zeros, h.count) refl
