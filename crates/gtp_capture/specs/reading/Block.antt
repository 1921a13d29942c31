-- The end of a block, behind what is read of it.
use Rattle.std.specs.Prelude.{◌≡◌, ℕ, ◌+◌, Bool, true, false, List, ◌++◌, length}
use Rattle.gtp_capture.specs.Octets.{four_at}
use Rattle.gtp_capture.specs.declared.octets.Order.{Order}

-- so many octets, four that say the size, and the rest
pub record IsFinish (order : Order) (many size : ℕ) (octets more rest : List ℕ) : Type 0 where
  pub tail : List ℕ
  pub held : length more ≡ many
  pub end : length tail ≡ 4
  pub whole : octets ≡ more ++ (tail ++ rest)
  pub again : four_at order 0 tail ≡ size

abbrev pub Finishes : Order → ℕ → ℕ → Bool → List ℕ → List ℕ → Type 0
Finishes order many size true octets left = (more : List ℕ) × IsFinish order many size octets more left
Finishes order many size false octets left = (more rest : List ℕ) → IsFinish order many size octets more rest → ⊥

-- so many octets, and the rest; or there are fewer
abbrev pub Passes : ℕ → Bool → List ℕ → List ℕ → Type 0
Passes many true octets left = (more : List ℕ) × (length more ≡ many) × (octets ≡ more ++ left)
Passes many false octets left = (more rest : List ℕ) → length more ≡ many → octets ≡ more ++ rest → ⊥

-- what a block holds, so many octets, is this front and more
abbrev pub IsFront : List ℕ → List ℕ → ℕ → Type 0
IsFront front more size = length front + length more ≡ size
