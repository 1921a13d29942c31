-- TEIDs that were drawn.
use Rattle.std.specs.Prelude.{ℕ, zero, suc, ◌+◌, ◌*◌, ◌^◌, List, [], ◌∷◌}

-- the restart counter, and how many TEIDs were drawn since the start
pub record Drawn : Type 0 where
  pub counter : ℕ
  pub count : ℕ

-- the TEID of this number, with the counter in its first octet
abbrev pub teid_at : ℕ → ℕ → ℕ
teid_at counter n = counter * 2 ^ 24 + n

-- the TEIDs of a counter up to this number, the last first
abbrev pub drawn_up_to : ℕ → ℕ → List ℕ
drawn_up_to counter zero = []
drawn_up_to counter (suc n) = teid_at counter (suc n) ∷ drawn_up_to counter n
