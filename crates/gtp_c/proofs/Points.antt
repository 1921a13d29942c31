-- The access point at a place is one of them.
use Rattle.std.proofs.Common.{◌<◌, ℕ, zero, suc, List, [], ◌∷◌, length, get_or, refl, inl, inr, arith}
use Rattle.gtp_values.specs.FiniteMap.{Among}

pub among_at : {X : Type 0} (xs : List X) (i : ℕ) (d : X) → i < length xs → Among (get_or xs i d) xs
among_at [] i d within = absurd (omega (arith, within))
among_at (x ∷ xs) zero d within = inl refl
among_at (x ∷ xs) (suc i) d within = inr (among_at xs i d (omega (arith, within)))
