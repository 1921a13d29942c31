-- Contexts by own TEID.
use Rattle.std.specs.Prelude.{ℕ, ◌<◌, Bool, List, [], ◌∷◌, refl}
use Rattle.std.specs.List.{AllByRecursion}
use Rattle.std.specs.FinMap as map
use Rattle.std.specs.Coded.{Coded, code_by, coded×, coded_ℕ, coded_bool}
use Rattle.gtp_values.specs.FiniteMap.{FiniteMap}

-- what stands under each TEID, and whether one more can be added without an allocation
pub record Rows (X : Type 0) : Type 0 where
  pub table : FiniteMap X
  pub has_room : Bool

abbrev pub rows_code : {X : Type 0} → Coded X → Coded (Rows X)
rows_code {X} code =
    code_by (FiniteMap X × Bool) (coded× (map.code coded_ℕ code) coded_bool) (λ r. (r.table, r.has_room)) (λ p. record { table = p.0; has_room = p.1 }) (λ _. refl)

-- the numbers rise
abbrev pub AreRising : List ℕ → Type 0
AreRising [] = Unit {0}
AreRising (k ∷ ks) = AllByRecursion (λ other. k < other) ks × AreRising ks
