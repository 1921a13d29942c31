-- The code of a table.
use Rattle.std.specs.Coded.{Coded, coded_ℕ}
use Rattle.std.specs.FinMap as map
use Rattle.gtp_values.specs.FiniteMap.{FiniteMap}

abbrev pub table_code : {X : Type 0} → Coded X → Coded (FiniteMap X)
table_code code = map.code coded_ℕ code
