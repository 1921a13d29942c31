-- The name of a type of message.
use Rattle.std.proofs.Common.{◌≡◌, ℕ, List, Option, Some, None, option_map, refl}
use Rattle.gtp_forms.specs.declared.form.Row.{Row}
use Rattle.gtp_v2.specs.Table.{Table}
use Rattle.gtp_lines.specs.Named.{name_by}

pub name_of_table : (table : Option Table) (row : Option Row) (name : List ℕ) → Some name ≡ option_map (λ (t : Table). t.name) table → name_by table row ≡ Some name
name_of_table None row name is = absurd cc
name_of_table (Some table) row name is = let same : name ≡ table.name = cc in rw same refl

pub name_of_row : (table : Option Table) (row : Row) → None ≡ option_map (λ (t : Table). t.name) table → name_by table (Some row) ≡ Some row.name.now
name_of_row None row is = refl
name_of_row (Some table) row is = absurd cc

pub no_name : (table : Option Table) → None ≡ option_map (λ (t : Table). t.name) table → name_by table None ≡ None
no_name None is = refl
no_name (Some table) is = absurd cc
