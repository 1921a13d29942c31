-- Types by their rows.
use Rattle.std.specs.Prelude.{ℕ, List, [], ◌∷◌, Option, Some, None, ◌==◌, if◌then◌else◌}
use Rattle.gtp_forms.specs.declared.form.Row.{Row}

-- the first row of a type
abbrev pub row_of : List Row → ℕ → Option Row
row_of [] kind = None
row_of (row ∷ rows) kind = if row.kind == kind then Some row else row_of rows kind
