-- What the bodies of elements tell.
use Rattle.std.specs.Prelude.{ℕ, List, Option, Some, None}
use Rattle.gtp_forms.specs.declared.form.Row.{Row}
use Rattle.gtp_forms.specs.Rows.{row_of}
use Rattle.gtp_forms.specs.Event.{Event}
use Rattle.gtp_forms.specs.Reading.{told_by}
use Rattle.gtp_names.specs.declared.names.Names.{Names}
use Rattle.gtp_names.specs.Groups.{form_of}
use Rattle.gtp_names.specs.Parts.{tables_in}

-- the first of two rows that is there
abbrev pub either_row : Option Row → Option Row → Option Row
either_row None row = row
either_row (Some first) row = Some first

-- the row of a type of element: of those that hold none, and of groups
abbrev pub element_row : Names → ℕ → Option Row
element_row names kind = either_row (row_of names.elements.now kind) (row_of names.groups.now kind)

-- the form of a row in a message of a type, where there is one
abbrev pub form_by : Option Row → ℕ → Option ℕ
form_by None message = None
form_by (Some row) message = form_of row message

-- what a body tells by a form; nothing without one
abbrev pub told_with : Names → Option ℕ → List ℕ → Option (List Event)
told_with names None body = None
told_with names (Some form) body = Some (told_by (tables_in names) form body)

-- what a body tells in a message of a type, by the form of its own type
abbrev pub told_in : Names → ℕ → ℕ → List ℕ → Option (List Event)
told_in names message kind body = told_with names (form_by (element_row names kind) message) body
