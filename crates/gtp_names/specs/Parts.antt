-- The parts of the tables.
use Rattle.std.specs.Prelude.{List, [], ◌∷◌}
use Rattle.std.specs.Borrow.{Bor}
use Rattle.gtp_forms.specs.declared.form.Step.{Step}
use Rattle.gtp_forms.specs.Reading.{Tables, tables_of}
use Rattle.gtp_names.specs.declared.forms.Forms.{Forms}
use Rattle.gtp_names.specs.declared.names.Names.{Names}

-- in the order of their numbers
abbrev pub parts_of : Forms → List (Bor (List (Bor (List Step))))
parts_of f = f.location ∷ f.options ∷ f.components ∷ f.templates ∷ f.nodes ∷ f.numbers ∷ f.flags ∷ f.quality ∷ f.causes ∷ f.extensions ∷ f.delays ∷ []

-- the forms of all parts
abbrev pub tables_in : Names → Tables
tables_in names = tables_of (parts_of names.forms)
