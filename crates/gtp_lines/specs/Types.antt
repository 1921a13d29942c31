-- What the tables say of a type.
use Rattle.std.specs.Prelude.{ℕ, List, [], ◌∷◌, ◌++◌, Option, Some, None, option_map, codes, decimal}
use Rattle.hex.specs.Hex.{encode_lower}
use Rattle.gtp_forms.specs.declared.form.Row.{Row}
use Rattle.gtp_forms.specs.Rows.{row_of}
use Rattle.gtp_forms.specs.Described.{described}
use Rattle.gtp_names.specs.declared.names.Names.{Names}
use Rattle.gtp_names.specs.Parts.{tables_in}
use Rattle.gtp_names.specs.Telling.{element_row}
use Rattle.gtp_lines.specs.declared.type_text.TypeOf.{TypeOf}
use Rattle.gtp_lines.specs.declared.type_text.TypeOf.TheVariants as types

-- the row of a type
abbrev pub row_in : Names → TypeOf → ℕ → Option Row
row_in names types.Element kind = element_row names kind
row_in names types.Message kind = row_of names.messages.now kind
row_in names types.ExtensionHeader kind = row_of names.extension_headers.now kind

-- the type by its number, as lines have it
abbrev pub type_number : TypeOf → ℕ → List ℕ
type_number types.Element kind = codes "element " ++ decimal kind
type_number types.Message kind = codes "message " ++ decimal kind
type_number types.ExtensionHeader kind = codes "extension " ++ encode_lower (kind ∷ [])

-- where it is defined
abbrev pub clause_of : TypeOf → List ℕ
clause_of types.Element = codes " (TS 29.274 8.1)\n"
clause_of types.Message = codes " (TS 29.274 6.1)\n"
clause_of types.ExtensionHeader = codes " (TS 29.281 5.2.1)\n"

-- the names of its fields, where it has a form
abbrev pub fields_line : Names → Option ℕ → List ℕ
fields_line names None = []
fields_line names (Some form) = codes "fields" ++ (described (tables_in names) 8 form ++ codes "\n")

abbrev pub row_lines : Names → TypeOf → ℕ → Row → List ℕ
row_lines names what kind row = type_number what kind ++ (codes ": " ++ (row.name.now ++ (clause_of what ++ fields_line names row.form)))

-- the lines of a type, where it has a name
abbrev pub type_lines : Names → TypeOf → ℕ → Option (List ℕ)
type_lines names what kind = option_map (λ (row : Row). row_lines names what kind row) (row_in names what kind)
