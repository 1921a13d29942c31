-- What messages and elements are called, and what elements say, as text.
use Rattle.std.specs.Prelude.{◌⊎◌, ◌<◌, ℕ, List, length, Option, option_map}
use Rattle.gtp_ie.specs.Element.{Element}
use Rattle.gtp_forms.specs.declared.form.Row.{Row}
use Rattle.gtp_names.specs.declared.names.Names.{Names}
use Rattle.gtp_names.specs.Telling.{element_row}

-- the name of a type of element, also of a group
abbrev pub element_name : Names → ℕ → Option (List ℕ)
element_name names kind = option_map (λ (row : Row). row.name.now) (element_row names kind)

-- an element of these parts, alone
abbrev pub element_alone : ℕ → ℕ → List ℕ → Element
element_alone kind instance body = record { kind = kind; spare = 0; instance = instance; body = body; at = 0 }

-- an instance above 15, or a body that two octets cannot state
abbrev pub IsBadElement : ℕ → List ℕ → Type 0
IsBadElement instance body = (15 < instance) ⊎ (65535 < length body)
