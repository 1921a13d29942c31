-- Reading functions, for private contracts and proofs: the values that a list of elements gives the rows of a table, or the first fault.
use Rattle.std.specs.Prelude.{length, ◌==◌, ℕ, ◌+◌, Bool, true, false, ◌&&◌, List, [], ◌∷◌, Option, Some, None, option_to_list, Result, Ok, Err, if◌then◌else◌}
use Rattle.gtp_ie.specs.declared.fault.ReadFault.{ReadFault}
use Rattle.gtp_ie.specs.declared.fault.ReadFault.TheVariants.{Short, Bad}
use Rattle.gtp_ie.specs.declared.fault.IeFault.TheVariants.{Truncated, ShortValue, BadValue}
use Rattle.gtp_values.specs.Steps.{◌>>=◌}
use Rattle.gtp_ie.specs.Element.{Element, elements_of, first_of, all_of}
use Rattle.gtp_ie.specs.Value.{Value, value_at}
use Rattle.gtp_v2.specs.declared.fault.RowFault.{RowFault}
use Rattle.gtp_v2.specs.declared.fault.RowFault.TheVariants as faults
use Rattle.gtp_v2.specs.declared.fault.Need.{Need}
use Rattle.gtp_v2.specs.declared.fault.Need.TheVariants as needs
use Rattle.gtp_v2.specs.Table.{accepts, need_of, kind_of, instance_of, after, Row, Mandatory, Conditional, Accepted, Optional, Line, Single, Grouped, Several, Field, Plain, Groups, State}
use Rattle.gtp_v2.specs.Grammar.{in_group}
use Rattle.gtp_v2.specs.Viewed.{optional_at}

-- a reading, its fault named by the element's type, instance and place
abbrev pub named : ℕ → ℕ → ℕ → Result Value ReadFault → Result Value RowFault
named kind instance at (Ok v) = Ok v
named kind instance at (Err Short) = Err (faults.Element (ShortValue kind instance at))
named kind instance at (Err Bad) = Err (faults.Element (BadValue kind instance at))

-- the value of an element
unfoldable pub one_at : ℕ → ℕ → Element → Result Value RowFault
one_at kind instance e = named kind instance e.at (value_at kind e.body)

-- the value of an element that is needed
abbrev pub needed : Bool → ℕ → ℕ → Option Element → Result Value RowFault
needed conditional kind instance None = Err (faults.Missing kind instance conditional None)
needed conditional kind instance (Some e) = one_at kind instance e

-- the value of the first element of a type and instance, which is needed
unfoldable pub needed_at : Bool → ℕ → ℕ → List Element → Result Value RowFault
needed_at conditional kind instance es = needed conditional kind instance (first_of kind instance es)

-- the same, where that depends
unfoldable pub needed_if_at : Bool → ℕ → ℕ → List Element → Result (Option Value) RowFault
needed_if_at true kind instance es = needed_at true kind instance es >>= λ v. Ok (Some v)
needed_if_at false kind instance es = Ok (optional_at kind instance es)

-- the values of a row
abbrev pub row_at : Bool → Row → List Element → Result (List Value) RowFault
row_at accepting (Mandatory kind instance) es = needed_at false kind instance es >>= λ v. Ok (v ∷ [])
row_at accepting (Conditional kind instance) es = needed_at true kind instance es >>= λ v. Ok (v ∷ [])
row_at accepting (Accepted kind instance) es = needed_if_at accepting kind instance es >>= λ v. Ok (option_to_list v)
row_at accepting (Optional kind instance) es = Ok (option_to_list (optional_at kind instance es))

-- the values of rows, the first fault before all others
unfoldable pub rows_at : Bool → List Row → List Element → Result (List (List Value)) RowFault
rows_at accepting [] es = Ok []
rows_at accepting (row ∷ rows) es = do
  values ← row_at accepting row es
  others ← rows_at (accepting && accepts values) rows es
  Ok (values ∷ others)

-- the elements of a list, or the fault at the first one that isn't whole
abbrev pub whole : Result (List Element) ℕ → Result (List Element) RowFault
whole (Ok es) = Ok es
whole (Err at) = Err (faults.Element (Truncated at))

-- an outcome, its fault told in another way
abbrev pub fault_as : {X E : Type 0} → (E → E) → Result X E → Result X E
fault_as told (Ok x) = Ok x
fault_as told (Err f) = Err (told f)

-- the values of the rows among the elements of a group
abbrev pub inner_at : Bool → List Row → Element → Result (List (List Value)) RowFault
inner_at accepting rows e = whole (elements_of (e.at + 4) e.body) >>= λ es. rows_at accepting rows es

-- the values of a group's rows
unfoldable pub group_at : Bool → List Row → Element → Result (List (List Value)) RowFault
group_at accepting rows e = fault_as (in_group e.at) (inner_at accepting rows e)

-- what each element gives, in order, the first fault before all others
unfoldable pub each_at : {X : Type 0} → (Element → Result X RowFault) → List Element → Result (List X) RowFault
each_at read [] = Ok []
each_at read (e ∷ es) = do
  first ← read e
  others ← each_at read es
  Ok (first ∷ others)

-- the values of groups, in order
abbrev pub groups_at : Bool → List Row → List Element → Result (List (List (List Value))) RowFault
groups_at accepting rows es = each_at (group_at accepting rows) es

-- the values of elements of one type and instance, in order
abbrev pub values_at : ℕ → ℕ → List Element → Result (List Value) RowFault
values_at kind instance es = each_at (one_at kind instance) es

-- no group, which is a fault where one is needed
abbrev pub no_group : Need → ℕ → ℕ → Result (List (List (List Value))) RowFault
no_group needs.Mandatory kind instance = Err (faults.Missing kind instance false None)
no_group needs.Conditional kind instance = Err (faults.Missing kind instance true None)
no_group needs.Optional kind instance = Ok []

-- the groups among these elements, at least one where that is needed
unfoldable pub some_groups : Need → ℕ → ℕ → Bool → List Row → List Element → Result (List (List (List Value))) RowFault
some_groups need kind instance accepting rows es = do
  groups ← groups_at accepting rows es
  if length groups == 0 then no_group need kind instance else Ok groups

-- no value, which is a fault where one is needed
abbrev pub no_value : Bool → ℕ → ℕ → Result (List Value) RowFault
no_value true kind missed = Err (faults.Missing kind missed true None)
no_value false kind missed = Ok []

-- the values of all elements of a type and instance, at least one where that is needed, or else another element is missing
unfoldable pub several_at : Bool → ℕ → ℕ → ℕ → List Element → Result (List Value) RowFault
several_at needed kind instance missed es = do
  values ← values_at kind instance (all_of kind instance es)
  if length values == 0 then no_value needed kind missed else Ok values

-- the values of a line
abbrev pub line_at : State → Line → List Element → Result Field RowFault
line_at state (Single row) es = row_at state.accepting row es >>= λ values. Ok (Plain values)
line_at state (Grouped row rows) es =
    some_groups (need_of state.accepting row) (kind_of row) (instance_of row) state.accepting rows (all_of (kind_of row) (instance_of row) es) >>= λ groups. Ok (Groups groups)
line_at state (Several kind instance missed) es = several_at state.silent kind instance missed es >>= λ values. Ok (Plain values)

-- the values of lines, the first fault before all others
unfoldable pub lines_at : State → List Line → List Element → Result (List Field) RowFault
lines_at state [] es = Ok []
lines_at state (line ∷ lines) es = do
  field ← line_at state line es
  others ← lines_at (after state field) lines es
  Ok (field ∷ others)
