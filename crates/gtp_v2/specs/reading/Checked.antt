-- Reading functions, for private contracts and proofs: checking what would be read, without keeping it.
use Rattle.std.specs.Prelude.{ℕ, Bool, true, false, if◌then◌else◌, ◌&&◌, List, [], ◌∷◌, Option, None, option_map, Result, Ok, Err}
use Rattle.gtp_ie.specs.declared.fault.ReadFault.{ReadFault}
use Rattle.gtp_values.specs.Steps.{◌>>=◌}
use Rattle.gtp_ie.specs.Element.{Element, all_of}
use Rattle.gtp_ie.specs.Value.{value_at}
use Rattle.gtp_v2.specs.declared.fault.RowFault.{RowFault}
use Rattle.gtp_v2.specs.declared.fault.Need.{Need}
use Rattle.gtp_v2.specs.declared.fault.Need.TheVariants as needs
use Rattle.gtp_v2.specs.declared.fault.RowFault.TheVariants as faults
use Rattle.gtp_v2.specs.Table.{Row, Line, Single, Grouped, Several, Field, Plain, need_of, kind_of, instance_of, Groups, State, accepts, field_accepts, is_silent}
use Rattle.gtp_v2.specs.reading.Rows.{needed_at, one_at, row_at, inner_at, group_at, groups_at, values_at}
use Rattle.gtp_v2.specs.Viewed.{optional_at}

-- whether the value that a body spells accepts
unfoldable pub value_accepts : ℕ → List ℕ → Result Bool ReadFault
value_accepts kind body = value_at kind body >>= λ v. Ok (accepts (v ∷ []))

-- that a body spells a value
abbrev pub value_reads : ℕ → List ℕ → Result Bool ReadFault
value_reads kind body = value_at kind body >>= λ v. Ok true

-- whether the value of an element accepts
unfoldable pub one_accepts : ℕ → ℕ → Element → Result Bool RowFault
one_accepts kind instance e = one_at kind instance e >>= λ v. Ok (accepts (v ∷ []))

-- whether the value of a needed row accepts
unfoldable pub needed_accepts : Bool → ℕ → ℕ → List Element → Result Bool RowFault
needed_accepts conditional kind instance es = needed_at conditional kind instance es >>= λ v. Ok (accepts (v ∷ []))

-- whether the value of a row that isn't needed accepts, if it is there
unfoldable pub optional_accepts : ℕ → ℕ → List Element → Option Bool
optional_accepts kind instance es = option_map (λ v. accepts (v ∷ [])) (optional_at kind instance es)

-- what a field alone says
abbrev pub says : Field → State
says field = record { accepting = field_accepts field; silent = is_silent field }

-- what the values of a row say
unfoldable pub row_says : Bool → Row → List Element → Result State RowFault
row_says accepting row es = row_at accepting row es >>= λ values. Ok (says (Plain values))

-- whether the causes accept, after rows
unfoldable pub rows_accept : Bool → List Row → List Element → Result Bool RowFault
rows_accept accepting [] es = Ok accepting
rows_accept accepting (row ∷ rows) es = row_says accepting row es >>= λ now. rows_accept (accepting && now.accepting) rows es

-- a reading, of which nothing is kept
abbrev pub forgotten : {X E : Type 0} → Result X E → Result (Unit {0}) E
forgotten (Ok x) = Ok tt
forgotten (Err e) = Err e

-- whether the elements of a group read
unfoldable pub inner_passes : Bool → List Row → Element → Result (Unit {0}) RowFault
inner_passes accepting rows e = forgotten (inner_at accepting rows e)

-- whether a group reads
unfoldable pub group_passes : Bool → List Row → Element → Result (Unit {0}) RowFault
group_passes accepting rows e = forgotten (group_at accepting rows e)

-- whether there is no group; each that there is has to read
unfoldable pub groups_silent : Bool → List Row → List Element → Result Bool RowFault
groups_silent accepting rows es = groups_at accepting rows es >>= λ groups. Ok (is_silent (Groups groups))

-- whether there is no value; each that there is has to read
unfoldable pub values_silent : ℕ → ℕ → List Element → Result Bool RowFault
values_silent kind instance es = values_at kind instance es >>= λ values. Ok (is_silent (Plain values))

-- what is said of groups that read, where there are none or some
abbrev pub after_groups : Need → ℕ → ℕ → Bool → Result State RowFault
after_groups need kind instance false = Ok (record { accepting = true; silent = false })
after_groups needs.Mandatory kind instance true = Err (faults.Missing kind instance false None)
after_groups needs.Conditional kind instance true = Err (faults.Missing kind instance true None)
after_groups needs.Optional kind instance true = Ok (record { accepting = true; silent = true })

-- what groups say
unfoldable pub groups_say : Need → ℕ → ℕ → Bool → List Row → List Element → Result State RowFault
groups_say need kind instance accepting rows es = groups_silent accepting rows es >>= λ silent. after_groups need kind instance silent

-- what values say, all of which read
unfoldable pub values_say : ℕ → ℕ → List Element → Result State RowFault
values_say kind instance es = values_at kind instance es >>= λ values. Ok (says (Plain values))

-- what one more value says, after others
abbrev pub with_one : State → Bool → State
with_one said now = if said.silent then record { accepting = now; silent = false } else said

-- what is said of values that read, where there are none or some
abbrev pub after_values : Bool → ℕ → ℕ → State → Result State RowFault
after_values needed kind missed said = if needed && said.silent then Err (faults.Missing kind missed true None) else Ok said

-- what several values say
unfoldable pub several_say : Bool → ℕ → ℕ → ℕ → List Element → Result State RowFault
several_say needed kind instance missed es = values_say kind instance (all_of kind instance es) >>= λ said. after_values needed kind missed said

-- what a line says
abbrev pub line_says : State → Line → List Element → Result State RowFault
line_says state (Single row) es = row_says state.accepting row es
line_says state (Grouped row rows) es = groups_say (need_of state.accepting row) (kind_of row) (instance_of row) state.accepting rows (all_of (kind_of row) (instance_of row) es)
line_says state (Several kind instance missed) es = several_say state.silent kind instance missed es

-- what the lines so far say, with what one more says
abbrev pub merged : State → State → State
merged state now = record { accepting = state.accepting && now.accepting; silent = state.silent && now.silent }

-- what all lines say
unfoldable pub lines_say : State → List Line → List Element → Result State RowFault
lines_say state [] es = Ok state
lines_say state (line ∷ lines) es = line_says state line es >>= λ now. lines_say (merged state now) lines es
