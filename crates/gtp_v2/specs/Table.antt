-- Tables of rows, and the values that rows have.
use Rattle.std.specs.Prelude.{ℕ, Bool, true, false, ◌&&◌, ◌||◌, not, List, [], ◌∷◌}
use Rattle.gtp_values.specs.Cause.{is_accepting_value}
use Rattle.gtp_ie.specs.Value.{Value, OfCause}
use Rattle.gtp_v2.specs.declared.fault.Need.{Need}
use Rattle.gtp_v2.specs.declared.fault.Need.TheVariants as needs
use Rattle.gtp_v2.specs.Needs.{need_where}
pub use Rattle.gtp_v2.specs.declared.table.Row.{Row}
pub use Rattle.gtp_v2.specs.declared.table.Row.TheVariants.{Mandatory, Conditional, Accepted, Optional}
pub use Rattle.gtp_v2.specs.declared.table.State.{State}

-- a line of a message's table: a row; a row of groups, with the rows in each; or all values of a type and an instance. Where
-- no line before has a value there is at least one of these; if there is none, the element of the type and of the third
-- number, an instance, is missing
pub data Line : Type 0 where
  Single : Row → Line
  Grouped : Row → List Row → Line
  Several : ℕ → ℕ → ℕ → Line

-- what a line has: values, or in each group what its rows have
pub data Field : Type 0 where
  Plain : List Value → Field
  Groups : List (List (List Value)) → Field

-- before the first line
abbrev pub start : State
start = record { accepting = true; silent = true }

-- a cause accepts from 16 to 63; what is no cause changes nothing
abbrev pub accepts : List Value → Bool
accepts (OfCause c ∷ values) = is_accepting_value c.value
accepts values = true

-- what a field says of acceptance
abbrev pub field_accepts : Field → Bool
field_accepts (Plain values) = accepts values
field_accepts (Groups groups) = true

-- a field without a value
abbrev pub is_silent : Field → Bool
is_silent (Plain []) = true
is_silent (Plain (v ∷ values)) = false
is_silent (Groups []) = true
is_silent (Groups (group ∷ groups)) = false

-- groups, or several values: a list is kept of them
abbrev pub is_list : Line → Bool
is_list (Single row) = false
is_list (Grouped row rows) = true
is_list (Several kind instance missed) = true

-- some list has a member, for which memory is allocated
abbrev pub allocates : List Line → List Field → Bool
allocates (line ∷ lines) (field ∷ fields) = (is_list line && not (is_silent field)) || allocates lines fields
allocates lines fields = false

-- what the lines say, with one more
abbrev pub after : State → Field → State
after state field = record { accepting = state.accepting && field_accepts field; silent = state.silent && is_silent field }

-- who needs a row, where the causes accept or don't
abbrev pub need_of : Bool → Row → Need
need_of accepting (Mandatory kind instance) = needs.Mandatory
need_of accepting (Conditional kind instance) = needs.Conditional
need_of accepting (Accepted kind instance) = need_where accepting
need_of accepting (Optional kind instance) = needs.Optional

-- the first and the second number of a row
abbrev pub kind_of : Row → ℕ
kind_of (Mandatory kind instance) = kind
kind_of (Conditional kind instance) = kind
kind_of (Accepted kind instance) = kind
kind_of (Optional kind instance) = kind

abbrev pub instance_of : Row → ℕ
instance_of (Mandatory kind instance) = instance
instance_of (Conditional kind instance) = instance
instance_of (Accepted kind instance) = instance
instance_of (Optional kind instance) = instance

-- a kind of message: its type, its name, whether its header has a TEID, and its lines
pub record Table : Type 0 where
  pub kind : ℕ
  pub name : List ℕ
  pub has_teid : Bool
  pub lines : List Line
