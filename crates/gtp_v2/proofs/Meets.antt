-- Fields that meet the marks of a table, by one recursion, and have a text that is not too long.
use Rattle.std.specs.Prelude.{◌≡◌, ℕ, ◌<◌, Bool, true, false, ◌&&◌, List, [], ◌∷◌, length}
use Rattle.std.specs.List.{AllByRecursion}
use Rattle.gtp_ie.specs.Value.{Value, encoding_of}
use Rattle.gtp_ie.specs.Spelling.{Spells}
use Rattle.gtp_v2.specs.Table.{Row, Mandatory, Conditional, Accepted, Optional, Line, Single, Grouped, Several, Field, Plain, Groups, State}
use Rattle.gtp_v2.specs.Table.{accepts, after, need_of, instance_of}
use Rattle.gtp_v2.specs.Apart.{are_apart}
use Rattle.gtp_v2.specs.Grammar.{IsEnough}
use Rattle.gtp_v2.specs.Text.{rows_encoding}

-- a value of a type of element: its text spells it
pub record IsOf (kind : ℕ) (v : Value) : Type 0 where
  pub again : Spells kind (encoding_of v) v
  pub short : length (encoding_of v) < 65536

abbrev pub Alone : ℕ → List Value → Type 0
Alone kind [] = ⊥
Alone kind (v ∷ []) = IsOf kind v
Alone kind (v ∷ w ∷ values) = ⊥

abbrev pub AtMostAlone : ℕ → List Value → Type 0
AtMostAlone kind [] = Unit {0}
AtMostAlone kind (v ∷ values) = Alone kind (v ∷ values)

-- the values meet the row's mark
abbrev pub RowMeets : Bool → Row → List Value → Type 0
RowMeets accepting (Mandatory kind instance) = Alone kind
RowMeets accepting (Conditional kind instance) = Alone kind
RowMeets true (Accepted kind instance) = Alone kind
RowMeets false (Accepted kind instance) = AtMostAlone kind
RowMeets accepting (Optional kind instance) = AtMostAlone kind

abbrev pub RowsMeet : Bool → List Row → List (List Value) → Type 0
RowsMeet accepting [] all = all ≡ []
RowsMeet accepting (row ∷ rows) [] = ⊥
RowsMeet accepting (row ∷ rows) (values ∷ others) = RowMeets accepting row values × (instance_of row < 16) × RowsMeet (accepting && accepts values) rows others

-- the values of a group meet the marks of its rows
pub record GroupMeets (accepting : Bool) (rows : List Row) (all : List (List Value)) : Type 0 where
  pub rows_meet : RowsMeet accepting rows all
  pub short : length (rows_encoding rows all) < 65536

-- the values meet the line's mark, by what the lines before it say
abbrev pub LineMeets : State → Line → Field → Type 0
LineMeets state (Single row) (Plain values) = RowMeets state.accepting row values × (instance_of row < 16)
LineMeets state (Grouped row rows) (Groups groups) =
    AllByRecursion (GroupMeets state.accepting rows) groups × IsEnough (need_of state.accepting row) groups × (instance_of row < 16) × (are_apart rows ≡ true)
LineMeets state (Several kind instance missed) (Plain values) = AllByRecursion (IsOf kind) values × (state.silent ≡ true → 0 < length values) × (instance < 16)
LineMeets state line field = ⊥

abbrev pub LinesMeet : State → List Line → List Field → Type 0
LinesMeet state [] fields = fields ≡ []
LinesMeet state (line ∷ lines) [] = ⊥
LinesMeet state (line ∷ lines) (field ∷ fields) = LineMeets state line field × LinesMeet (after state field) lines fields
