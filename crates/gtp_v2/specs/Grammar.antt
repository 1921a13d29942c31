-- The grammar of messages with a table: which values the rows have, and which fault is the first.
use Rattle.std.specs.Prelude.{◌≡◌, ℕ, ◌+◌, ◌<◌, length, Bool, true, false, ◌&&◌, List, [], ◌∷◌, Some, None}
use Rattle.gtp_ie.specs.declared.fault.IeFault.TheVariants.{Truncated, ShortValue, BadValue}
use Rattle.gtp_values.specs.Decides.{First_and_others, First_or_later}
use Rattle.gtp_ie.specs.Element.{Element, first_of, all_of}
use Rattle.gtp_ie.specs.Value.{Value}
use Rattle.gtp_ie.specs.Spelling.{Spells, IsShort, IsBad}
use Rattle.gtp_v2.specs.declared.fault.RowFault.{RowFault}
use Rattle.gtp_v2.specs.declared.fault.RowFault.TheVariants as faults
use Rattle.gtp_v2.specs.Table.{Row, Mandatory, Conditional, Accepted, Optional, Line, Single, Grouped, Several, Field, Plain, Groups, State, accepts, after, need_of, kind_of, instance_of}
use Rattle.gtp_ie.specs.Octets.{AreElements, IsCut}
use Rattle.gtp_v2.specs.declared.fault.Need.{Need}
use Rattle.gtp_v2.specs.declared.fault.Need.TheVariants as needs

-- the first element of a type and instance says v
abbrev pub Says : ℕ → ℕ → List Element → Value → Type 0
Says kind instance es v = (e : Element) × (first_of kind instance es ≡ Some e) × Spells kind e.body v

-- no element of a type and instance, or the first one says nothing
abbrev pub SaysNothing : ℕ → ℕ → List Element → Type 0
SaysNothing kind instance es = (v : Value) → Says kind instance es v → ⊥

-- the value of a row that is needed
abbrev pub One : ℕ → ℕ → List Element → List Value → Type 0
One kind instance es values = (v : Value) × Says kind instance es v × (values ≡ v ∷ [])

-- the value of a row that isn't, or none
abbrev pub AtMostOne : ℕ → ℕ → List Element → List Value → Type 0
AtMostOne kind instance es [] = SaysNothing kind instance es
AtMostOne kind instance es (v ∷ []) = Says kind instance es v
AtMostOne kind instance es (v ∷ w ∷ values) = ⊥

-- how a row that is needed fails: it has no element, or its first one is too short or spells nothing
pub data NeededFails (conditional : Bool) (kind instance : ℕ) (es : List Element) (f : RowFault) : Type 0 where
  absent : first_of kind instance es ≡ None → f ≡ faults.Missing kind instance conditional None → NeededFails conditional kind instance es f
  short : (e : Element) → first_of kind instance es ≡ Some e → IsShort kind e.body → f ≡ faults.Element (ShortValue kind instance e.at) → NeededFails conditional kind instance es f
  bad : (e : Element) → first_of kind instance es ≡ Some e → IsBad kind e.body → f ≡ faults.Element (BadValue kind instance e.at) → NeededFails conditional kind instance es f

-- the values of a row
abbrev pub RowIs : Bool → Row → List Element → List Value → Type 0
RowIs accepting (Mandatory kind instance) es = One kind instance es
RowIs accepting (Conditional kind instance) es = One kind instance es
RowIs true (Accepted kind instance) es = One kind instance es
RowIs false (Accepted kind instance) es = AtMostOne kind instance es
RowIs accepting (Optional kind instance) es = AtMostOne kind instance es

-- the fault of a row
abbrev pub RowFails : Bool → Row → List Element → RowFault → Type 0
RowFails accepting (Mandatory kind instance) es f = NeededFails false kind instance es f
RowFails accepting (Conditional kind instance) es f = NeededFails true kind instance es f
RowFails true (Accepted kind instance) es f = NeededFails true kind instance es f
RowFails false (Accepted kind instance) es f = ⊥
RowFails accepting (Optional kind instance) es f = ⊥

-- the values of rows, each by the causes before it
abbrev pub RowsAre : Bool → List Row → List Element → List (List Value) → Type 0
RowsAre accepting [] es = λ all. all ≡ []
RowsAre accepting (row ∷ rows) es = First_and_others (RowIs accepting row es) (λ values. RowsAre (accepting && accepts values) rows es)

-- the first fault of rows
abbrev pub RowsFail : Bool → List Row → List Element → RowFault → Type 0
RowsFail accepting [] es = λ f. ⊥
RowsFail accepting (row ∷ rows) es = First_or_later (RowIs accepting row es) (RowFails accepting row es) (λ values. RowsFail (accepting && accepts values) rows es)

-- a list of elements is cut short at a place
abbrev pub IsCutShort : ℕ → List ℕ → RowFault → Type 0
IsCutShort at octets f = (place : ℕ) × IsCut at octets place × (f ≡ faults.Element (Truncated place))

-- the rows of a group
abbrev pub GroupIs : Bool → List Row → Element → List (List Value) → Type 0
GroupIs accepting rows e all = (es : List Element) × AreElements (e.at + 4) e.body es × RowsAre accepting rows es all

-- a fault of a row of the group that begins at a place: what is missing is missing there
abbrev pub in_group : ℕ → RowFault → RowFault
in_group at (faults.Missing kind instance conditional group) = faults.Missing kind instance conditional (Some at)
in_group at (faults.Element fault) = faults.Element fault

-- how the elements or the rows of a group fail
abbrev pub InnerFails : Bool → List Row → Element → RowFault → Type 0
InnerFails accepting rows e = First_or_later (AreElements (e.at + 4) e.body) (IsCutShort (e.at + 4) e.body) (λ es. RowsFail accepting rows es)

abbrev pub GroupFails : Bool → List Row → Element → RowFault → Type 0
GroupFails accepting rows e f = (g : RowFault) × InnerFails accepting rows e g × (f ≡ in_group e.at g)

-- each element is one of some things, in order
abbrev pub EachIs : {X : Type 0} → (Element → X → Type 0) → List Element → List X → Type 0
EachIs Is [] = λ xs. xs ≡ []
EachIs Is (e ∷ es) = First_and_others (Is e) (λ first. EachIs Is es)

-- the first of them that fails
abbrev pub SomeFails : {X : Type 0} → (Element → X → Type 0) → (Element → RowFault → Type 0) → List Element → RowFault → Type 0
SomeFails Is Fails [] = λ f. ⊥
SomeFails Is Fails (e ∷ es) = First_or_later (Is e) (Fails e) (λ first. SomeFails Is Fails es)

-- groups in order
abbrev pub GroupsAre : Bool → List Row → List Element → List (List (List Value)) → Type 0
GroupsAre accepting rows = EachIs (GroupIs accepting rows)

abbrev pub GroupsFail : Bool → List Row → List Element → RowFault → Type 0
GroupsFail accepting rows = SomeFails (GroupIs accepting rows) (GroupFails accepting rows)

-- an element spells a value; it is too short for any, or long enough and spells none
abbrev pub OneIs : ℕ → Element → Value → Type 0
OneIs kind e v = Spells kind e.body v

pub data OneFails (kind instance : ℕ) (e : Element) (f : RowFault) : Type 0 where
  short_one : IsShort kind e.body → f ≡ faults.Element (ShortValue kind instance e.at) → OneFails kind instance e f
  bad_one : IsBad kind e.body → f ≡ faults.Element (BadValue kind instance e.at) → OneFails kind instance e f

-- a row that is needed has a value or a group
abbrev pub IsEnough : {X : Type 0} → Need → List X → Type 0
IsEnough needs.Optional row = Unit {0}
IsEnough needs.Mandatory row = 0 < length row
IsEnough needs.Conditional row = 0 < length row

-- there is no group, and that is a fault
abbrev pub NoGroup : Need → ℕ → ℕ → List (List (List Value)) → RowFault → Type 0
NoGroup needs.Optional kind instance groups f = ⊥
NoGroup needs.Mandatory kind instance groups f = (groups ≡ []) × (f ≡ faults.Missing kind instance false None)
NoGroup needs.Conditional kind instance groups f = (groups ≡ []) × (f ≡ faults.Missing kind instance true None)

-- the groups of a row
abbrev pub SomeGroups : Need → ℕ → ℕ → Bool → List Row → List Element → List (List (List Value)) → Type 0
SomeGroups need kind instance accepting rows es groups = GroupsAre accepting rows es groups × IsEnough need groups

abbrev pub SomeGroupsFail : Need → ℕ → ℕ → Bool → List Row → List Element → RowFault → Type 0
SomeGroupsFail need kind instance accepting rows es = First_or_later (GroupsAre accepting rows es) (GroupsFail accepting rows es) (NoGroup need kind instance)

-- the values of all elements of a type and instance; where one is needed there is one
abbrev pub SeveralAre : Bool → ℕ → ℕ → List Element → List Value → Type 0
SeveralAre needed kind instance es values = EachIs (OneIs kind) (all_of kind instance es) values × (needed ≡ true → 0 < length values)

-- the first that spells none; or one is needed and there is none, and the element of another instance is missing
abbrev pub SeveralFail : Bool → ℕ → ℕ → ℕ → List Element → RowFault → Type 0
SeveralFail needed kind instance missed es =
    First_or_later (EachIs (OneIs kind) (all_of kind instance es)) (SomeFails (OneIs kind) (OneFails kind instance) (all_of kind instance es))
    (λ values f. (values ≡ []) × (needed ≡ true) × (f ≡ faults.Missing kind missed true None))

-- the values of a line, by what the lines before it say
abbrev pub LineIs : State → Line → List Element → Field → Type 0
LineIs state (Single row) es field = (values : List Value) × RowIs state.accepting row es values × (field ≡ Plain values)
LineIs state (Grouped row rows) es field =
    (groups : List (List (List Value)))
    × SomeGroups (need_of state.accepting row) (kind_of row) (instance_of row) state.accepting rows
    (all_of (kind_of row) (instance_of row) es) groups
    × (field ≡ Groups groups)
LineIs state (Several kind instance missed) es field = (values : List Value) × SeveralAre state.silent kind instance es values × (field ≡ Plain values)

abbrev pub LineFails : State → Line → List Element → RowFault → Type 0
LineFails state (Single row) es = RowFails state.accepting row es
LineFails state (Grouped row rows) es = SomeGroupsFail (need_of state.accepting row) (kind_of row) (instance_of row) state.accepting rows (all_of (kind_of row) (instance_of row) es)
LineFails state (Several kind instance missed) es = SeveralFail state.silent kind instance missed es

-- the values of a table's lines
abbrev pub LinesAre : State → List Line → List Element → List Field → Type 0
LinesAre state [] es = λ fields. fields ≡ []
LinesAre state (line ∷ lines) es = First_and_others (LineIs state line es) (λ field. LinesAre (after state field) lines es)

-- the first fault of a table's lines
abbrev pub LinesFail : State → List Line → List Element → RowFault → Type 0
LinesFail state [] es = λ f. ⊥
LinesFail state (line ∷ lines) es = First_or_later (LineIs state line es) (LineFails state line es) (λ field. LinesFail (after state field) lines es)
