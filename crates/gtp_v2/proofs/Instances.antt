-- An instance that a fault names is one of a table's rows, and so below 16.
use Rattle.std.proofs.Common.{◌≡◌, ◌<◌, ℕ, Bool, true, false, ◌&&◌, List, [], ◌∷◌, Option, Some, None, inl, inr, refl, sym, subst, ltb, ltb-true}
use Rattle.gtp_ie.specs.Element.{Element}
use Rattle.gtp_v2.specs.declared.fault.RowFault.{RowFault}
use Rattle.gtp_v2.specs.declared.fault.RowFault.TheVariants as row_faults
use Rattle.gtp_v2.specs.declared.fault.Need.{Need}
use Rattle.gtp_v2.specs.declared.fault.Need.TheVariants as needs
use Rattle.gtp_v2.specs.declared.fault.V2Fault.{V2Fault}
use Rattle.gtp_v2.specs.declared.fault.Head.{Head}
use Rattle.gtp_ie.specs.Value.{Value}
use Rattle.gtp_v2.specs.Table.{Row, Mandatory, Conditional, Accepted, Optional, Line, Single, Grouped, Several, State, start, Table, accepts, after, need_of, kind_of, instance_of}
use Rattle.gtp_v2.specs.Apart.{all_small, are_apart, fits, all_fit}
use Rattle.gtp_v2.specs.Grammar.{NeededFails, absent, short, bad, RowFails, RowsFail, in_group, InnerFails, GroupFails, SomeFails, OneFails, short_one, bad_one, NoGroup, LineFails, LinesFail}
use Rattle.gtp_v2.specs.Headed.{Headed}
use Rattle.gtp_v2.specs.Header.{HeaderFails}
use Rattle.gtp_v2.specs.Message.{with_head}
use Rattle.gtp_v2.specs.Tables.{table_of}
use Rattle.gtp_v2.specs.Datagram.{FailsBy, IsFault}
use Rattle.gtp_v2.specs.reading.Instances.{RowInstanceIsSmall}
use Rattle.gtp_v2.specs.Instances.{IsOfOctets, InstanceIsSmall}
use Rattle.gtp_values.proofs.Tests.{both}
use Rattle.gtp_v2.proofs.Encoded.{tables_fit}

needed_small : (conditional : Bool) (kind instance : ℕ) (es : List Element) (f : RowFault) → instance < 16 → NeededFails conditional kind instance es f → RowInstanceIsSmall f
needed_small conditional kind instance es f small (absent none is) = subst RowInstanceIsSmall (sym is) small
needed_small conditional kind instance es f small (short e there few is) = subst RowInstanceIsSmall (sym is) small
needed_small conditional kind instance es f small (bad e there silent is) = subst RowInstanceIsSmall (sym is) small

row_small : (accepting : Bool) (row : Row) (es : List Element) (f : RowFault) → instance_of row < 16 → RowFails accepting row es f → RowInstanceIsSmall f
row_small accepting (Mandatory kind instance) es f small fails = needed_small false kind instance es f small fails
row_small accepting (Conditional kind instance) es f small fails = needed_small true kind instance es f small fails
row_small true (Accepted kind instance) es f small fails = needed_small true kind instance es f small fails
row_small false (Accepted kind instance) es f small fails = absurd fails
row_small accepting (Optional kind instance) es f small fails = absurd fails

rows_small : (accepting : Bool) (rows : List Row) (es : List Element) (f : RowFault) → all_small rows ≡ true → RowsFail accepting rows es f → RowInstanceIsSmall f
rows_small accepting [] es f all fails = absurd fails
rows_small accepting (row ∷ rows) es f all fails =
    let small = both (ltb (instance_of row) 16) (all_small rows) all in
    elim fails [
      | inl first ↦ row_small accepting row es f (ltb-true _ _ small.left) first
      | inr later ↦ rows_small (accepting && accepts later.0) rows es f small.right later.2
    ]

inner_small : (accepting : Bool) (rows : List Row) (e : Element) (f : RowFault) → all_small rows ≡ true → InnerFails accepting rows e f → RowInstanceIsSmall f
inner_small accepting rows e f all fails = elim fails [
  | inl cut ↦ subst RowInstanceIsSmall (sym cut.2) tt
  | inr later ↦ rows_small accepting rows later.0 f all later.2
]

told_small : (at : ℕ) (f : RowFault) → RowInstanceIsSmall f → RowInstanceIsSmall (in_group at f)
told_small at (row_faults.Missing kind instance conditional group) small = small
told_small at (row_faults.Element fault) small = small

group_small : (accepting : Bool) (rows : List Row) (e : Element) (f : RowFault) → all_small rows ≡ true → GroupFails accepting rows e f → RowInstanceIsSmall f
group_small accepting rows e f all fails = subst RowInstanceIsSmall (sym fails.2) (told_small e.at fails.0 (inner_small accepting rows e fails.0 all fails.1))

some_small : {X : Type 0} (Is : Element → X → Type 0) (Fails : Element → RowFault → Type 0) (es : List Element) (f : RowFault)
    → ((e : Element) → Fails e f → RowInstanceIsSmall f) → SomeFails Is Fails es f → RowInstanceIsSmall f
some_small Is Fails [] f each fails = absurd fails
some_small Is Fails (e ∷ es) f each fails = elim fails [ inl first ↦ each e first | inr later ↦ some_small Is Fails es f each later.2 ]

one_small : (kind instance : ℕ) (e : Element) (f : RowFault) → instance < 16 → OneFails kind instance e f → RowInstanceIsSmall f
one_small kind instance e f small (short_one few is) = subst RowInstanceIsSmall (sym is) small
one_small kind instance e f small (bad_one silent is) = subst RowInstanceIsSmall (sym is) small

none_small : (need : Need) (kind instance : ℕ) (groups : List (List (List Value))) (f : RowFault) → instance < 16 → NoGroup need kind instance groups f → RowInstanceIsSmall f
none_small needs.Optional kind instance groups f small none = absurd none
none_small needs.Mandatory kind instance groups f small none = subst RowInstanceIsSmall (sym none.1) small
none_small needs.Conditional kind instance groups f small none = subst RowInstanceIsSmall (sym none.1) small

line_small : (state : State) (line : Line) (es : List Element) (f : RowFault) → fits line ≡ true → LineFails state line es f → RowInstanceIsSmall f
line_small state (Single row) es f fit fails = row_small state.accepting row es f (ltb-true _ _ fit) fails
line_small state (Grouped row rows) es f fit fails =
    let a = both (ltb (instance_of row) 16) (all_small rows && are_apart rows) fit in
    let b = both (all_small rows) (are_apart rows) a.right in
    elim fails [
      | inl group ↦ some_small _ _ _ f (λ e. group_small state.accepting rows e f b.left) group
      | inr later ↦ none_small (need_of state.accepting row) (kind_of row) (instance_of row) later.0 f (ltb-true _ _ a.left) later.2
    ]
line_small state (Several kind instance missed) es f fit fails =
    let small = both (ltb instance 16) (ltb missed 16) fit in
    elim fails [
      | inl one ↦ some_small _ _ _ f (λ e. one_small kind instance e f (ltb-true _ _ small.left)) one
      | inr later ↦ subst RowInstanceIsSmall (sym later.2.2) (ltb-true _ _ small.right)
    ]

lines_small : (state : State) (lines : List Line) (es : List Element) (f : RowFault) → all_fit lines ≡ true → LinesFail state lines es f → RowInstanceIsSmall f
lines_small state [] es f fit fails = absurd fails
lines_small state (line ∷ lines) es f fit fails =
    let a = both (fits line) (all_fit lines) fit in
    elim fails [
      | inl first ↦ line_small state line es f a.left first
      | inr later ↦ lines_small (after state later.0) lines es f a.right later.2
    ]

-- a fault of octets, and the instance that it names
abbrev IsSmall : V2Fault → Type 0
IsSmall f = InstanceIsSmall f × IsOfOctets f

with_head_small : (head : Head) (f : RowFault) → RowInstanceIsSmall f → IsSmall (with_head head f)
with_head_small head (row_faults.Missing kind instance conditional group) small = (small, tt)
with_head_small head (row_faults.Element fault) small = (small, tt)

body_small : (table : Option Table) (h : Headed) (f : V2Fault) → ((t : Table) → table ≡ Some t → all_fit t.lines ≡ true) → FailsBy table h f → IsSmall f
body_small None h f fit fails = absurd fails
body_small (Some table) h f fit fails = elim fails [
  | inl form ↦ subst IsSmall (sym form.1) (tt, tt)
  | inr list ↦ elim list.1 [
    | inl cut ↦ subst IsSmall (sym cut.2) (tt, tt)
    | inr later ↦
        let row = later.2 in
        subst IsSmall (sym row.2.2) (with_head_small _ row.0 (lines_small start table.lines later.0 row.0 (fit table refl) row.1))
  ]
]

header_small : (octets : List ℕ) (f : V2Fault) → HeaderFails octets f → IsSmall f
header_small octets f (inl few) = subst IsSmall (sym few.1) (tt, tt)
header_small octets f (inr (first, kind, high, low, following, text, inl (ne, is))) = subst IsSmall (sym is) (tt, tt)
header_small octets f (inr (first, kind, high, low, following, text, inr (inl (flags, lt, eq, is)))) = subst IsSmall (sym is) (tt, tt)
header_small octets f (inr (first, kind, high, low, following, text, inr (inr (inl (flags, lt, eq, ne, is))))) = subst IsSmall (sym is) (tt, tt)
header_small octets f (inr (first, kind, high, low, following, text, inr (inr (inr (inl (flags, lt, eq, long, few, is)))))) = subst IsSmall (sym is) (tt, tt)
header_small octets f (inr (first, kind, high, low, following, text, inr (inr (inr (inr (flags, lt, eq, long, few, is)))))) = subst IsSmall (sym is) (tt, tt)

-- the fault of a header is none of memory
pub header_of_octets : (octets : List ℕ) (f : V2Fault) → HeaderFails octets f → IsOfOctets f
header_of_octets octets f fails = (header_small octets f fails).1

small_fault : (octets : List ℕ) (f : V2Fault) → IsFault octets f → IsSmall f
small_fault octets f is = elim is [
  | inl header ↦ header_small octets f header
  | inr body ↦ body_small (table_of body.0.kind) body.0 f (tables_fit body.0.kind) body.2
]

-- the first fault of a datagram names an instance below 16
pub fault_small : (octets : List ℕ) (f : V2Fault) → IsFault octets f → InstanceIsSmall f
fault_small octets f is = (small_fault octets f is).0

-- and is none of memory
pub fault_of_octets : (octets : List ℕ) (f : V2Fault) → IsFault octets f → IsOfOctets f
fault_of_octets octets f is = (small_fault octets f is).1
