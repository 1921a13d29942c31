-- The place that the fault of a message tells lies in its octets, or at their end.
use Rattle.std.proofs.Common.{◌≡◌, ◌+◌, ◌≤◌, ℕ, Bool, true, false, cond, ◌&&◌, List, [], ◌∷◌, length, Option, Some, None, Result, Ok, Err, inl, inr, sym, subst, ap, ◌∙◌, arith}
use Rattle.std.specs.Prelude.{filter, IfErr}
use Rattle.std.proofs.lemmas.List.{length-append}
use Rattle.std.proofs.lemmas.Option.{same_Some}
use Rattle.gtp_ie.specs.Element.{Element, is_of, first_of, all_of}
use Rattle.gtp_ie.specs.Octets.{Spans, AreElements, IsCut}
use Rattle.gtp_ie.specs.Value.{Value}
use Rattle.gtp_v2.specs.declared.fault.RowFault.{RowFault}
use Rattle.gtp_v2.specs.declared.fault.RowFault.TheVariants as row_faults
use Rattle.gtp_v2.specs.declared.fault.Need.{Need}
use Rattle.gtp_v2.specs.declared.fault.Need.TheVariants as needs
use Rattle.gtp_v2.specs.declared.fault.V2Fault.{V2Fault}
use Rattle.gtp_v2.specs.declared.fault.Head.{Head}
use Rattle.gtp_v2.specs.Table.{Row, Mandatory, Conditional, Accepted, Optional, Line, Single, Grouped, Several, State, start, accepts, after, need_of, kind_of, instance_of}
use Rattle.gtp_v2.specs.Grammar.{NeededFails, absent, short, bad, RowFails, RowsFail, in_group, InnerFails, GroupFails, SomeFails, OneFails, short_one, bad_one, NoGroup, LineFails, LinesFail}
use Rattle.gtp_v2.specs.Headed.{Headed}
use Rattle.gtp_v2.specs.Header.{HeaderFails}
use Rattle.gtp_v2.specs.Message.{with_head, MessageValue}
use Rattle.gtp_v2.specs.Asks.{Asks, asks_of}
use Rattle.gtp_v2.specs.Datagram.{FailsAsked, IsFaultBy, IsFault}
use Rattle.gtp_v2.specs.reading.Places.{place_of_element, place_of_fault}
use Rattle.gtp_values.specs.Steps.{Gives}
use Rattle.gtp_v2.specs.reading.Message.{message_at}
use Rattle.gtp_v2.proofs.Carried.{after_header}
use Rattle.gtp_v2.proofs.Told.{message_decided}

-- each element ends at a place, or before it
abbrev AllEnd : ℕ → List Element → Type 0
AllEnd limit [] = Unit {0}
AllEnd limit (e ∷ es) = (e.at + 4 + length e.body ≤ limit) × AllEnd limit es

-- the fault of a row tells a place up to there
abbrev IsWithin : ℕ → RowFault → Type 0
IsWithin limit (row_faults.Missing kind instance conditional None) = Unit {0}
IsWithin limit (row_faults.Missing kind instance conditional (Some at)) = at ≤ limit
IsWithin limit (row_faults.Element fault) = place_of_element fault ≤ limit

-- elements one after the other
record Ends (at : ℕ) (octets : List ℕ) (es : List Element) (rest : List ℕ) (place : ℕ) : Type 0 where
  last : place + length rest ≡ at + length octets
  each : AllEnd (at + length octets) es

spans_end : (at : ℕ) (octets : List ℕ) (es : List Element) (rest : List ℕ) (place : ℕ) → Spans at octets es rest place → Ends at octets es rest place
spans_end at octets [] rest place (same, is) = record { last = omega (arith, ap length same, is); each = tt }
spans_end at octets (e ∷ es) rest place (others, (high, low, last, text, long, half, small, is), spans) =
    let next = spans_end (at + (4 + length e.body)) others es rest place spans in
    let all = length-append e.body others in
    let same : (at + (4 + length e.body)) + length others ≡ at + length octets = omega (arith, ap length text, all) in
    record { last = next.last ∙ same; each = (omega (arith, ap length text, all, is), subst (λ n. AllEnd n es) same next.each) }

elements_end : (at : ℕ) (octets : List ℕ) (es : List Element) (limit : ℕ) → at + length octets ≤ limit → AreElements at octets es → AllEnd limit es
elements_end at octets es limit le (place, spans) = wider es (at + length octets) le (spans_end at octets es [] place spans).each where
  wider : (xs : List Element) (n : ℕ) → n ≤ limit → AllEnd n xs → AllEnd limit xs
  wider [] n few all = tt
  wider (x ∷ xs) n few all = (omega (arith, few, all.0), wider xs n few all.1)

cut_end : (at : ℕ) (octets : List ℕ) (place limit : ℕ) → at + length octets ≤ limit → IsCut at octets place → place ≤ limit
cut_end at octets place limit le (es, rest, spans, some, none) = let ends = spans_end at octets es rest place spans in omega (arith, ends.last, le)

filter_end : (test : Element → Bool) (limit : ℕ) (es : List Element) → AllEnd limit es → AllEnd limit (filter test es)
filter_end test limit [] all = tt
filter_end test limit (e ∷ es) all = by_test (test e) (filter_end test limit es all.1) where
  by_test : (b : Bool) → AllEnd limit (filter test es) → AllEnd limit (cond b (e ∷ filter test es) (filter test es))
  by_test true others = (all.0, others)
  by_test false others = others

first_end : (kind instance limit : ℕ) (es : List Element) (e : Element) → AllEnd limit es → first_of kind instance es ≡ Some e → e.at ≤ limit
first_end kind instance limit [] e all is = absurd cc
first_end kind instance limit (x ∷ xs) e all is = by_test (is_of kind instance x) (first_end kind instance limit xs e all.1) is where
  by_test : (b : Bool) → (first_of kind instance xs ≡ Some e → e.at ≤ limit) → cond b (Some x) (first_of kind instance xs) ≡ Some e → e.at ≤ limit
  by_test true others is = omega (arith, all.0, ap (λ (d : Element). d.at) (same_Some x e is))
  by_test false others is = others is

needed_within : (conditional : Bool) (kind instance limit : ℕ) (es : List Element) (f : RowFault) → AllEnd limit es → NeededFails conditional kind instance es f → IsWithin limit f
needed_within conditional kind instance limit es f all (absent none is) = subst (IsWithin limit) (sym is) tt
needed_within conditional kind instance limit es f all (short e there few is) = subst (IsWithin limit) (sym is) (first_end kind instance limit es e all there)
needed_within conditional kind instance limit es f all (bad e there silent is) = subst (IsWithin limit) (sym is) (first_end kind instance limit es e all there)

row_within : (accepting : Bool) (row : Row) (limit : ℕ) (es : List Element) (f : RowFault) → AllEnd limit es → RowFails accepting row es f → IsWithin limit f
row_within accepting (Mandatory kind instance) limit es f all fails = needed_within false kind instance limit es f all fails
row_within accepting (Conditional kind instance) limit es f all fails = needed_within true kind instance limit es f all fails
row_within true (Accepted kind instance) limit es f all fails = needed_within true kind instance limit es f all fails
row_within false (Accepted kind instance) limit es f all fails = absurd fails
row_within accepting (Optional kind instance) limit es f all fails = absurd fails

rows_within : (accepting : Bool) (rows : List Row) (limit : ℕ) (es : List Element) (f : RowFault) → AllEnd limit es → RowsFail accepting rows es f → IsWithin limit f
rows_within accepting [] limit es f all fails = absurd fails
rows_within accepting (row ∷ rows) limit es f all fails = elim fails [
  | inl first ↦ row_within accepting row limit es f all first
  | inr later ↦ rows_within (accepting && accepts later.0) rows limit es f all later.2
]

inner_within : (accepting : Bool) (rows : List Row) (limit : ℕ) (e : Element) (f : RowFault) → e.at + 4 + length e.body ≤ limit → InnerFails accepting rows e f → IsWithin limit f
inner_within accepting rows limit e f end fails = elim fails [
  | inl cut ↦ subst (IsWithin limit) (sym cut.2) (cut_end (e.at + 4) e.body cut.0 limit end cut.1)
  | inr later ↦ rows_within accepting rows limit later.0 f (elements_end (e.at + 4) e.body later.0 limit end later.1) later.2
]

told_within : (limit at : ℕ) (f : RowFault) → at ≤ limit → IsWithin limit f → IsWithin limit (in_group at f)
told_within limit at (row_faults.Missing kind instance conditional group) le within = le
told_within limit at (row_faults.Element fault) le within = within

group_within : (accepting : Bool) (rows : List Row) (limit : ℕ) (e : Element) (f : RowFault) → e.at + 4 + length e.body ≤ limit → GroupFails accepting rows e f → IsWithin limit f
group_within accepting rows limit e f end fails = subst (IsWithin limit) (sym fails.2) (told_within limit e.at fails.0 (omega (arith, end)) (inner_within accepting rows limit e fails.0 end fails.1))

some_within : {X : Type 0} (Is : Element → X → Type 0) (Fails : Element → RowFault → Type 0) (limit : ℕ) (es : List Element) (f : RowFault)
    → ((e : Element) → e.at + 4 + length e.body ≤ limit → Fails e f → IsWithin limit f) → AllEnd limit es → SomeFails Is Fails es f → IsWithin limit f
some_within Is Fails limit [] f each all fails = absurd fails
some_within Is Fails limit (e ∷ es) f each all fails = elim fails [ inl first ↦ each e all.0 first | inr later ↦ some_within Is Fails limit es f each all.1 later.2 ]

one_within : (kind instance limit : ℕ) (e : Element) (f : RowFault) → e.at + 4 + length e.body ≤ limit → OneFails kind instance e f → IsWithin limit f
one_within kind instance limit e f end (short_one few is) = subst (IsWithin limit) (sym is) (omega (arith, end))
one_within kind instance limit e f end (bad_one silent is) = subst (IsWithin limit) (sym is) (omega (arith, end))

none_within : (need : Need) (kind instance limit : ℕ) (groups : List (List (List Value))) (f : RowFault) → NoGroup need kind instance groups f → IsWithin limit f
none_within needs.Optional kind instance limit groups f none = absurd none
none_within needs.Mandatory kind instance limit groups f none = subst (IsWithin limit) (sym none.1) tt
none_within needs.Conditional kind instance limit groups f none = subst (IsWithin limit) (sym none.1) tt

line_within : (state : State) (line : Line) (limit : ℕ) (es : List Element) (f : RowFault) → AllEnd limit es → LineFails state line es f → IsWithin limit f
line_within state (Single row) limit es f all fails = row_within state.accepting row limit es f all fails
line_within state (Grouped row rows) limit es f all fails = elim fails [
  | inl group ↦ some_within _ _ limit (all_of (kind_of row) (instance_of row) es) f (λ e. group_within state.accepting rows limit e f)
      (filter_end (is_of (kind_of row) (instance_of row)) limit es all) group
  | inr later ↦ none_within (need_of state.accepting row) (kind_of row) (instance_of row) limit later.0 f later.2
]
line_within state (Several kind instance missed) limit es f all fails = elim fails [
  | inl one ↦ some_within _ _ limit (all_of kind instance es) f (λ e. one_within kind instance limit e f) (filter_end (is_of kind instance) limit es all) one
  | inr later ↦ subst (IsWithin limit) (sym later.2.2) tt
]

lines_within : (state : State) (lines : List Line) (limit : ℕ) (es : List Element) (f : RowFault) → AllEnd limit es → LinesFail state lines es f → IsWithin limit f
lines_within state [] limit es f all fails = absurd fails
lines_within state (line ∷ lines) limit es f all fails = elim fails [
  | inl first ↦ line_within state line limit es f all first
  | inr later ↦ lines_within (after state later.0) lines limit es f all later.2
]

-- the fault of a message tells a place up to there
abbrev IsUpTo : ℕ → V2Fault → Type 0
IsUpTo limit f = place_of_fault f ≤ limit

headed_up_to : (head : Head) (limit : ℕ) (f : RowFault) → IsWithin limit f → IsUpTo limit (with_head head f)
headed_up_to head limit (row_faults.Missing kind instance conditional None) within = omega arith
headed_up_to head limit (row_faults.Missing kind instance conditional (Some at)) within = within
headed_up_to head limit (row_faults.Element fault) within = within

body_up_to : (asks : Option Asks) (h : Headed) (limit : ℕ) (f : V2Fault) → h.at + length h.rest ≤ limit → FailsAsked asks h f → IsUpTo limit f
body_up_to None h limit f le fails = absurd fails
body_up_to (Some asks) h limit f le fails = elim fails [
  | inl form ↦ subst (IsUpTo limit) (sym form.1) (omega arith)
  | inr list ↦ elim list.1 [
    | inl cut ↦ subst (IsUpTo limit) (sym cut.2) (cut_end h.at h.rest cut.0 limit le cut.1)
    | inr later ↦
        let row = later.2 in
        subst (IsUpTo limit) (sym row.2.2) (headed_up_to _ limit row.0 (lines_within start asks.lines limit later.0 row.0 (elements_end h.at h.rest later.0 limit le later.1) row.1))
  ]
]

header_up_to : (octets : List ℕ) (limit : ℕ) (f : V2Fault) → HeaderFails octets f → IsUpTo limit f
header_up_to octets limit f (inl few) = subst (IsUpTo limit) (sym few.1) (omega arith)
header_up_to octets limit f (inr (first, kind, high, low, following, text, inl (ne, is))) = subst (IsUpTo limit) (sym is) (omega arith)
header_up_to octets limit f (inr (first, kind, high, low, following, text, inr (inl (flags, lt, eq, is)))) = subst (IsUpTo limit) (sym is) (omega arith)
header_up_to octets limit f (inr (first, kind, high, low, following, text, inr (inr (inl (flags, lt, eq, ne, is))))) = subst (IsUpTo limit) (sym is) (omega arith)
header_up_to octets limit f (inr (first, kind, high, low, following, text, inr (inr (inr (inl (flags, lt, eq, long, few, is)))))) = subst (IsUpTo limit) (sym is) (omega arith)
header_up_to octets limit f (inr (first, kind, high, low, following, text, inr (inr (inr (inr (flags, lt, eq, long, few, is)))))) = subst (IsUpTo limit) (sym is) (omega arith)

-- the first fault of a message tells a place in its octets, or at their end
pub fault_by_up_to : (asked : ℕ → Option Asks) (octets : List ℕ) (f : V2Fault) → IsFaultBy asked octets f → place_of_fault f ≤ length octets
fault_by_up_to asked octets f is = elim is [
  | inl header ↦ header_up_to octets (length octets) f header
  | inr body ↦
      let a = after_header octets body.0 body.1 in
      body_up_to (asked body.0.kind) body.0 (length octets) f (omega (arith, a.long)) body.2
]

pub fault_up_to : (octets : List ℕ) (f : V2Fault) → IsFault octets f → place_of_fault f ≤ length octets
fault_up_to = fault_by_up_to asks_of

-- what is answered by reading tells a place in the octets, or at their end
pub place_up_to : {X : Type 0} (view : X → MessageValue) (r : Result X V2Fault) (octets : List ℕ) → Gives view r (message_at octets) → IfErr r (λ f. place_of_fault f ≤ length octets)
place_up_to view (Ok v) octets h = tt
place_up_to view (Err f) octets h = fault_up_to octets f ((message_decided octets).err f h)
