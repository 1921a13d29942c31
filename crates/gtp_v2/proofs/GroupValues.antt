-- What groups have, by their elements.
use Rattle.std.proofs.Common.{rules, ◌≡◌, ℕ, ◌+◌, Bool, true, false, ◌&&◌, List, [], ◌∷◌, Option, Some, None, Result, Ok, Err, refl, sym, ap, subst, ◌∙◌, map}
use Rattle.std.specs.Prelude.{◌==◌, if◌then◌else◌, option_to_list, length}
use Rattle.gtp_values.specs.Steps.{◌>>=◌}
use Rattle.gtp_values.proofs.Decided.{bind_ok}
use Rattle.gtp_values.proofs.Outcomes.{done, ok_same}
use Rattle.gtp_ie.specs.Element.{Element, elements_of, all_of}
use Rattle.gtp_ie.specs.Value.{Value}
use Rattle.gtp_v2.specs.declared.fault.RowFault.{RowFault}
use Rattle.gtp_v2.specs.declared.fault.Need.{Need}
use Rattle.gtp_v2.specs.declared.fault.Need.TheVariants as needs
use Rattle.gtp_v2.specs.Tables.{table_of}
use Rattle.gtp_v2.specs.Table.{Line, Single, Grouped, Several, Field, Groups, State, need_of, Row, Mandatory, Conditional, Accepted, Optional, kind_of, instance_of, accepts}
use Rattle.gtp_v2.specs.Grammar.{in_group}
use Rattle.gtp_v2.specs.reading.Rows.{fault_as, line_at, some_groups, no_group, row_at, rows_at, inner_at, group_at, groups_at, each_at, whole, needed_at, needed_if_at}
use Rattle.gtp_v2.specs.Viewed.{optional_at, Viewed, found_by, is_groups, rows_of, groups_of, in_groups, inner_of, values_in, front_value}
use Rattle.gtp_v2.proofs.Views.{whole_is, row_is, both_same, IsRead, made_of, found_is}

-- a row has one value at most
one_or_none : (r : Result Value RowFault) (values : List Value) → (r >>= λ v. done RowFault (v ∷ [])) ≡ Ok values → option_to_list (front_value values) ≡ values
one_or_none (Ok v) values h = subst (λ (vs : List Value). option_to_list (front_value vs) ≡ vs) (ok_same RowFault (v ∷ []) values h) refl
one_or_none (Err f) values h = absurd cc

listed : (o : Option Value) (values : List Value) → done RowFault (option_to_list o) ≡ Ok values → option_to_list (front_value values) ≡ values
listed None values h = subst (λ (vs : List Value). option_to_list (front_value vs) ≡ vs) (ok_same RowFault [] values h) refl
listed (Some v) values h = subst (λ (vs : List Value). option_to_list (front_value vs) ≡ vs) (ok_same RowFault (v ∷ []) values h) refl

at_most_one : (accepting : Bool) (row : Row) (es : List Element) (values : List Value) → row_at accepting row es ≡ Ok values → option_to_list (front_value values) ≡ values
at_most_one accepting (Mandatory kind instance) es values h = one_or_none (needed_at false kind instance es) values h
at_most_one accepting (Conditional kind instance) es values h = one_or_none (needed_at true kind instance es) values h
at_most_one accepting (Accepted kind instance) es values h =
    let b = bind_ok (needed_if_at accepting kind instance es) (λ o. done RowFault (option_to_list o)) values h in
    listed b.0 values b.2
at_most_one accepting (Optional kind instance) es values h = listed (optional_at kind instance es) values h

pub rows_values : (accepting : Bool) (rows : List Row) (es : List Element) (all : List (List Value)) → rows_at accepting rows es ≡ Ok all → all ≡ values_in rows es
unfolding rows_at
rows_values accepting [] es all h = sym (ok_same RowFault [] all h)
rows_values accepting (row ∷ rows) es all h =
    let b = bind_ok (row_at accepting row es) (λ values. rows_at (accepting && accepts values) rows es >>= λ others. done RowFault (values ∷ others)) all h in
    let d = bind_ok (rows_at (accepting && accepts b.0) rows es) (λ others. done RowFault (b.0 ∷ others)) all b.2 in
    let value : option_to_list (optional_at (kind_of row) (instance_of row) es) ≡ b.0 = ap option_to_list (row_is accepting row es b.0 b.1) ∙ at_most_one accepting row es b.0 b.1 in
    sym (ok_same RowFault (b.0 ∷ d.0) all d.2) ∙ ap (λ vs. vs ∷ d.0) (sym value)
    ∙ ap (λ others. option_to_list (optional_at (kind_of row) (instance_of row) es) ∷ others) (rows_values (accepting && accepts b.0) rows es d.0 d.1)

-- what reads does, however a fault is told
pub fault_as_ok : {X E : Type 0} (told : E → E) (r : Result X E) (x : X) → fault_as told r ≡ Ok x → r ≡ Ok x
fault_as_ok told (Ok y) x h = h
fault_as_ok told (Err f) x h = absurd cc

group_values : (accepting : Bool) (rows : List Row) (e : Element) (all : List (List Value)) → group_at accepting rows e ≡ Ok all → all ≡ values_in rows (inner_of e)
unfolding group_at
group_values accepting rows e all h =
    let b = bind_ok (whole (elements_of (e.at + 4) e.body)) (λ es. rows_at accepting rows es) all (fault_as_ok (in_group e.at) (inner_at accepting rows e) all h) in
    rows_values accepting rows b.0 all b.2 ∙ ap (values_in rows) (sym (whole_is (elements_of (e.at + 4) e.body) b.0 b.1))

-- what groups have is what their elements say, in order
pub groups_values : (accepting : Bool) (rows : List Row) (es : List Element) (groups : List (List (List Value))) → groups_at accepting rows es ≡ Ok groups
    → groups ≡ map (values_in rows) (map inner_of es)
unfolding each_at
groups_values accepting rows [] groups h = sym (ok_same RowFault [] groups h)
groups_values accepting rows (e ∷ es) groups h =
    let b = bind_ok (group_at accepting rows e) (λ first. each_at (group_at accepting rows) es >>= λ others. done RowFault (first ∷ others)) groups h in
    let d = bind_ok (each_at (group_at accepting rows) es) (λ others. done RowFault (b.0 ∷ others)) groups b.2 in
    sym (ok_same RowFault (b.0 ∷ d.0) groups d.2) ∙ ap (λ first. first ∷ d.0) (group_values accepting rows e b.0 b.1)
    ∙ ap (λ others. values_in rows (inner_of e) ∷ others) (groups_values accepting rows es d.0 d.1)

pub some_are : (need : Need) (kind instance : ℕ) (r : Result (List (List (List Value))) RowFault) (groups : List (List (List Value)))
    → (r >>= λ gs. if length gs == 0 then no_group need kind instance else Ok gs) ≡ Ok groups → r ≡ Ok groups
some_are needs.Mandatory kind instance (Ok []) groups h = absurd cc
some_are needs.Conditional kind instance (Ok []) groups h = absurd cc
some_are needs.Optional kind instance (Ok []) groups h = h
some_are need kind instance (Ok (g ∷ gs)) groups h = by_length (length (g ∷ gs) == 0) (search rules) h where
  by_length : (b : Bool) → b ≡ false → (if b then no_group need kind instance else Ok (g ∷ gs)) ≡ Ok groups → done RowFault (g ∷ gs) ≡ Ok groups
  by_length true is h = absurd cc
  by_length false is h = h
some_are need kind instance (Err f) groups h = absurd cc

pub groups_found : (kind instance : ℕ) (es : List Element) (line : Line) (field : Field) (state : State) → line_at state line es ≡ Ok field
    → is_groups kind instance line ≡ true → groups_of field ≡ map (values_in (rows_of line)) (map inner_of (all_of kind instance es))
unfolding some_groups
groups_found kind instance es (Grouped row rows) field state one same =
    let of = all_of (kind_of row) (instance_of row) es in
    let need = need_of state.accepting row in
    let g = bind_ok (some_groups need (kind_of row) (instance_of row) state.accepting rows of) (λ groups. done RowFault (Groups groups)) field one in
    let p = both_same (kind_of row) kind (instance_of row) instance same in
    ap groups_of (sym (ok_same RowFault (Groups g.0) field g.2)) ∙ groups_values state.accepting rows of g.0 (some_are need (kind_of row) (instance_of row) (groups_at state.accepting rows of) g.0 g.1)
    ∙ (λ i. map (values_in rows) (map inner_of (all_of (p.0 i) (p.1 i) es)))
groups_found kind instance es (Single row) field state one same = absurd cc
groups_found kind instance es (Several k i missed) field state one same = absurd cc

-- the groups of the message are those of its elements
pub groups_are : (kind instance : ℕ) (v : Viewed) → IsRead v → (p : List Row × List (List (List Value))) → in_groups kind instance v.message ≡ Some p
    → p.1 ≡ map (values_in p.0) (map inner_of (all_of kind instance v.elements))
groups_are kind instance v read p is =
    let q = made_of (λ (x : Line × Field). (rows_of x.0, groups_of x.1)) (found_by (is_groups kind instance) (table_of v.message.kind) v.message.content) p is in
    let f = found_is (is_groups kind instance) v read q.0 q.1 in
    subst (λ (x : List Row × List (List (List Value))). x.1 ≡ map (values_in x.0) (map inner_of (all_of kind instance v.elements))) q.2
    (groups_found kind instance v.elements q.0.0 q.0.1 f.0 f.1 f.2)
