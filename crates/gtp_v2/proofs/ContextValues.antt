-- What bearer contexts have, by their elements.
use Rattle.std.proofs.Common.{rules, ◌≡◌, ℕ, ◌+◌, Bool, true, false, cond, ◌&&◌, List, [], ◌∷◌, Option, Some, None, option_map, Result, Ok, Err, refl, sym, ap, subst, ◌∙◌, map}
use Rattle.std.specs.Prelude.{◌==◌, if◌then◌else◌, length, is_some, unwrap_or, All, IsTrue}
use Rattle.std.proofs.lemmas.List.Elements.{All-nil, All-cons}
use Rattle.gtp_values.specs.Steps.{◌>>=◌}
use Rattle.gtp_values.proofs.Decided.{bind_ok}
use Rattle.gtp_values.proofs.Outcomes.{done, ok_same}
use Rattle.gtp_ie.specs.Element.{Element, elements_of, all_of}
use Rattle.gtp_ie.specs.Form.{bearer_context}
use Rattle.gtp_ie.specs.Value.{Value}
use Rattle.gtp_v2.specs.declared.fault.RowFault.{RowFault}
use Rattle.gtp_v2.specs.declared.fault.RowFault.TheVariants.{Missing}
use Rattle.gtp_v2.specs.Table.{Line, Single, Grouped, Several, Field, Groups, Table, State, need_of, Row, Mandatory, Conditional, Accepted, Optional, kind_of, instance_of, accepts}
use Rattle.gtp_v2.specs.Message.{Content, Fields, Raw}
use Rattle.gtp_v2.specs.Tables.{table_of}
use Rattle.gtp_v2.specs.Grammar.{in_group}
use Rattle.gtp_v2.specs.reading.Rows.{fault_as, line_at, some_groups, row_at, rows_at, inner_at, group_at, groups_at, each_at, whole, needed_at}
use Rattle.gtp_v2.specs.Viewed.{optional_at, Viewed, found_among, found_by, line_among, line_by, is_groups, rows_of, groups_of, inner_of, values_in}
use Rattle.gtp_v2.specs.Viewed.{context_line, has_contexts, context_rows, contexts_of, always_there, always_some, always_has_context, always_among, context_always_has}
use Rattle.gtp_v2.proofs.Views.{whole_is, both_same, needed_is, IsRead, there_by, found_is}
use Rattle.gtp_v2.proofs.GroupValues.{fault_as_ok, some_are, groups_found}

-- the line that is found is the first one that is asked for
first_among : (asked : Line → Bool) (lines : List Line) (fields : List Field) (p : Line × Field) → found_among asked lines fields ≡ Some p → line_among asked lines ≡ Some p.0
first_among asked [] fields p found = absurd cc
first_among asked (line ∷ lines) [] p found = absurd cc
first_among asked (line ∷ lines) (field ∷ fields) p found = by (asked line) found (first_among asked lines fields p) where
  by : (b : Bool) → cond b (Some (line, field)) (found_among asked lines fields) ≡ Some p
      → (found_among asked lines fields ≡ Some p → line_among asked lines ≡ Some p.0) → cond b (Some line) (line_among asked lines) ≡ Some p.0
  by true found later = ap (option_map (λ (q : Line × Field). q.0)) found
  by false found later = later found

-- the line of bearer contexts of a message that is viewed, and what it has
record HasContexts (v : Viewed) : Type 0 where
  pub line : Line
  pub field : Field
  pub state : State
  pub first : context_line v.message.kind ≡ Some line
  pub is : is_groups bearer_context 0 line ≡ true
  pub read : line_at state line v.elements ≡ Ok field
  pub contexts : contexts_of v.message ≡ groups_of field

has_them : (v : Viewed) → IsRead v → has_contexts v.message.kind ≡ true → HasContexts v
has_them v read has =
    let t = there_by asked (table_of v.message.kind) v.message.content v.elements read has in
    let f = found_is asked v read t.0 t.1 in
    record {
      line = t.0.0;
      field = t.0.1;
      state = f.0;
      first = first_by (table_of v.message.kind) v.message.content t.0 t.1;
      is = f.2;
      read = f.1;
      contexts = ap (λ (o : Option (Line × Field)). (unwrap_or {T = List Row × List (List (List Value))} (option_map (λ (p : Line × Field). (rows_of p.0, groups_of p.1)) o) ([], [])).1) t.1;
    }
  where
    asked : Line → Bool
    asked = is_groups bearer_context 0

    first_by : (table : Option Table) (content : Content) (p : Line × Field) → found_by asked table content ≡ Some p → line_by asked table ≡ Some p.0
    first_by None content p found = absurd cc
    first_by (Some table) (Fields fields) p found = first_among asked table.lines fields p found
    first_by (Some table) (Raw octets) p found = absurd cc

-- their rows have what their elements say
pub contexts_are : (v : Viewed) → IsRead v → has_contexts v.message.kind ≡ true
    → contexts_of v.message ≡ map (values_in (context_rows v.message.kind)) (map inner_of (all_of bearer_context 0 v.elements))
contexts_are v read has =
    let h = has_them v read has in
    h.contexts ∙ groups_found bearer_context 0 v.elements h.line h.field h.state h.read h.is
    ∙ ap (λ (o : Option Line). map (values_in (unwrap_or (option_map rows_of o) [])) (map inner_of (all_of bearer_context 0 v.elements))) (sym h.first)

-- ---- there is one where there always is one

there_is_line : (o : Option Line) → unwrap_or (option_map always_some o) false ≡ true → is_some o ≡ true
there_is_line None is = absurd cc
there_is_line (Some line) is = refl

-- what is needed is not empty
some_needed : (fault : RowFault) (r : Result (List (List (List Value))) RowFault) (groups : List (List (List Value)))
    → (r >>= λ gs. if length gs == 0 then Err fault else Ok gs) ≡ Ok groups → groups ≡ [] → ⊥
some_needed fault (Ok []) groups h none = absurd cc
some_needed fault (Ok (g ∷ gs)) groups h none = by_length (length (g ∷ gs) == 0) (search rules) h where
  by_length : (b : Bool) → b ≡ false → (if b then Err fault else done RowFault (g ∷ gs)) ≡ Ok groups → ⊥
  by_length true is h = absurd cc
  by_length false is h = let never : done RowFault (g ∷ gs) ≡ Ok [] = h ∙ ap (done RowFault) none in absurd cc
some_needed fault (Err f) groups h none = absurd cc

some_group : (state : State) (line : Line) (field : Field) (es : List Element) → line_at state line es ≡ Ok field → always_some line ≡ true → groups_of field ≡ [] → ⊥
unfolding some_groups
some_group state (Grouped (Mandatory kind instance) rows) field es one always none =
    let g =
    bind_ok (some_groups (need_of state.accepting (Mandatory kind instance)) kind instance state.accepting rows (all_of kind instance es))
    (λ groups. done RowFault (Groups groups)) field one in
    some_needed (Missing kind instance false None) (groups_at state.accepting rows (all_of kind instance es)) g.0 g.1 (ap groups_of (ok_same RowFault (Groups g.0) field g.2) ∙ none)
some_group state (Grouped (Conditional kind instance) rows) field es one always none =
    let g =
    bind_ok (some_groups (need_of state.accepting (Conditional kind instance)) kind instance state.accepting rows (all_of kind instance es))
    (λ groups. done RowFault (Groups groups)) field one in
    some_needed (Missing kind instance true None) (groups_at state.accepting rows (all_of kind instance es)) g.0 g.1 (ap groups_of (ok_same RowFault (Groups g.0) field g.2) ∙ none)
some_group state (Grouped (Accepted kind instance) rows) field es one always none = absurd cc
some_group state (Grouped (Optional kind instance) rows) field es one always none = absurd cc
some_group state (Single row) field es one always none = absurd cc
some_group state (Several kind instance missed) field es one always none = absurd cc

pub some_context : (v : Viewed) → IsRead v → always_has_context v.message.kind ≡ true → contexts_of v.message ≡ [] → ⊥
some_context v read always none =
    let h = has_them v read (there_is_line (context_line v.message.kind) always) in
    some_group h.state h.line h.field v.elements h.read (ap (λ (o : Option Line). unwrap_or (option_map always_some o) false) (sym h.first) ∙ always) (sym h.contexts ∙ none)

-- so there is one among its elements
pub some_inner : (v : Viewed) → IsRead v → always_has_context v.message.kind ≡ true → map inner_of (all_of bearer_context 0 v.elements) ≡ [] → ⊥
some_inner v read always none =
    some_context v read always (contexts_are v read (there_is_line (context_line v.message.kind) always) ∙ ap (map (values_in (context_rows v.message.kind))) none)

-- ---- each has a value in each row that always has one

row_there : (accepting : Bool) (row : Row) (es : List Element) (values : List Value) → row_at accepting row es ≡ Ok values → always_there row ≡ true
    → is_some (optional_at (kind_of row) (instance_of row) es) ≡ true
row_there accepting (Mandatory kind instance) es values h always =
    let b = bind_ok (needed_at false kind instance es) (λ v. done RowFault (v ∷ [])) values h in ap (λ (o : Option Value). is_some o) (needed_is false kind instance es b.0 b.1)
row_there accepting (Conditional kind instance) es values h always =
    let b = bind_ok (needed_at true kind instance es) (λ v. done RowFault (v ∷ [])) values h in ap (λ (o : Option Value). is_some o) (needed_is true kind instance es b.0 b.1)
row_there accepting (Accepted kind instance) es values h always = absurd cc
row_there accepting (Optional kind instance) es values h always = absurd cc

rows_there : (accepting : Bool) (kind instance : ℕ) (rows : List Row) (es : List Element) (all : List (List Value)) → rows_at accepting rows es ≡ Ok all
    → always_among kind instance rows ≡ true → is_some (optional_at kind instance es) ≡ true
unfolding rows_at
rows_there accepting kind instance [] es all h always = absurd cc
rows_there accepting kind instance (row ∷ rows) es all h always =
    let b = bind_ok (row_at accepting row es) (λ values. rows_at (accepting && accepts values) rows es >>= λ others. done RowFault (values ∷ others)) all h in
    let d = bind_ok (rows_at (accepting && accepts b.0) rows es) (λ others. done RowFault (b.0 ∷ others)) all b.2 in
    by ((kind_of row == kind) && (instance_of row == instance)) refl always b.0 b.1 (rows_there (accepting && accepts b.0) kind instance rows es d.0 d.1)
  where
    by : (same : Bool) → ((kind_of row == kind) && (instance_of row == instance)) ≡ same
        → cond same (always_there row) (always_among kind instance rows) ≡ true → (values : List Value) → row_at accepting row es ≡ Ok values
        → (always_among kind instance rows ≡ true → is_some (optional_at kind instance es) ≡ true) → is_some (optional_at kind instance es) ≡ true
    by true same always values one later =
        let p = both_same (kind_of row) kind (instance_of row) instance same in
        (λ i. is_some (optional_at (sym p.0 i) (sym p.1 i) es)) ∙ row_there accepting row es values one always
    by false same always values one later = later always

abbrev IsThere : ℕ → ℕ → List Element → Type 0
IsThere kind instance es = IsTrue (is_some (optional_at kind instance es))

groups_there : (accepting : Bool) (kind instance : ℕ) (rows : List Row) (es : List Element) (groups : List (List (List Value)))
    → groups_at accepting rows es ≡ Ok groups → always_among kind instance rows ≡ true → All (IsThere kind instance) (map inner_of es)
unfolding each_at group_at
groups_there accepting kind instance rows [] groups h always = All-nil (IsThere kind instance)
groups_there accepting kind instance rows (e ∷ es) groups h always =
    let b = bind_ok (group_at accepting rows e) (λ first. each_at (group_at accepting rows) es >>= λ others. done RowFault (first ∷ others)) groups h in
    let d = bind_ok (each_at (group_at accepting rows) es) (λ others. done RowFault (b.0 ∷ others)) groups b.2 in
    let g = bind_ok (whole (elements_of (e.at + 4) e.body)) (λ es. rows_at accepting rows es) b.0 (fault_as_ok (in_group e.at) (inner_at accepting rows e) b.0 b.1) in
    All-cons (IsThere kind instance) (inner_of e) (map inner_of es)
    (ap (λ (xs : List Element). is_some (optional_at kind instance xs)) (whole_is (elements_of (e.at + 4) e.body) g.0 g.1) ∙ rows_there accepting kind instance rows g.0 b.0 g.2 always)
    (groups_there accepting kind instance rows es d.0 d.1 always)

line_there : (kind instance : ℕ) (state : State) (line : Line) (field : Field) (es : List Element) → line_at state line es ≡ Ok field
    → is_groups bearer_context 0 line ≡ true → always_among kind instance (rows_of line) ≡ true
    → All (IsThere kind instance) (map inner_of (all_of bearer_context 0 es))
unfolding some_groups
line_there kind instance state (Grouped row rows) field es one same always =
    let of = all_of (kind_of row) (instance_of row) es in
    let need = need_of state.accepting row in
    let g = bind_ok (some_groups need (kind_of row) (instance_of row) state.accepting rows of) (λ groups. done RowFault (Groups groups)) field one in
    let p = both_same (kind_of row) bearer_context (instance_of row) 0 same in
    subst (λ (xs : List Element). All (IsThere kind instance) (map inner_of xs)) (λ i. all_of (p.0 i) (p.1 i) es)
    (groups_there state.accepting kind instance rows of g.0 (some_are need (kind_of row) (instance_of row) (groups_at state.accepting rows of) g.0 g.1) always)
line_there kind instance state (Single row) field es one same always = absurd cc
line_there kind instance state (Several k i missed) field es one same always = absurd cc

has_line : (kind instance : ℕ) (o : Option Line) → always_among kind instance (unwrap_or (option_map rows_of o) []) ≡ true → is_some o ≡ true
has_line kind instance None is = absurd cc
has_line kind instance (Some line) is = refl

pub each_there : (kind instance : ℕ) (v : Viewed) → IsRead v → context_always_has v.message.kind kind instance ≡ true → All (IsThere kind instance) (map inner_of (all_of bearer_context 0 v.elements))
each_there kind instance v read always =
    let h = has_them v read (has_line kind instance (context_line v.message.kind) always) in
    line_there kind instance h.state h.line h.field v.elements h.read h.is (ap (λ (o : Option Line). always_among kind instance (unwrap_or (option_map rows_of o) [])) (sym h.first) ∙ always)
