-- What a view is told, and what it tells.
use Rattle.std.proofs.Common.{rules, ◌≡◌, ℕ, Bool, true, false, cond, ◌&&◌, List, [], ◌∷◌, Option, Some, None, Result, Ok, Err, refl, sym, ap, subst, ◌∙◌}
use Rattle.std.specs.Prelude.{option_map, ◌==◌, option_to_list, unwrap_or, is_some}
use Rattle.std.specs.Bool.{beq}
use Rattle.std.proofs.lemmas.Option.{same_Some}
use Rattle.gtp_values.specs.Steps.{◌>>=◌}
use Rattle.gtp_values.proofs.Decided.{bind_ok}
use Rattle.gtp_values.proofs.Outcomes.{done, ok_same}
use Rattle.gtp_ie.specs.declared.fault.ReadFault.{ReadFault}
use Rattle.gtp_ie.specs.declared.fault.ReadFault.TheVariants.{Short, Bad}
use Rattle.gtp_ie.specs.Element.{Element, elements_of, list_of, first_of}
use Rattle.gtp_ie.specs.Value.{Value, value_at}
use Rattle.gtp_v2.specs.declared.fault.RowFault.{RowFault}
use Rattle.gtp_v2.specs.declared.fault.Head.{Head}
use Rattle.gtp_v2.specs.declared.fault.V2Fault.{V2Fault}
use Rattle.gtp_v2.specs.declared.fault.V2Fault.TheVariants as faults
use Rattle.gtp_v2.specs.Table.{Row, Mandatory, Conditional, Accepted, Optional, Line, Single, Grouped, Several, Field, Plain, State, start, after, Table, kind_of, instance_of}
use Rattle.gtp_v2.specs.reading.Rows.{row_at, needed, needed_at, needed_if_at, one_at, named, line_at, lines_at, whole}
use Rattle.gtp_v2.specs.Viewed.{optional_at, welcome, value_or_none, Viewed, found_among, found_by, plain_of, is_row, is_needed, needs_among}
use Rattle.gtp_v2.specs.Viewed.{needs_by, always_has, in_row, line_among, line_by, has_row, row_of, front_value}
use Rattle.gtp_v2.specs.reading.Checked.{forgotten}
use Rattle.gtp_v2.specs.Headed.{Headed}
use Rattle.gtp_v2.specs.Message.{Content, Fields, head_of}
use Rattle.gtp_v2.specs.reading.Message.{told, sender_of, list_at, fields_at, typed_at, as_fields, by_table, content_among, content_at}
use Rattle.gtp_v2.specs.Tables.{table_of}
use Rattle.gtp_v2.specs.reading.Viewed.{viewed, IsViewed, content_or_none, elements_by, list_or_none}
use Rattle.gtp_v2.proofs.Checks.{was_read}

-- ---- what a row has, an element has

pub one_is : (kind instance : ℕ) (e : Element) (v : Value) → one_at kind instance e ≡ Ok v → value_or_none (value_at kind e.body) ≡ Some v
unfolding one_at
one_is kind instance e v h = by_value (value_at kind e.body) h where
  by_value : (r : Result Value ReadFault) → named kind instance e.at r ≡ Ok v → value_or_none r ≡ Some v
  by_value (Ok w) h = cc
  by_value (Err Short) h = absurd cc
  by_value (Err Bad) h = absurd cc

pub needed_is : (conditional : Bool) (kind instance : ℕ) (es : List Element) (v : Value) → needed_at conditional kind instance es ≡ Ok v → optional_at kind instance es ≡ Some v
unfolding needed_at optional_at
needed_is conditional kind instance es v h = by_first (first_of kind instance es) h where
  by_first : (o : Option Element) → needed conditional kind instance o ≡ Ok v → welcome kind o ≡ Some v
  by_first None h = absurd cc
  by_first (Some e) h = one_is kind instance e v h

needed_row : (conditional : Bool) (kind instance : ℕ) (es : List Element) (values : List Value)
    → (needed_at conditional kind instance es >>= λ v. Ok (v ∷ [])) ≡ Ok values → optional_at kind instance es ≡ front_value values
needed_row conditional kind instance es values h =
    let b = bind_ok (needed_at conditional kind instance es) (λ v. done RowFault (v ∷ [])) values h in
    needed_is conditional kind instance es b.0 b.1 ∙ ap front_value (ok_same RowFault (b.0 ∷ []) values b.2)

optional_row : (o : Option Value) (values : List Value) → done RowFault (option_to_list o) ≡ Ok values → o ≡ front_value values
optional_row None values h = ap front_value (ok_same RowFault [] values h)
optional_row (Some v) values h = ap front_value (ok_same RowFault (v ∷ []) values h)

accepted_row : (accepting : Bool) (kind instance : ℕ) (es : List Element) (values : List Value)
    → (needed_if_at accepting kind instance es >>= λ o. Ok (option_to_list o)) ≡ Ok values → optional_at kind instance es ≡ front_value values
unfolding needed_if_at
accepted_row true kind instance es values h = needed_row true kind instance es values (sym (twice (needed_at true kind instance es)) ∙ h) where
  twice : (r : Result Value RowFault) → ((r >>= λ v. Ok (Some v)) >>= λ o. done RowFault (option_to_list o)) ≡ (r >>= λ v. Ok (v ∷ []))
  twice (Ok v) = refl
  twice (Err f) = refl
accepted_row false kind instance es values h = optional_row (optional_at kind instance es) values h

pub row_is : (accepting : Bool) (row : Row) (es : List Element) (values : List Value) → row_at accepting row es ≡ Ok values → optional_at (kind_of row) (instance_of row) es ≡ front_value values
row_is accepting (Mandatory kind instance) es values h = needed_row false kind instance es values h
row_is accepting (Conditional kind instance) es values h = needed_row true kind instance es values h
row_is accepting (Accepted kind instance) es values h = accepted_row accepting kind instance es values h
row_is accepting (Optional kind instance) es values h = optional_row (optional_at kind instance es) values h

pub both_same : (a b c d : ℕ) → ((a == b) && (c == d)) ≡ true → (a ≡ b) × (c ≡ d)
both_same a b c d h = search rules

-- a line is found, and its field is read of these elements
abbrev pub IsFound : (Line → Bool) → List Element → Line × Field → Type 0
IsFound asked es p = (state : State) × (line_at state p.0 es ≡ Ok p.1) × (asked p.0 ≡ true)

found_here : (asked : Line → Bool) (state : State) (line : Line) (field : Field) (es : List Element) (p : Line × Field) (rest : Option (Line × Field)) (b : Bool)
    → asked line ≡ b → line_at state line es ≡ Ok field → (rest ≡ Some p → IsFound asked es p) → cond b (Some (line, field)) rest ≡ Some p → IsFound asked es p
found_here asked state line field es p rest true is one others found = subst (λ (q : Line × Field). IsFound asked es q) (same_Some (line, field) p found) (state, one, is)
found_here asked state line field es p rest false is one others found = others found

found_line : (asked : Line → Bool) (state : State) (lines : List Line) (es : List Element) (fields : List Field) (p : Line × Field)
    → lines_at state lines es ≡ Ok fields → found_among asked lines fields ≡ Some p → IsFound asked es p
unfolding lines_at
found_line asked state [] es fields p h found = absurd cc
found_line asked state (line ∷ lines) es fields p h found =
    let b = bind_ok (line_at state line es) (λ field. lines_at (after state field) lines es >>= λ others. done RowFault (field ∷ others)) fields h in
    let d = bind_ok (lines_at (after state b.0) lines es) (λ others. done RowFault (b.0 ∷ others)) fields b.2 in
    found_here asked state line b.0 es p (found_among asked lines d.0) (asked line) refl b.1 (λ rest. found_line asked (after state b.0) lines es d.0 p d.1 rest)
    (subst (λ (fs : List Field). found_among asked (line ∷ lines) fs ≡ Some p) (sym (ok_same RowFault (b.0 ∷ d.0) fields d.2)) found)

-- what an option has was made of something
pub made_of : {X Y : Type 0} (f : X → Y) (o : Option X) (y : Y) → option_map f o ≡ Some y → (x : X) × (o ≡ Some x) × (f x ≡ y)
made_of f None y h = absurd cc
made_of f (Some x) y h = (x, refl, same_Some (f x) y h)

pub told_is : {X : Type 0} (r : Result X RowFault) (head : Head) (x : X) → told head r ≡ Ok x → r ≡ Ok x
told_is (Ok y) head x h = cc
told_is (Err f) head x h = absurd cc

pub whole_is : (r : Result (List Element) ℕ) (es : List Element) → whole r ≡ Ok es → list_of r ≡ es
whole_is (Ok xs) es h = cc
whole_is (Err at) es h = absurd cc

-- where a list reads, it is whole
pub list_whole : (has_teid : Bool) (h : Headed) (es : List Element) → list_at has_teid h ≡ Ok es → whole (elements_of h.at h.rest) ≡ Ok es
unfolding list_at
list_whole has_teid h es is = by_flag (beq (is_some h.teid) has_teid) is where
  by_flag : (b : Bool) → cond b (told (head_of h None) (whole (elements_of h.at h.rest))) (Err (faults.FlagT h.kind)) ≡ Ok es → whole (elements_of h.at h.rest) ≡ Ok es
  by_flag true is = told_is (whole (elements_of h.at h.rest)) (head_of h None) es is
  by_flag false is = absurd cc

-- where a typed message reads, its list is whole, and its rows are read of it
pub typed_whole : (has_teid : Bool) (lines : List Line) (h : Headed) (fields : List Field) → typed_at has_teid lines h ≡ Ok fields
    → (es : List Element) × ((whole (elements_of h.at h.rest) ≡ Ok es) × (lines_at start lines es ≡ Ok fields))
unfolding typed_at
typed_whole has_teid lines h fields is =
    let b = bind_ok (list_at has_teid h) (λ es. fields_at lines h es) fields is in
    (b.0, (list_whole has_teid h b.0 b.1, told_is (lines_at start lines b.0) (head_of h (sender_of h.kind b.0)) fields b.2))

pub typed_is : (has_teid : Bool) (lines : List Line) (h : Headed) (fields : List Field) → typed_at has_teid lines h ≡ Ok fields → lines_at start lines (list_of (elements_of h.at h.rest)) ≡ Ok fields
typed_is has_teid lines h fields is =
    let t = typed_whole has_teid lines h fields is in
    rw (whole_is (elements_of h.at h.rest) t.0 t.1.0) t.1.1

abbrev pub content_ok : Content → Result Content V2Fault
content_ok content = Ok content

pub content_is : (r : Result Content V2Fault) (c : Content) → r ≡ Ok c → content_or_none r ≡ c
content_is r c h = ap content_or_none h

-- what a message carries that was viewed is read of its elements
content_by_list : (table : Option Table) (h : Headed) (es : List Element) → forgotten (by_table table h) ≡ Ok tt → Some es ≡ elements_by table h → content_among table h es ≡ by_table table h
content_by_list None h es reads walked = absurd cc
content_by_list (Some table) h es reads walked =
    let r = was_read (by_table (Some table) h) reads in
    let b = bind_ok (typed_at table.has_teid table.lines h) (λ fields. content_ok (Fields fields)) r.0 r.1 in
    let are : es ≡ list_of (elements_of h.at h.rest) = same_Some es (list_of (elements_of h.at h.rest)) walked in
    let read : lines_at start table.lines es ≡ Ok b.0 = rw are (typed_is table.has_teid table.lines h b.0 b.1) in
    ap (λ (o : Result (List Field) RowFault). as_fields (told (head_of h (sender_of h.kind es)) o)) read ∙ sym (ap as_fields b.1)

pub viewed_content : (h : Headed) (elements : Option (List Element)) (es : List Element) → IsViewed h elements → elements ≡ Some es → content_among (table_of h.kind) h es ≡ content_at h
unfolding content_at
viewed_content h elements es inv some = content_by_list (table_of h.kind) h es inv.reads (sym some ∙ inv.walked)

-- the fields of a message with a table are read of these elements
abbrev pub ReadBy : Option Table → Content → List Element → Type 0
ReadBy None content es = Unit {0}
ReadBy (Some table) content es = (fields : List Field) × (content ≡ Fields fields) × (lines_at start table.lines es ≡ Ok fields)

read_by : (table : Option Table) (h : Headed) (elements : Option (List Element)) → forgotten (by_table table h) ≡ Ok tt → elements ≡ elements_by table h
    → ReadBy table (content_or_none (by_table table h)) (list_or_none elements)
read_by None h elements reads walked = tt
read_by (Some table) h elements reads walked =
    let r = was_read (by_table (Some table) h) reads in
    let b = bind_ok (typed_at table.has_teid table.lines h) (λ fields. content_ok (Fields fields)) r.0 r.1 in
    let content : content_or_none (by_table (Some table) h) ≡ Fields b.0 = content_is (by_table (Some table) h) r.0 r.1 ∙ sym (content_is (content_ok (Fields b.0)) r.0 b.2) in
    (b.0, content, subst (λ (es : List Element). lines_at start table.lines es ≡ Ok b.0) (sym (ap list_or_none walked)) (typed_is table.has_teid table.lines h b.0 b.1))

-- so are those of a message that is viewed
abbrev pub IsRead : Viewed → Type 0
IsRead v = ReadBy (table_of v.message.kind) v.message.content v.elements

pub is_read : (h : Headed) (elements : Option (List Element)) (v : Viewed) → viewed h elements ≡ v → IsViewed h elements → IsRead v
unfolding content_at
is_read h elements v view inv = subst IsRead view (read_by (table_of h.kind) h elements inv.reads inv.walked)

-- a line of a message that is viewed is read of its elements
found_read : (asked : Line → Bool) (table : Option Table) (content : Content) (es : List Element) → ReadBy table content es → (p : Line × Field)
    → found_by asked table content ≡ Some p → IsFound asked es p
found_read asked None content es read p found = absurd cc
found_read asked (Some table) content es read p found = found_line asked start table.lines es read.0 p read.2 (subst (λ (c : Content). found_by asked (Some table) c ≡ Some p) read.1 found)

pub found_is : (asked : Line → Bool) (v : Viewed) → IsRead v → (p : Line × Field) → found_by asked (table_of v.message.kind) v.message.content ≡ Some p → IsFound asked v.elements p
found_is asked v read p found = found_read asked (table_of v.message.kind) v.message.content v.elements read p found

row_found : (kind instance : ℕ) (es : List Element) (line : Line) (field : Field) (state : State) → line_at state line es ≡ Ok field
    → is_row kind instance line ≡ true → optional_at kind instance es ≡ front_value (plain_of field)
row_found kind instance es (Single row) field state one same =
    let b = bind_ok (row_at state.accepting row es) (λ vs. done RowFault (Plain vs)) field one in
    let p = both_same (kind_of row) kind (instance_of row) instance same in
    (λ i. optional_at (sym p.0 i) (sym p.1 i) es) ∙ row_is state.accepting row es b.0 b.1 ∙ ap (λ (f : Field). front_value (plain_of f)) (ok_same RowFault (Plain b.0) field b.2)
row_found kind instance es (Grouped row rows) field state one same = absurd cc
row_found kind instance es (Several k i missed) field state one same = absurd cc

-- a field of the message is what the first element says
pub field_is : (kind instance : ℕ) (v : Viewed) → IsRead v → (values : List Value) → in_row kind instance v.message ≡ Some values → optional_at kind instance v.elements ≡ front_value values
field_is kind instance v read values is =
    let q = made_of (λ (p : Line × Field). plain_of p.1) (found_by (is_row kind instance) (table_of v.message.kind) v.message.content) values is in
    let f = found_is (is_row kind instance) v read q.0 q.1 in
    row_found kind instance v.elements q.0.0 q.0.1 f.0 f.1 f.2 ∙ ap front_value q.2

-- where the table has the line, the message has its field
there_among : (asked : Line → Bool) (state : State) (lines : List Line) (es : List Element) (fields : List Field) → lines_at state lines es ≡ Ok fields
    → is_some (line_among asked lines) ≡ true → (p : Line × Field) × (found_among asked lines fields ≡ Some p)
unfolding lines_at
there_among asked state [] es fields h has = absurd cc
there_among asked state (line ∷ lines) es fields h has =
    let b = bind_ok (line_at state line es) (λ field. lines_at (after state field) lines es >>= λ others. done RowFault (field ∷ others)) fields h in
    let d = bind_ok (lines_at (after state b.0) lines es) (λ others. done RowFault (b.0 ∷ others)) fields b.2 in
    subst (λ (fs : List Field). (p : Line × Field) × (found_among asked (line ∷ lines) fs ≡ Some p)) (ok_same RowFault (b.0 ∷ d.0) fields d.2)
    (by_test (asked line) b.0 d.0 has (λ later. there_among asked (after state b.0) lines es d.0 d.1 later))
  where
    by_test : (b : Bool) (field : Field) (others : List Field) → is_some (cond b (Some line) (line_among asked lines)) ≡ true
        → (is_some (line_among asked lines) ≡ true → (p : Line × Field) × (found_among asked lines others ≡ Some p))
        → (p : Line × Field) × (cond b (Some (line, field)) (found_among asked lines others) ≡ Some p)
    by_test true field others has later = ((line, field), refl)
    by_test false field others has later = later has

pub there_by : (asked : Line → Bool) (table : Option Table) (content : Content) (es : List Element) → ReadBy table content es
    → is_some (line_by asked table) ≡ true → (p : Line × Field) × (found_by asked table content ≡ Some p)
there_by asked None content es read has = absurd cc
there_by asked (Some table) content es read has =
    subst (λ (c : Content). (p : Line × Field) × (found_by asked (Some table) c ≡ Some p)) (sym read.1)
    (there_among asked start table.lines es read.0 read.2 has)

-- the value of a row is what its message has in it
pub there_is : (kind instance : ℕ) (v : Viewed) → IsRead v → has_row v.message.kind kind instance ≡ true → optional_at kind instance v.elements ≡ front_value (row_of kind instance v.message)
there_is kind instance v read has =
    let t = there_by (is_row kind instance) (table_of v.message.kind) v.message.content v.elements read has in
    let row : in_row kind instance v.message ≡ Some (plain_of t.0.1) = ap (option_map (λ (p : Line × Field). plain_of p.1)) t.1 in
    field_is kind instance v read (plain_of t.0.1) row ∙ sym (ap (λ (o : Option (List Value)). front_value (unwrap_or o [])) row)

-- ---- rows that always have a value

abbrev HasOne : Option (Line × Field) → Type 0
HasOne found = (v : Value) × (option_map (λ (p : Line × Field). plain_of p.1) found ≡ Some (v ∷ []))

one_value : (conditional : Bool) (kind instance : ℕ) (field : Field) (es : List Element)
    → (needed_at conditional kind instance es >>= λ v. done RowFault (v ∷ [])) >>= (λ vs. done RowFault (Plain vs)) ≡ Ok field
    → (v : Value) × (plain_of field ≡ v ∷ [])
one_value conditional kind instance field es one =
    let b = bind_ok (needed_at conditional kind instance es >>= λ v. done RowFault (v ∷ [])) (λ vs. done RowFault (Plain vs)) field one in
    let c = bind_ok (needed_at conditional kind instance es) (λ v. done RowFault (v ∷ [])) b.0 b.1 in
    (c.0, sym (ap plain_of (ok_same RowFault (Plain b.0) field b.2)) ∙ sym (ok_same RowFault (c.0 ∷ []) b.0 c.2))

needed_line : (state : State) (line : Line) (field : Field) (es : List Element) → line_at state line es ≡ Ok field → is_needed line ≡ true → (v : Value) × (plain_of field ≡ v ∷ [])
needed_line state (Single (Mandatory kind instance)) field es one needed = one_value false kind instance field es one
needed_line state (Single (Conditional kind instance)) field es one needed = one_value true kind instance field es one
needed_line state (Single (Accepted kind instance)) field es one needed = absurd cc
needed_line state (Single (Optional kind instance)) field es one needed = absurd cc
needed_line state (Grouped row rows) field es one needed = absurd cc
needed_line state (Several kind instance missed) field es one needed = absurd cc

needed_here : (state : State) (line : Line) (field : Field) (es : List Element) (rest : Option (Line × Field)) (later is : Bool)
    → line_at state line es ≡ Ok field → cond is (is_needed line) later ≡ true → (later ≡ true → HasOne rest)
    → HasOne (cond is (Some (line, field)) rest)
needed_here state line field es rest later true one needed others = let n = needed_line state line field es one needed in (n.0, ap (λ (vs : List Value). Some vs) n.1)
needed_here state line field es rest later false one needed others = others needed

needed_among : (kind instance : ℕ) (state : State) (lines : List Line) (es : List Element) (fields : List Field) → lines_at state lines es ≡ Ok fields
    → needs_among kind instance lines ≡ true → HasOne (found_among (is_row kind instance) lines fields)
unfolding lines_at
needed_among kind instance state [] es fields h needed = absurd cc
needed_among kind instance state (line ∷ lines) es fields h needed =
    let b = bind_ok (line_at state line es) (λ field. lines_at (after state field) lines es >>= λ others. done RowFault (field ∷ others)) fields h in
    let d = bind_ok (lines_at (after state b.0) lines es) (λ others. done RowFault (b.0 ∷ others)) fields b.2 in
    subst (λ (fs : List Field). HasOne (found_among (is_row kind instance) (line ∷ lines) fs)) (ok_same RowFault (b.0 ∷ d.0) fields d.2)
    (needed_here state line b.0 es (found_among (is_row kind instance) lines d.0) (needs_among kind instance lines) (is_row kind instance line) b.1
    needed (λ later. needed_among kind instance (after state b.0) lines es d.0 d.1 later))

needed_by : (kind instance : ℕ) (table : Option Table) (content : Content) (es : List Element) → ReadBy table content es → needs_by kind instance table ≡ true
    → HasOne (found_by (is_row kind instance) table content)
needed_by kind instance None content es read needed = absurd cc
needed_by kind instance (Some table) content es read needed =
    subst (λ (c : Content). HasOne (found_by (is_row kind instance) (Some table) c)) (sym read.1)
    (needed_among kind instance start table.lines es read.0 read.2 needed)

-- a message that is viewed has the values that its table needs
pub always_is : (kind instance : ℕ) (v : Viewed) → IsRead v → always_has v.message.kind kind instance ≡ true → (x : Value) × (in_row kind instance v.message ≡ Some (x ∷ []))
always_is kind instance v read always = needed_by kind instance (table_of v.message.kind) v.message.content v.elements read always

first_reads : (kind instance : ℕ) (first : Option Element) (x : Value) → welcome kind first ≡ Some x → needed false kind instance first ≡ Ok x
unfolding one_at
first_reads kind instance None x is = absurd cc
first_reads kind instance (Some e) x is = by_outcome (value_at kind e.body) is where
  by_outcome : (r : Result Value ReadFault) → value_or_none r ≡ Some x → named kind instance e.at r ≡ Ok x
  by_outcome (Ok v) is = ap (λ (v : Value). done RowFault v) (same_Some v x is)
  by_outcome (Err f) is = absurd cc

-- the value of a row that a message always has, in the message and in its elements
pub record HasValue (kind instance : ℕ) (v : Viewed) : Type 0 where
  pub value : Value
  pub row : in_row kind instance v.message ≡ Some (value ∷ [])
  pub first : optional_at kind instance v.elements ≡ Some value
  pub reads : needed_at false kind instance v.elements ≡ Ok value

pub value_is : (kind instance : ℕ) (v : Viewed) → IsRead v → always_has v.message.kind kind instance ≡ true → HasValue kind instance v
unfolding optional_at needed_at
value_is kind instance v read always =
    let n = always_is kind instance v read always in
    let first = field_is kind instance v read (n.0 ∷ []) n.1 in
    record { value = n.0; row = n.1; first = first; reads = first_reads kind instance (first_of kind instance v.elements) n.0 first }

-- the value of a first element that reads
pub record HasFirst (kind instance : ℕ) (es : List Element) : Type 0 where
  pub value : Value
  pub first : optional_at kind instance es ≡ Some value
  pub reads : needed_at false kind instance es ≡ Ok value

pub first_is : (kind instance : ℕ) (es : List Element) → is_some (optional_at kind instance es) ≡ true → HasFirst kind instance es
unfolding optional_at needed_at
first_is kind instance es there = by_first (welcome kind (first_of kind instance es)) refl there where
  by_first : (o : Option Value) → welcome kind (first_of kind instance es) ≡ o → is_some o ≡ true → HasFirst kind instance es
  by_first None same there = absurd cc
  by_first (Some x) same there = record { value = x; first = same; reads = first_reads kind instance (first_of kind instance es) x same }

-- where no elements are kept there are none
pub none_is : (kind instance : ℕ) (h : Headed) (elements : Option (List Element)) (m : Viewed) → elements ≡ None → viewed h elements ≡ m → None ≡ optional_at kind instance m.elements
unfolding optional_at
none_is kind instance h elements m none view =
    subst (λ (v : Viewed). None ≡ optional_at kind instance v.elements) view
    (subst (λ (es : Option (List Element)). None ≡ optional_at kind instance (list_or_none es)) (sym none) refl)

pub none_in : (kind instance : ℕ) (elements : Option (List Element)) (es : List Element) → elements ≡ None → list_or_none elements ≡ es → None ≡ optional_at kind instance es
unfolding optional_at
none_in kind instance elements es none view =
    subst (λ (xs : List Element). None ≡ optional_at kind instance xs) view
    (subst (λ (o : Option (List Element)). None ≡ optional_at kind instance (list_or_none o)) (sym none) refl)
