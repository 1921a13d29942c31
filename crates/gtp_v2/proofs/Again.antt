-- What was written is read again.
use Rattle.std.proofs.Common.{map, ◌+◌, ◌≡◌, ℕ, ◌<◌, Bool, true, false, ◌&&◌, List, [], ◌∷◌, ◌++◌, Ok, refl, sym, ap, subst, ◌∙◌}
use Rattle.std.specs.Prelude.{not, ◌==◌}
use Rattle.std.specs.List.{AllByRecursion, flat_map}
use Rattle.std.proofs.lemmas.List.{append-nil}
use Rattle.std.proofs.lemmas.Grind.{flat_map-append}
use Rattle.gtp_ie.specs.Text.{element_encoding}
use Rattle.gtp_ie.specs.Octets.{AreElements}
use Rattle.gtp_ie.specs.Element.{Element, elements_of, all_of}
use Rattle.gtp_ie.specs.Value.{Value, encoding_of}
use Rattle.gtp_ie.specs.Spelling.{Spells}
use Rattle.gtp_ie.proofs.Placed.{placed, IsPlain, element_octets, spans_placed, bodies, bodies-placed, first_from_bodies, none_from_bodies, HaveBodies, all_from_bodies}
use Rattle.gtp_values.proofs.Tests.{both}
use Rattle.gtp_ie.proofs.Slots.{Slot, element_with, slot_elements, slots_elements, is_fresh, are_distinct, IsFound, all_found}
use Rattle.gtp_v2.specs.Table.{Row, Mandatory, Conditional, Accepted, Optional, Line, Single, Grouped, Several, Field, Plain, Groups, State, start, accepts, after, kind_of, instance_of}
use Rattle.gtp_v2.specs.reading.Rows.{whole, lines_at}
use Rattle.gtp_v2.specs.Grammar.{Says, One, AtMostOne, RowIs, RowsAre, GroupIs, EachIs, GroupsAre, OneIs, LineIs, LinesAre}
use Rattle.gtp_v2.proofs.Decided.{whole_decided, lines_decided}
use Rattle.gtp_values.proofs.Decided.{bind_at}
use Rattle.gtp_values.specs.Steps.{◌>>=◌}
use Rattle.gtp_v2.specs.Apart.{is_free, are_apart, row_of, lines_apart}
use Rattle.gtp_v2.proofs.Meets.{IsOf, Alone, AtMostAlone, RowMeets, RowsMeet, GroupMeets, LineMeets, LinesMeet}
use Rattle.gtp_v2.specs.Text.{value_encoding, rows_encoding, groups_encoding, several_encoding, line_encoding, lines_encoding}

-- the body of a row's value, where it has one
abbrev pub texts_of : List Value → List (List ℕ)
texts_of [] = []
texts_of (v ∷ values) = encoding_of v ∷ []

abbrev pub row_slot : Row → List Value → Slot
row_slot row values = record { kind = kind_of row; instance = instance_of row; texts = texts_of values }

abbrev pub rows_slots : List Row → List (List Value) → List Slot
rows_slots (row ∷ rows) (values ∷ others) = row_slot row values ∷ rows_slots rows others
rows_slots rows all = []

says_again : (kind instance : ℕ) (es : List Element) (v : Value) → IsOf kind v → bodies kind instance es ≡ encoding_of v ∷ [] → Says kind instance es v
says_again kind instance es v is h =
    let found = first_from_bodies kind instance es (encoding_of v) [] h in
    (found.element, found.first, subst (λ (body : List ℕ). Spells kind body v) (sym found.same) is.again)

one_again : (kind instance : ℕ) (es : List Element) (values : List Value) → Alone kind values → bodies kind instance es ≡ texts_of values → One kind instance es values
one_again kind instance es [] m h = absurd m
one_again kind instance es (v ∷ []) m h = (v, says_again kind instance es v m h, refl)
one_again kind instance es (v ∷ w ∷ values) m h = absurd m

free_again : (kind instance : ℕ) (es : List Element) (values : List Value) → AtMostAlone kind values → bodies kind instance es ≡ texts_of values → AtMostOne kind instance es values
free_again kind instance es [] m h = let none = none_from_bodies kind instance es h in λ v s. cc
free_again kind instance es (v ∷ []) m h = says_again kind instance es v m h
free_again kind instance es (v ∷ w ∷ values) m h = absurd m

pub row_again : (accepting : Bool) (row : Row) (es : List Element) (values : List Value) → RowMeets accepting row values → IsFound es (row_slot row values) → RowIs accepting row es values
row_again accepting (Mandatory kind instance) es values m h = one_again kind instance es values m h
row_again accepting (Conditional kind instance) es values m h = one_again kind instance es values m h
row_again true (Accepted kind instance) es values m h = one_again kind instance es values m h
row_again false (Accepted kind instance) es values m h = free_again kind instance es values m h
row_again accepting (Optional kind instance) es values m h = free_again kind instance es values m h

pub rows_again : (accepting : Bool) (rows : List Row) (es : List Element) (all : List (List Value)) → RowsMeet accepting rows all
    → AllByRecursion (IsFound es) (rows_slots rows all) → RowsAre accepting rows es all
rows_again accepting [] es all m f = m
rows_again accepting (row ∷ rows) es [] m f = absurd m
rows_again accepting (row ∷ rows) es (values ∷ others) m f = (row_again accepting row es values m.0 f.0, rows_again (accepting && accepts values) rows es others m.2 f.1)

-- ---- the octets of rows

slot_octets : (row : Row) (values : List Value) → value_encoding (kind_of row) (instance_of row) values ≡ flat_map element_octets (slot_elements (row_slot row values))
unfolding value_encoding
slot_octets row [] = refl
slot_octets row (v ∷ values) = sym (append-nil (element_encoding (kind_of row) (instance_of row) (encoding_of v)))

pub rows_octets : (rows : List Row) (all : List (List Value)) → rows_encoding rows all ≡ flat_map element_octets (slots_elements (rows_slots rows all))
rows_octets [] [] = refl
rows_octets [] (values ∷ others) = refl
rows_octets (row ∷ rows) [] = refl
rows_octets (row ∷ rows) (values ∷ others) =
    ap (λ (xs : List ℕ). xs ++ rows_encoding rows others) (slot_octets row values) ∙
    (ap (λ (xs : List ℕ). flat_map element_octets (slot_elements (row_slot row values)) ++ xs) (rows_octets rows others)
    ∙ sym (flat_map-append element_octets (slot_elements (row_slot row values)) (slots_elements (rows_slots rows others))))

all_append : {X : Type 0} (P : X → Type 0) (xs ys : List X) → AllByRecursion P xs → AllByRecursion P ys → AllByRecursion P (xs ++ ys)
all_append P [] ys p q = q
all_append P (x ∷ xs) ys p q = (p.0, all_append P xs ys p.1 q)

alone_plain : (kind instance : ℕ) (values : List Value) → AtMostAlone kind values → instance < 16 → AllByRecursion IsPlain (map (element_with kind instance) (texts_of values))
alone_plain kind instance [] m lt = tt
alone_plain kind instance (v ∷ []) m lt = (record { spare = refl; instance = lt; body = m.short }, tt)
alone_plain kind instance (v ∷ w ∷ values) m lt = absurd m

at_most : (kind : ℕ) (values : List Value) → Alone kind values → AtMostAlone kind values
at_most kind [] m = absurd m
at_most kind (v ∷ values) m = m

row_at_most : (accepting : Bool) (row : Row) (values : List Value) → RowMeets accepting row values → AtMostAlone (kind_of row) values
row_at_most accepting (Mandatory kind instance) values m = at_most kind values m
row_at_most accepting (Conditional kind instance) values m = at_most kind values m
row_at_most true (Accepted kind instance) values m = at_most kind values m
row_at_most false (Accepted kind instance) values m = m
row_at_most accepting (Optional kind instance) values m = m

rows_plain : (accepting : Bool) (rows : List Row) (all : List (List Value)) → RowsMeet accepting rows all → AllByRecursion IsPlain (slots_elements (rows_slots rows all))
rows_plain accepting [] [] m = tt
rows_plain accepting [] (values ∷ others) m = tt
rows_plain accepting (row ∷ rows) [] m = tt
rows_plain accepting (row ∷ rows) (values ∷ others) m =
    all_append IsPlain (slot_elements (row_slot row values)) (slots_elements (rows_slots rows others))
    (alone_plain (kind_of row) (instance_of row) values (row_at_most accepting row values m.0) m.1)
    (rows_plain (accepting && accepts values) rows others m.2)

-- ---- distinct rows have distinct slots

free_fresh : (kind instance : ℕ) (rows : List Row) (all : List (List Value)) → is_free kind instance rows ≡ true → is_fresh kind instance (rows_slots rows all) ≡ true
free_fresh kind instance [] [] h = refl
free_fresh kind instance [] (values ∷ others) h = refl
free_fresh kind instance (row ∷ rows) [] h = refl
free_fresh kind instance (row ∷ rows) (values ∷ others) h =
    let b = both (not ((kind_of row == kind) && (instance_of row == instance))) (is_free kind instance rows) h in
    rw (b.left, free_fresh kind instance rows others b.right) refl

pub apart_distinct : (rows : List Row) (all : List (List Value)) → are_apart rows ≡ true → are_distinct (rows_slots rows all) ≡ true
apart_distinct [] [] h = refl
apart_distinct [] (values ∷ others) h = refl
apart_distinct (row ∷ rows) [] h = refl
apart_distinct (row ∷ rows) (values ∷ others) h =
    let b = both (is_free (kind_of row) (instance_of row) rows) (are_apart rows) h in
    rw (free_fresh (kind_of row) (instance_of row) rows others b.left, apart_distinct rows others b.right) refl

-- ---- groups

found_placed : (at : ℕ) (es : List Element) (slots : List Slot) → AllByRecursion (IsFound es) slots → AllByRecursion (IsFound (placed at es)) slots
found_placed at es [] f = tt
found_placed at es (s ∷ slots) f = (bodies-placed s.kind s.instance at es ∙ f.0, found_placed at es slots f.1)

group_again : (accepting : Bool) (rows : List Row) (e : Element) (all : List (List Value)) → are_apart rows ≡ true → GroupMeets accepting rows all
    → e.body ≡ rows_encoding rows all → GroupIs accepting rows e all
group_again accepting rows e all apart m h =
    let slots : List Slot = rows_slots rows all in
    let es : List Element = slots_elements slots in (
      placed (e.at + 4) es,
      subst (λ (xs : List ℕ). AreElements (e.at + 4) xs (placed (e.at + 4) es)) (sym (h ∙ rows_octets rows all)) (spans_placed (e.at + 4) es (rows_plain accepting rows all m.rows_meet)),
      rows_again accepting rows (placed (e.at + 4) es) all m.rows_meet (found_placed (e.at + 4) es slots (all_found slots (apart_distinct rows all apart))),
    )

groups_again : (accepting : Bool) (rows : List Row) (es : List Element) (groups : List (List (List Value))) → are_apart rows ≡ true
    → AllByRecursion (GroupMeets accepting rows) groups → HaveBodies es (map (rows_encoding rows) groups) → GroupsAre accepting rows es groups
groups_again accepting rows [] [] apart m h = refl
groups_again accepting rows [] (g ∷ gs) apart m h = absurd cc
groups_again accepting rows (e ∷ es) [] apart m h = absurd h
groups_again accepting rows (e ∷ es) (g ∷ gs) apart m h = (group_again accepting rows e g apart m.0 h.0, groups_again accepting rows es gs apart m.1 h.1)

-- ---- lines

abbrev pub line_texts : Line → Field → List (List ℕ)
line_texts (Single row) (Plain values) = texts_of values
line_texts (Grouped row rows) (Groups groups) = map (rows_encoding rows) groups
line_texts (Several kind instance missed) (Plain values) = map encoding_of values
line_texts line field = []

abbrev pub line_slot : Line → Field → Slot
line_slot line field = record { kind = kind_of (row_of line); instance = instance_of (row_of line); texts = line_texts line field }

abbrev pub lines_slots : List Line → List Field → List Slot
lines_slots (line ∷ lines) (field ∷ fields) = line_slot line field ∷ lines_slots lines fields
lines_slots lines fields = []

groups_octets : (kind instance : ℕ) (rows : List Row) (groups : List (List (List Value)))
    → groups_encoding kind instance rows groups ≡ flat_map element_octets (map (element_with kind instance) (map (rows_encoding rows) groups))
unfolding groups_encoding
groups_octets kind instance rows [] = refl
groups_octets kind instance rows (g ∷ gs) = ap (λ (xs : List ℕ). element_encoding kind instance (rows_encoding rows g) ++ xs) (groups_octets kind instance rows gs)

several_octets : (kind instance : ℕ) (values : List Value) → several_encoding kind instance values ≡ flat_map element_octets (map (element_with kind instance) (map encoding_of values))
unfolding several_encoding
several_octets kind instance [] = refl
several_octets kind instance (v ∷ vs) = ap (λ (xs : List ℕ). element_encoding kind instance (encoding_of v) ++ xs) (several_octets kind instance vs)

line_octets : (line : Line) (field : Field) → line_encoding line field ≡ flat_map element_octets (slot_elements (line_slot line field))
line_octets (Single row) (Plain values) = slot_octets row values
line_octets (Single row) (Groups groups) = refl
line_octets (Grouped row rows) (Plain values) = refl
line_octets (Grouped row rows) (Groups groups) = groups_octets (kind_of row) (instance_of row) rows groups
line_octets (Several kind instance missed) (Plain values) = several_octets kind instance values
line_octets (Several kind instance missed) (Groups groups) = refl

pub lines_octets : (lines : List Line) (fields : List Field) → lines_encoding lines fields ≡ flat_map element_octets (slots_elements (lines_slots lines fields))
lines_octets [] [] = refl
lines_octets [] (field ∷ fields) = refl
lines_octets (line ∷ lines) [] = refl
lines_octets (line ∷ lines) (field ∷ fields) =
    ap (λ (xs : List ℕ). xs ++ lines_encoding lines fields) (line_octets line field) ∙
    (ap (λ (xs : List ℕ). flat_map element_octets (slot_elements (line_slot line field)) ++ xs) (lines_octets lines fields)
    ∙ sym (flat_map-append element_octets (slot_elements (line_slot line field)) (slots_elements (lines_slots lines fields))))

groups_plain : (kind instance : ℕ) (accepting : Bool) (rows : List Row) (groups : List (List (List Value))) → AllByRecursion (GroupMeets accepting rows) groups
    → instance < 16 → AllByRecursion IsPlain (map (element_with kind instance) (map (rows_encoding rows) groups))
groups_plain kind instance accepting rows [] m lt = tt
groups_plain kind instance accepting rows (g ∷ gs) m lt = (record { spare = refl; instance = lt; body = m.0.short }, groups_plain kind instance accepting rows gs m.1 lt)

values_plain : (kind instance : ℕ) (values : List Value) → AllByRecursion (IsOf kind) values → instance < 16 → AllByRecursion IsPlain (map (element_with kind instance) (map encoding_of values))
values_plain kind instance [] m lt = tt
values_plain kind instance (v ∷ vs) m lt = (record { spare = refl; instance = lt; body = m.0.short }, values_plain kind instance vs m.1 lt)

line_plain : (state : State) (line : Line) (field : Field) → LineMeets state line field → AllByRecursion IsPlain (slot_elements (line_slot line field))
line_plain state (Single row) (Plain values) m = alone_plain (kind_of row) (instance_of row) values (row_at_most state.accepting row values m.0) m.1
line_plain state (Single row) (Groups groups) m = absurd m
line_plain state (Grouped row rows) (Plain values) m = absurd m
line_plain state (Grouped row rows) (Groups groups) m = groups_plain (kind_of row) (instance_of row) state.accepting rows groups m.0 m.2
line_plain state (Several kind instance missed) (Plain values) m = values_plain kind instance values m.0 m.2
line_plain state (Several kind instance missed) (Groups groups) m = absurd m

lines_plain : (state : State) (lines : List Line) (fields : List Field) → LinesMeet state lines fields → AllByRecursion IsPlain (slots_elements (lines_slots lines fields))
lines_plain state [] [] m = tt
lines_plain state [] (field ∷ fields) m = tt
lines_plain state (line ∷ lines) [] m = absurd m
lines_plain state (line ∷ lines) (field ∷ fields) m =
    all_append IsPlain (slot_elements (line_slot line field)) (slots_elements (lines_slots lines fields)) (line_plain state line field m.0) (lines_plain (after state field) lines fields m.1)

free_lines : (kind instance : ℕ) (lines : List Line) (fields : List Field) → is_free kind instance (map row_of lines) ≡ true → is_fresh kind instance (lines_slots lines fields) ≡ true
free_lines kind instance [] [] h = refl
free_lines kind instance [] (field ∷ fields) h = refl
free_lines kind instance (line ∷ lines) [] h = refl
free_lines kind instance (line ∷ lines) (field ∷ fields) h =
    let b = both (not ((kind_of (row_of line) == kind) && (instance_of (row_of line) == instance))) (is_free kind instance (map row_of lines)) h in
    rw (b.left, free_lines kind instance lines fields b.right) refl

lines_distinct : (lines : List Line) (fields : List Field) → lines_apart lines ≡ true → are_distinct (lines_slots lines fields) ≡ true
lines_distinct [] [] h = refl
lines_distinct [] (field ∷ fields) h = refl
lines_distinct (line ∷ lines) [] h = refl
lines_distinct (line ∷ lines) (field ∷ fields) h =
    let b = both (is_free (kind_of (row_of line)) (instance_of (row_of line)) (map row_of lines)) (lines_apart lines) h in
    rw (free_lines (kind_of (row_of line)) (instance_of (row_of line)) lines fields b.left, lines_distinct lines fields b.right) refl

values_again : (kind : ℕ) (es : List Element) (values : List Value) → AllByRecursion (IsOf kind) values → HaveBodies es (map encoding_of values) → EachIs (OneIs kind) es values
values_again kind [] [] m h = refl
values_again kind [] (v ∷ vs) m h = absurd cc
values_again kind (e ∷ es) [] m h = absurd h
values_again kind (e ∷ es) (v ∷ vs) m h = (subst (λ (body : List ℕ). Spells kind body v) (sym h.0) m.0.again, values_again kind es vs m.1 h.1)

line_again : (state : State) (line : Line) (es : List Element) (field : Field) → LineMeets state line field → IsFound es (line_slot line field) → LineIs state line es field
line_again state (Single row) es (Plain values) m f = (values, row_again state.accepting row es values m.0 f, refl)
line_again state (Single row) es (Groups groups) m f = absurd m
line_again state (Grouped row rows) es (Plain values) m f = absurd m
line_again state (Grouped row rows) es (Groups groups) m f =
    let have : HaveBodies (all_of (kind_of row) (instance_of row) es) (map (rows_encoding rows) groups) =
    subst (HaveBodies (all_of (kind_of row) (instance_of row) es)) f (all_from_bodies (kind_of row) (instance_of row) es) in
    (groups, (groups_again state.accepting rows (all_of (kind_of row) (instance_of row) es) groups m.3 m.0 have, m.1), refl)
line_again state (Several kind instance missed) es (Plain values) m f =
    let have : HaveBodies (all_of kind instance es) (map encoding_of values) = subst (HaveBodies (all_of kind instance es)) f (all_from_bodies kind instance es) in
    (values, (values_again kind (all_of kind instance es) values m.0 have, m.1), refl)
line_again state (Several kind instance missed) es (Groups groups) m f = absurd m

lines_again : (state : State) (lines : List Line) (es : List Element) (fields : List Field) → LinesMeet state lines fields
    → AllByRecursion (IsFound es) (lines_slots lines fields) → LinesAre state lines es fields
lines_again state [] es fields m f = m
lines_again state (line ∷ lines) es [] m f = absurd m
lines_again state (line ∷ lines) es (field ∷ fields) m f = (line_again state line es field m.0 f.0, lines_again (after state field) lines es fields m.1 f.1)

-- fields that meet their table are read from their text
pub fields_again : (at : ℕ) (lines : List Line) (fields : List Field) → lines_apart lines ≡ true → LinesMeet start lines fields
    → (whole (elements_of at (lines_encoding lines fields)) >>= λ es. lines_at start lines es) ≡ Ok fields
fields_again at lines fields apart m =
    let slots : List Slot = lines_slots lines fields in
    let es : List Element = placed at (slots_elements slots) in
    let spans : AreElements at (lines_encoding lines fields) es =
    subst (λ (xs : List ℕ). AreElements at xs es) (sym (lines_octets lines fields))
    (spans_placed at (slots_elements slots) (lines_plain start lines fields m)) in
    let are : LinesAre start lines es fields = lines_again start lines es fields m (found_placed at (slots_elements slots) slots (all_found slots (lines_distinct lines fields apart))) in
    bind_at (whole (elements_of at (lines_encoding lines fields))) (λ es. lines_at start lines es) es
    ((whole_decided at (lines_encoding lines fields)).is es spans) ∙ (lines_decided start lines es).is fields are
