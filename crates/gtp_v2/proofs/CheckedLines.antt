-- Lines that are not checked are at fault nowhere.
use Rattle.std.proofs.Common.{rules, ◌≡◌, ℕ, ◌+◌, map, Bool, true, false, cond, ◌&&◌, List, [], ◌∷◌, Option, Some, None, Result, Ok, Err, refl, sym, ap, subst, ◌∙◌}
use Rattle.std.specs.Prelude.{◌==◌, ◌||◌, not, nat_le, nat_lt, length, option_to_list, option_map}
use Rattle.std.proofs.lemmas.Option.{same_Some}
use Rattle.gtp_values.specs.Apn.{are_labels_from}
use Rattle.gtp_values.specs.Steps.{◌>>=◌}
use Rattle.gtp_values.proofs.Outcomes.{err_same}
use Rattle.gtp_ie.specs.declared.fault.ReadFault.TheVariants.{Short}
use Rattle.gtp_ie.specs.declared.form.Form.{Form}
use Rattle.gtp_ie.specs.declared.form.Form.TheVariants as forms
use Rattle.gtp_ie.specs.Form.{number_of, form_of}
use Rattle.gtp_ie.specs.Element.{Element, elements_of, first_of, all_of}
use Rattle.gtp_ie.specs.Digits.{digits_in, are_imsi_digits, are_network_digits}
use Rattle.gtp_ie.specs.Value.{Value, OfImsi, OfApn, OfPlmn, OfTft, OfFTeid, network_in, fteid_in, has_v4, has_v6, least, only_if, or_bad, said_of, said_by, value_at}
use Rattle.gtp_ie.proofs.FreeKinds.{found_number}
use Rattle.gtp_v2.specs.declared.fault.RowFault.{RowFault}
use Rattle.gtp_v2.specs.declared.fault.V2Fault.{V2Fault}
use Rattle.gtp_v2.specs.declared.fault.Head.{Head}
use Rattle.gtp_v2.specs.declared.fault.Need.{Need}
use Rattle.gtp_v2.specs.Table.{Row, Mandatory, Conditional, Accepted, Optional, Line, Single, Grouped, Several, Plain, Groups, State, start, Table, accepts, is_silent, need_of, kind_of, instance_of}
use Rattle.gtp_v2.specs.Viewed.{value_or_none, welcome, optional_at}
use Rattle.gtp_v2.specs.Grammar.{in_group}
use Rattle.gtp_v2.specs.reading.Rows.{fault_as, inner_at, group_at, each_at, rows_at, lines_at, whole}
use Rattle.gtp_v2.specs.reading.Checked.{forgotten, says, row_says, rows_accept, groups_silent, groups_say, after_groups, line_says, lines_say, merged}
use Rattle.gtp_v2.specs.declared.table.Shape.{Shape}
use Rattle.gtp_v2.specs.reading.Lines.{line_of, is_unchecked, checked_rows, has_list, checked_lines, shape_of, shape_in}
use Rattle.gtp_v2.specs.Tables.{table_of}
use Rattle.gtp_v2.specs.Headed.{Headed}
use Rattle.gtp_v2.specs.Message.{Fields, head_of, with_head}
use Rattle.gtp_v2.specs.reading.Message.{sender_of, told, fields_at, typed_at, list_by, typed_by, by_table, content_at}
use Rattle.gtp_v2.proofs.Checks.{forgotten_as, forget_map, rows_forget, lines_forget}
use Rattle.gtp_v2.proofs.Told.{typed_same}

-- ---- what is no cause accepts

abbrev Accepts : Option Value → Type 0
Accepts o = accepts (option_to_list o) ≡ true

only : (b : Bool) (v : Value) → Accepts (Some v) → Accepts (only_if b v)
only true v h = h
only false v h = refl

form_accepts : (form : Form) (body : List ℕ) → (number_of form == number_of forms.Cause) ≡ false → Accepts (said_of form body)
form_accepts forms.Imsi body other = only (are_imsi_digits (digits_in body)) (OfImsi (digits_in body)) refl
form_accepts forms.Cause body other = absurd cc
form_accepts forms.Recovery body other = refl
form_accepts forms.Apn body other = only (nat_le (length body) 100 && are_labels_from 0 body) (OfApn body) refl
form_accepts forms.Ambr body other = refl
form_accepts forms.Ebi body other = refl
form_accepts forms.Paa body other = refl
form_accepts forms.Qos body other = refl
form_accepts forms.Rat body other = refl
form_accepts forms.Plmn body other = only (are_network_digits (network_in body)) (OfPlmn (network_in body)) refl
form_accepts forms.Tft body other = only (nat_le (length body) 255) (OfTft body) refl
form_accepts forms.FTeid body other = only (has_v4 body || has_v6 body) (OfFTeid (fteid_in body)) refl
form_accepts forms.ChargingId body other = refl
form_accepts forms.PdnType body other = refl
form_accepts forms.Pti body other = refl
form_accepts forms.Selection body other = refl

said_accepts : (kind : ℕ) (body : List ℕ) (o : Option Form) → form_of kind ≡ o → (kind == number_of forms.Cause) ≡ false → Accepts (said_by o body)
said_accepts kind body None is other = refl
said_accepts kind body (Some form) is other = form_accepts form body (subst (λ (k : ℕ). (k == number_of forms.Cause) ≡ false) (found_number kind form is) other)

read_accepts : (short : Bool) (o : Option Value) → Accepts o → Accepts (value_or_none (cond short (Err Short) (or_bad o)))
read_accepts true o h = refl
read_accepts false None h = refl
read_accepts false (Some v) h = h

value_accepts : (kind : ℕ) (body : List ℕ) → (kind == number_of forms.Cause) ≡ false → Accepts (value_or_none (value_at kind body))
unfolding value_at
value_accepts kind body other = read_accepts (nat_lt (length body) (least kind body)) (said_by (form_of kind) body) (said_accepts kind body (form_of kind) refl other)

optional_accepts : (kind instance : ℕ) (es : List Element) → (kind == number_of forms.Cause) ≡ false → Accepts (optional_at kind instance es)
unfolding optional_at
optional_accepts kind instance es other = by_first (first_of kind instance es) where
  by_first : (o : Option Element) → Accepts (welcome kind o)
  by_first None = refl
  by_first (Some e) = value_accepts kind e.body other

is_other : (b : Bool) → not b ≡ true → b ≡ false
is_other true h = absurd cc
is_other false h = refl

and_true : (b : Bool) → (b && true) ≡ b
and_true true = refl
and_true false = refl

-- a row that is not checked reads, and accepts
unchecked_says : (accepting : Bool) (row : Row) (es : List Element) → is_unchecked row ≡ true → (now : State) × ((row_says accepting row es ≡ Ok now) × (now.accepting ≡ true))
unfolding row_says
unchecked_says accepting (Optional kind instance) es free = (says (Plain (option_to_list (optional_at kind instance es))), (refl, optional_accepts kind instance es (is_other _ free)))
unchecked_says accepting (Mandatory kind instance) es free = absurd cc
unchecked_says accepting (Conditional kind instance) es free = absurd cc
unchecked_says accepting (Accepted kind instance) es free = absurd cc

-- ---- rows of a group

-- what rows say after one more
rows_after : (a : Bool) (first now : List Row) (r : Result State RowFault) (es : List Element) → ((b : Bool) → rows_accept b first es ≡ rows_accept b now es)
    → (r >>= λ one. rows_accept (a && one.accepting) first es) ≡ (r >>= λ one. rows_accept (a && one.accepting) now es)
rows_after a first now (Ok one) es same = same (a && one.accepting)
rows_after a first now (Err f) es same = refl

rows_checked : (rows : List Row) (es : List Element) (a : Bool) → rows_accept a (checked_rows rows) es ≡ rows_accept a rows es
unfolding rows_accept
rows_checked [] es a = refl
rows_checked (row ∷ rows) es a = by_free (is_unchecked row) refl (rows_checked rows es) where
  by_free : (b : Bool) → is_unchecked row ≡ b → ((c : Bool) → rows_accept c (checked_rows rows) es ≡ rows_accept c rows es)
      → rows_accept a (cond b (checked_rows rows) (row ∷ checked_rows rows)) es ≡ (row_says a row es >>= λ one. rows_accept (a && one.accepting) rows es)
  by_free true free others =
      let f = unchecked_says a row es free in
      let accepting : a ≡ a && f.0.accepting = sym (and_true a) ∙ ap (λ (b : Bool). a && b) (sym f.1.1) in
      others a ∙ ap (λ (b : Bool). rows_accept b rows es) accepting ∙ ap (λ (r : Result State RowFault). r >>= λ one. rows_accept (a && one.accepting) rows es) (sym f.1.0)
  by_free false needed others = rows_after a (checked_rows rows) rows (row_says a row es) es others

-- ---- groups

inner_checked : (a : Bool) (rows : List Row) (e : Element) → forgotten (inner_at a (checked_rows rows) e) ≡ forgotten (inner_at a rows e)
inner_checked a rows e = by_list (whole (elements_of (e.at + 4) e.body)) where
  by_list : (r : Result (List Element) RowFault) → forgotten (r >>= λ es. rows_at a (checked_rows rows) es) ≡ forgotten (r >>= λ es. rows_at a rows es)
  by_list (Ok es) = rows_forget a (checked_rows rows) es ∙ ap forgotten (rows_checked rows es a) ∙ sym (rows_forget a rows es)
  by_list (Err f) = refl

group_checked : (a : Bool) (rows : List Row) (e : Element) → forgotten (group_at a (checked_rows rows) e) ≡ forgotten (group_at a rows e)
unfolding group_at
group_checked a rows e =
    forgotten_as (in_group e.at) (inner_at a (checked_rows rows) e) ∙ ap (fault_as (in_group e.at)) (inner_checked a rows e) ∙ sym (forgotten_as (in_group e.at) (inner_at a rows e))

-- whether there are none, all of which read
abbrev silent_after : Result (List (List (List Value))) RowFault → Result Bool RowFault
silent_after r = r >>= λ groups. Ok (is_silent (Groups groups))

others_silent : (x y : List (List Value)) (xs ys : Result (List (List (List Value))) RowFault) → silent_after xs ≡ silent_after ys
    → silent_after (xs >>= λ others. Ok (x ∷ others)) ≡ silent_after (ys >>= λ others. Ok (y ∷ others))
others_silent x y (Ok xs) (Ok ys) h = refl
others_silent x y (Ok xs) (Err f) h = absurd cc
others_silent x y (Err f) (Ok ys) h = absurd cc
others_silent x y (Err f) (Err g) h = h

first_silent : (x y : Result (List (List Value)) RowFault) (xs ys : Result (List (List (List Value))) RowFault) → forgotten x ≡ forgotten y → silent_after xs ≡ silent_after ys
    → silent_after (x >>= λ first. xs >>= λ others. Ok (first ∷ others)) ≡ silent_after (y >>= λ first. ys >>= λ others. Ok (first ∷ others))
first_silent (Ok x) (Ok y) xs ys h others = others_silent x y xs ys others
first_silent (Ok x) (Err b) xs ys h others = absurd cc
first_silent (Err a) (Ok y) xs ys h others = absurd cc
first_silent (Err a) (Err b) xs ys h others = ap (λ (c : RowFault). Err c) (err_same (Unit {0}) a b h)

each_silent : (f g : Element → Result (List (List Value)) RowFault) → ((e : Element) → forgotten (f e) ≡ forgotten (g e)) → (es : List Element)
    → silent_after (each_at f es) ≡ silent_after (each_at g es)
unfolding each_at
each_silent f g same [] = refl
each_silent f g same (e ∷ es) = first_silent (f e) (g e) (each_at f es) (each_at g es) (same e) (each_silent f g same es)

groups_checked : (a : Bool) (rows : List Row) (es : List Element) → groups_silent a (checked_rows rows) es ≡ groups_silent a rows es
unfolding groups_silent
groups_checked a rows es = each_silent (group_at a (checked_rows rows)) (group_at a rows) (group_checked a rows) es

say_checked : (need : Need) (kind instance : ℕ) (a : Bool) (rows : List Row) (es : List Element) → groups_say need kind instance a (checked_rows rows) es ≡ groups_say need kind instance a rows es
unfolding groups_say
say_checked need kind instance a rows es = ap (λ (r : Result Bool RowFault). r >>= λ silent. after_groups need kind instance silent) (groups_checked a rows es)

-- ---- lines

abbrev state_of : Bool → Bool → State
state_of a s = record { accepting = a; silent = s }

-- what lines say after one more
said_after : (s t : State) (first now : List Line) (r : Result State RowFault) (es : List Element)
    → ((one : State) → forgotten (lines_say (merged s one) first es) ≡ forgotten (lines_say (merged t one) now es))
    → forgotten (r >>= λ one. lines_say (merged s one) first es) ≡ forgotten (r >>= λ one. lines_say (merged t one) now es)
said_after s t first now (Ok one) es same = same one
said_after s t first now (Err f) es same = refl

-- where no line has several values, it does not matter whether one before has a value
no_silence : (a s t : Bool) (lines : List Line) (es : List Element) → has_list lines ≡ false → forgotten (lines_say (state_of a s) lines es) ≡ forgotten (lines_say (state_of a t) lines es)
unfolding lines_say
no_silence a s t [] es none = refl
no_silence a s t (Several kind instance missed ∷ lines) es none = absurd cc
no_silence a s t (Single row ∷ lines) es none =
    said_after (state_of a s) (state_of a t) lines lines (row_says a row es) es (λ one. no_silence (a && one.accepting) (s && one.silent) (t && one.silent) lines es none)
no_silence a s t (Grouped row rows ∷ lines) es none =
    said_after (state_of a s) (state_of a t) lines lines (groups_say (need_of a row) (kind_of row) (instance_of row) a rows (all_of (kind_of row) (instance_of row) es)) es
    (λ one. no_silence (a && one.accepting) (s && one.silent) (t && one.silent) lines es none)

both_true : (a b : Bool) → (a && b) ≡ true → (a ≡ true) × (b ≡ true)
both_true a b h = search rules

lines_checked : (lines : List Line) (es : List Element) (state : State) → forgotten (lines_say state (checked_lines lines) es) ≡ forgotten (lines_say state lines es)
unfolding lines_say
lines_checked [] es state = refl
lines_checked (Several kind instance missed ∷ lines) es state =
    said_after state state (checked_lines lines) lines (line_says state (Several kind instance missed) es) es (λ one. lines_checked lines es (merged state one))
lines_checked (Grouped row rows ∷ lines) es state =
    let of = all_of (kind_of row) (instance_of row) es in
    ap (λ (r : Result State RowFault). forgotten (r >>= λ one. lines_say (merged state one) (checked_lines lines) es))
    (say_checked (need_of state.accepting row) (kind_of row) (instance_of row) state.accepting rows of)
    ∙ said_after state state (checked_lines lines) lines (line_says state (Grouped row rows) es) es (λ one. lines_checked lines es (merged state one))
lines_checked (Single row ∷ lines) es state = by_free (is_unchecked row && not (has_list lines)) refl (lines_checked lines es) where
  by_free : (b : Bool) → (is_unchecked row && not (has_list lines)) ≡ b → ((s : State) → forgotten (lines_say s (checked_lines lines) es) ≡ forgotten (lines_say s lines es))
      → forgotten (lines_say state (cond b (checked_lines lines) (Single row ∷ checked_lines lines)) es) ≡ forgotten (row_says state.accepting row es >>= λ one. lines_say (merged state one) lines es)
  by_free true free others =
      let p = both_true (is_unchecked row) (not (has_list lines)) free in
      let f = unchecked_says state.accepting row es p.0 in
      let accepting : state.accepting ≡ state.accepting && f.0.accepting = sym (and_true state.accepting) ∙ ap (λ (b : Bool). state.accepting && b) (sym f.1.1) in
      others state ∙ no_silence state.accepting state.silent (state.silent && f.0.silent) lines es (is_other (has_list lines) p.1)
      ∙ ap (λ (a : Bool). forgotten (lines_say (state_of a (state.silent && f.0.silent)) lines es)) accepting
      ∙ ap (λ (r : Result State RowFault). forgotten (r >>= λ one. lines_say (merged state one) lines es)) (sym f.1.0)
  by_free false needed others = said_after state state (checked_lines lines) lines (row_says state.accepting row es) es (λ one. others (merged state one))

-- ---- messages

told_checked : {X Y : Type 0} (head : Head) (r : Result X RowFault) (q : Result Y RowFault) → forgotten r ≡ forgotten q → forgotten (told head r) ≡ forgotten (told head q)
told_checked head (Ok x) (Ok y) h = refl
told_checked head (Ok x) (Err g) h = absurd cc
told_checked head (Err f) (Ok y) h = absurd cc
told_checked head (Err f) (Err g) h = ap (λ (c : RowFault). Err (with_head head c)) (err_same (Unit {0}) f g h)

pub typed_checked : (form : Option Bool) (lines : List Line) (h : Headed) → forgotten (typed_by form (checked_lines lines) h) ≡ forgotten (typed_by form lines h)
unfolding typed_by
typed_checked form lines h = by_list (list_by form h) where
  by_list : (r : Result (List Element) V2Fault) → forgotten (r >>= λ es. fields_at (checked_lines lines) h es) ≡ forgotten (r >>= λ es. fields_at lines h es)
  by_list (Ok es) =
      told_checked (head_of h (sender_of h.kind es)) (lines_at start (checked_lines lines) es) (lines_at start lines es)
      (lines_forget start (checked_lines lines) es ∙ lines_checked lines es start ∙ sym (lines_forget start lines es))
  by_list (Err f) = refl

-- what a message carries reads where what the program checks of it does
pub content_checked : (h : Headed) (asked : Shape) → Some (shape_of asked) ≡ option_map shape_in (table_of h.kind)
    → forgotten (typed_by (Some asked.has_teid) (map line_of asked.lines.now) h) ≡ forgotten (content_at h)
unfolding content_at
content_checked h asked is = by_table_of (table_of h.kind) is where
  by_table_of : (o : Option Table) → Some (shape_of asked) ≡ option_map shape_in o
      → forgotten (typed_by (Some asked.has_teid) (map line_of asked.lines.now) h) ≡ forgotten (by_table o h)
  by_table_of None is = absurd cc
  by_table_of (Some t) is =
      ap (λ (p : Bool × List Line). forgotten (typed_by (Some p.0) p.1 h)) (same_Some (shape_of asked) (shape_in t) is) ∙ typed_checked (Some t.has_teid) t.lines h
      ∙ ap forgotten (sym (typed_same t.has_teid t.lines h)) ∙ sym (forget_map (typed_at t.has_teid t.lines h) (λ fields. Fields fields))
