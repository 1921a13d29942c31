-- Checking one thing after the other, as a loop does.
use Rattle.std.specs.Prelude.{◌==◌, if◌then◌else◌, IsOk}
use Rattle.std.proofs.Common.{rules, ◌≡◌, ℕ, ◌+◌, ◌<◌, ◌≤◌, Bool, true, false, ◌&&◌, List, [], ◌∷◌, ◌++◌, map, length, get_or, drop, Option, Some, None, Result, Ok, Err, refl, sym, ap, ◌∙◌}
use Rattle.std.proofs.lemmas.List.{at_drop_more, at_drop_all}
use Rattle.gtp_values.specs.Steps.{◌>>=◌}
use Rattle.gtp_ie.specs.Element.{Element, first_of, all_of}
use Rattle.gtp_ie.specs.View.{element_of}
use Rattle.gtp_ie.specs.declared.view.ElementView.{ElementView}
use Rattle.gtp_ie.specs.Value.{Value, value_at}
use Rattle.gtp_ie.specs.declared.fault.ReadFault.{ReadFault}
use Rattle.gtp_ie.specs.declared.fault.ReadFault.TheVariants.{Short, Bad}
use Rattle.gtp_values.proofs.Decided.{bind_at, bind_at_err, bind_ok}
use Rattle.gtp_values.proofs.Outcomes.{ok_same}
use Rattle.gtp_v2.specs.declared.fault.RowFault.{RowFault}
use Rattle.gtp_v2.specs.declared.fault.Need.{Need}
use Rattle.gtp_v2.specs.declared.fault.Need.TheVariants as needs
use Rattle.gtp_v2.specs.Table.{Row, Line, Single, Grouped, Several, Plain, Groups, Mandatory, State, after, accepts, need_of, kind_of, instance_of, is_silent}
use Rattle.gtp_v2.specs.declared.table.Line.{Line as Kept}
use Rattle.gtp_v2.specs.declared.table.Line.TheVariants as kept
use Rattle.gtp_v2.specs.reading.Lines.{line_of}
use Rattle.gtp_v2.specs.Grammar.{in_group}
use Rattle.gtp_v2.specs.reading.Rows.{fault_as, row_at, rows_at, inner_at, group_at, groups_at, each_at, line_at, lines_at, some_groups, several_at}
use Rattle.gtp_v2.specs.reading.Rows.{values_at, one_at, named, needed, needed_at, no_group, no_value}
use Rattle.gtp_v2.specs.reading.Checked.{row_says, rows_accept, forgotten, inner_passes, group_passes, one_accepts, says, with_one, after_groups}
use Rattle.gtp_v2.specs.reading.Checked.{after_values, line_says, lines_say, merged, groups_silent, groups_say, values_say, several_say}
use Rattle.gtp_v2.proofs.Loop.{with_front, goes_on, ends, is_done, nothing_before}

-- ---- rows

pub rows_on : (a b : Bool) (now : State) (rows : List Row) (i : ℕ) (d : Row) (es : List Element) → i < length rows → row_says a (get_or rows i d) es ≡ Ok now
    → b ≡ a && now.accepting → rows_accept a (drop i rows) es ≡ rows_accept b (drop (i + 1) rows) es
unfolding rows_accept
rows_on a b now rows i d es lt h is =
    at_drop_more (λ rs. rows_accept a rs es) rows i d lt
    ∙ bind_at (row_says a (get_or rows i d) es) (λ (s : State). rows_accept (a && s.accepting) (drop (i + 1) rows) es) now h
    ∙ ap (λ c. rows_accept c (drop (i + 1) rows) es) (sym is)

pub rows_stop : (a : Bool) (rows : List Row) (i : ℕ) (d : Row) (es : List Element) (f : RowFault) → i < length rows → row_says a (get_or rows i d) es ≡ Err f → rows_accept a (drop i rows) es ≡ Err f
unfolding rows_accept
rows_stop a rows i d es f lt h =
    at_drop_more (λ rs. rows_accept a rs es) rows i d lt ∙ bind_at_err (row_says a (get_or rows i d) es) (λ (s : State). rows_accept (a && s.accepting) (drop (i + 1) rows) es) f h

pub rows_end : (a : Bool) (rows : List Row) (i : ℕ) (es : List Element) → length rows ≤ i → rows_accept a (drop i rows) es ≡ Ok a
unfolding rows_accept
rows_end a rows i es le = at_drop_all (λ rs. rows_accept a rs es) rows i le

-- what is forgotten of steps
forget_bind : {X Y Z E : Type 0} (r : Result X E) (k : X → Result Y E) (g : X → Result Z E) → ((x : X) → forgotten (k x) ≡ forgotten (g x)) → forgotten (r >>= k) ≡ forgotten (r >>= g)
forget_bind (Ok x) k g same = same x
forget_bind (Err e) k g same = refl

pub forget_map : {X Y E : Type 0} (r : Result X E) (g : X → Y) → forgotten (r >>= λ x. Ok (g x)) ≡ forgotten r
forget_map (Ok x) g = refl
forget_map (Err e) g = refl

bind_bind : {X Y Z E : Type 0} (r : Result X E) (g : X → Y) (k : Y → Result Z E) → ((r >>= λ x. Ok (g x)) >>= k) ≡ (r >>= λ x. k (g x))
bind_bind (Ok x) g k = refl
bind_bind (Err e) g k = refl

pub rows_forget : (a : Bool) (rows : List Row) (es : List Element) → forgotten (rows_at a rows es) ≡ forgotten (rows_accept a rows es)
unfolding rows_accept rows_at row_says
rows_forget a [] es = refl
rows_forget a (row ∷ rows) es =
    forget_bind (row_at a row es) (λ values. rows_at (a && accepts values) rows es >>= λ others. Ok (values ∷ others)) (λ values. rows_accept (a && accepts values) rows es)
    (λ values. forget_map (rows_at (a && accepts values) rows es) (λ others. values ∷ others) ∙ rows_forget (a && accepts values) rows es)
    ∙ ap forgotten (sym (bind_bind (row_at a row es) (λ values. says (Plain values)) (λ s. rows_accept (a && s.accepting) rows es)))

-- ---- lines

abbrev pub no_line : Kept
no_line = kept.Single (Mandatory 0 0)

pub lines_on : (state now : State) (lines : List Kept) (i : ℕ) (d : Kept) (es : List Element) → i < length lines
    → line_says state (line_of (get_or lines i d)) es ≡ Ok now
    → lines_say state (map line_of (drop i lines)) es ≡ lines_say (merged state now) (map line_of (drop (i + 1) lines)) es
unfolding lines_say
lines_on state now lines i d es lt h =
    at_drop_more (λ ls. lines_say state (map line_of ls) es) lines i d lt
    ∙ bind_at (line_says state (line_of (get_or lines i d)) es) (λ s. lines_say (merged state s) (map line_of (drop (i + 1) lines)) es) now h

pub lines_stop : (state : State) (lines : List Kept) (i : ℕ) (d : Kept) (es : List Element) (f : RowFault) → i < length lines
    → line_says state (line_of (get_or lines i d)) es ≡ Err f → lines_say state (map line_of (drop i lines)) es ≡ Err f
unfolding lines_say
lines_stop state lines i d es f lt h =
    at_drop_more (λ ls. lines_say state (map line_of ls) es) lines i d lt
    ∙ bind_at_err (line_says state (line_of (get_or lines i d)) es) (λ s. lines_say (merged state s) (map line_of (drop (i + 1) lines)) es) f h

pub lines_end : (state : State) (lines : List Kept) (i : ℕ) (es : List Element) → length lines ≤ i → lines_say state (map line_of (drop i lines)) es ≡ Ok state
unfolding lines_say
lines_end state lines i es le = at_drop_all (λ ls. lines_say state (map line_of ls) es) lines i le

map_map : {X Y Z E : Type 0} (r : Result X E) (g : X → Y) (k : Y → Z) → (r >>= λ x. Ok (k (g x))) ≡ ((r >>= λ x. Ok (g x)) >>= λ y. Ok (k y))
map_map (Ok x) g k = refl
map_map (Err e) g k = refl

groups_said : (need : Need) (kind instance : ℕ) (r : Result (List (List (List Value))) RowFault)
    → ((r >>= λ groups. Ok (is_silent (Groups groups))) >>= λ silent. after_groups need kind instance silent)
    ≡ ((r >>= λ groups. if length groups == 0 then no_group need kind instance else Ok groups) >>= λ groups. Ok (says (Groups groups)))
groups_said needs.Mandatory kind instance (Ok []) = refl
groups_said needs.Conditional kind instance (Ok []) = refl
groups_said needs.Optional kind instance (Ok []) = refl
groups_said need kind instance (Ok (group ∷ groups)) = let some : (length (group ∷ groups) == 0) ≡ false = search rules in rw some refl
groups_said need kind instance (Err f) = refl

several_said : (needed : Bool) (kind missed : ℕ) (r : Result (List Value) RowFault)
    → ((r >>= λ values. Ok (says (Plain values))) >>= λ said. after_values needed kind missed said)
    ≡ ((r >>= λ values. if length values == 0 then no_value needed kind missed else Ok values) >>= λ values. Ok (says (Plain values)))
several_said true kind missed (Ok []) = refl
several_said false kind missed (Ok []) = refl
several_said true kind missed (Ok (v ∷ values)) = let some : (length (v ∷ values) == 0) ≡ false = search rules in rw some refl
several_said false kind missed (Ok (v ∷ values)) = let some : (length (v ∷ values) == 0) ≡ false = search rules in rw some refl
several_said needed kind missed (Err f) = refl

line_said : (state : State) (line : Line) (es : List Element) → line_says state line es ≡ (line_at state line es >>= λ field. Ok (says field))
unfolding row_says groups_say groups_silent several_say values_say some_groups several_at
line_said state (Single row) es = map_map (row_at state.accepting row es) (λ values. Plain values) says
line_said state (Grouped row rows) es =
    groups_said (need_of state.accepting row) (kind_of row) (instance_of row) (groups_at state.accepting rows (all_of (kind_of row) (instance_of row) es))
    ∙ map_map (some_groups (need_of state.accepting row) (kind_of row) (instance_of row) state.accepting rows (all_of (kind_of row) (instance_of row) es)) (λ groups. Groups groups) says
line_said state (Several kind instance missed) es =
    several_said state.silent kind missed (values_at kind instance (all_of kind instance es))
    ∙ map_map (several_at state.silent kind instance missed es) (λ values. Plain values) says

pub lines_forget : (state : State) (lines : List Line) (es : List Element) → forgotten (lines_at state lines es) ≡ forgotten (lines_say state lines es)
unfolding lines_say lines_at
lines_forget state [] es = refl
lines_forget state (line ∷ lines) es =
    forget_bind (line_at state line es) (λ field. lines_at (after state field) lines es >>= λ others. Ok (field ∷ others)) (λ field. lines_say (merged state (says field)) lines es)
    (λ field. forget_map (lines_at (after state field) lines es) (λ others. field ∷ others) ∙ lines_forget (after state field) lines es)
    ∙ ap forgotten (sym (bind_bind (line_at state line es) says (λ s. lines_say (merged state s) lines es))
    ∙ ap (λ (r : Result State RowFault). r >>= λ s. lines_say (merged state s) lines es) (sym (line_said state line es)))

map_err : {X Y E : Type 0} (r : Result X E) (g : X → Y) (f : E) → (r >>= λ x. Ok (g x)) ≡ Err f → r ≡ Err f
map_err (Ok x) g f h = absurd cc
map_err (Err e) g f h = cc

-- ---- elements one after the other

-- what was read says what is seen, and with what is left it is all
abbrev pub Passes : {X S : Type 0} → (Element → Result X RowFault) → (List X → S) → S → List Element → Result (List X) RowFault → Type 0
Passes {X = X} read view seen left total = (front : List X) × (view front ≡ seen) × (with_front front (each_at read left) ≡ total)

pub passes_first : {X S : Type 0} (read : Element → Result X RowFault) (view : List X → S) (es left : List Element) → left ≡ es → Passes read view (view []) left (each_at read es)
passes_first read view es left all = ([], refl, rw all (nothing_before (each_at read es)))

pub passes_on : {X S : Type 0} (read : Element → Result X RowFault) (view : List X → S) (seen now : S) (e : Element) (es left : List Element) (first : X) (total : Result (List X) RowFault)
    → left ≡ e ∷ es → read e ≡ Ok first → ((front : List X) → view front ≡ seen → view (front ++ first ∷ []) ≡ now) → Passes read view seen left total → Passes read view now es total
passes_on read view seen now e es left first total split h step so_far = (so_far.0 ++ first ∷ [], step so_far.0 so_far.1, goes_on read so_far.0 e es left first total split h so_far.2)

pub passes_fault : {X S : Type 0} (read : Element → Result X RowFault) (view : List X → S) (seen : S) (f : RowFault) (e : Element) (es left : List Element) (total : Result (List X) RowFault)
    → left ≡ e ∷ es → read e ≡ Err f → Passes read view seen left total → total ≡ Err f
passes_fault read view seen f e es left total split h so_far = ends read f so_far.0 e es left total split h so_far.2

pub passed : {X S : Type 0} (read : Element → Result X RowFault) (view : List X → S) (seen : S) (left : List Element) (total : Result (List X) RowFault)
    → left ≡ [] → Passes read view seen left total → (xs : List X) × (view xs ≡ seen) × (total ≡ Ok xs)
passed read view seen left total none so_far = (so_far.0, so_far.1, is_done read so_far.0 left total none so_far.2)

-- what was read, of which nothing is kept
pub was_read : {X E : Type 0} (r : Result X E) → forgotten r ≡ Ok tt → (x : X) × (r ≡ Ok x)
was_read (Ok x) h = (x, refl)
was_read (Err e) h = absurd cc

pub reads_ok : {X E : Type 0} (r : Result X E) → forgotten r ≡ Ok tt → IsOk r
reads_ok (Ok x) h = refl
reads_ok (Err e) h = absurd cc

-- the value of an element that reads
pub one_reads : (kind instance : ℕ) (e : Element) → IsOk (one_at kind instance e) → IsOk (value_at kind e.body)
unfolding one_at
one_reads kind instance e ok = by_outcome (value_at kind e.body) ok where
  by_outcome : (outcome : Result Value ReadFault) → IsOk (named kind instance e.at outcome) → IsOk outcome
  by_outcome (Ok v) ok = refl
  by_outcome (Err Short) ok = absurd cc
  by_outcome (Err Bad) ok = absurd cc

pub one_read : (kind instance : ℕ) (e : Element) (v : Value) → value_at kind e.body ≡ Ok v → one_at kind instance e ≡ Ok v
unfolding one_at
one_read kind instance e v reads = ap (named kind instance e.at) reads

pub seen_read : (kind instance : ℕ) (view : ElementView) (v : Value) → value_at kind view.body.now ≡ Ok v → one_at kind instance (element_of view) ≡ Ok v
seen_read kind instance view v reads = one_read kind instance (element_of view) v reads

-- a value that is needed is the same in a mandatory row and in a conditional one
pub needed_is : (kind instance : ℕ) (es : List Element) (v : Value) → needed_at false kind instance es ≡ Ok v → needed_at true kind instance es ≡ Ok v
unfolding needed_at
needed_is kind instance es v is = by_first (first_of kind instance es) is where
  by_first : (first : Option Element) → needed false kind instance first ≡ Ok v → needed true kind instance first ≡ Ok v
  by_first None is = absurd cc
  by_first (Some e) is = is

pub needed_so : (kind instance : ℕ) (es : List Element) → IsOk (needed_at true kind instance es) → IsOk (needed_at false kind instance es)
unfolding needed_at
needed_so kind instance es ok = by_first (first_of kind instance es) ok where
  by_first : (first : Option Element) → IsOk (needed true kind instance first) → IsOk (needed false kind instance first)
  by_first None ok = absurd cc
  by_first (Some e) ok = ok

pub was_fault : {X E : Type 0} (r : Result X E) (f : E) → forgotten r ≡ Err f → r ≡ Err f
was_fault (Ok x) f h = absurd cc
was_fault (Err e) f h = cc

-- a fault is told in the same way, whatever is kept of what reads
pub forgotten_as : {X E : Type 0} (told : E → E) (r : Result X E) → forgotten (fault_as told r) ≡ fault_as told (forgotten r)
forgotten_as told (Ok x) = refl
forgotten_as told (Err f) = refl

-- a group passes where its elements do, and its fault is theirs, in it
pub group_is : (a : Bool) (rows : List Row) (e : Element) → fault_as (in_group e.at) (inner_passes a rows e) ≡ group_passes a rows e
unfolding inner_passes group_passes group_at
group_is a rows e = sym (forgotten_as (in_group e.at) (inner_at a rows e))

-- a group
abbrev pub none_of : List (List (List Value)) → Bool
none_of groups = is_silent (Groups groups)

some_of : (groups : List (List (List Value))) (group : List (List Value)) → none_of (groups ++ group ∷ []) ≡ false
some_of [] group = refl
some_of (g ∷ groups) group = refl

pub group_on : (a : Bool) (rows : List Row) (silent : Bool) (e : Element) (es left : List Element) (total : Result (List (List (List Value))) RowFault)
    → left ≡ e ∷ es → group_passes a rows e ≡ Ok tt → Passes (group_at a rows) none_of silent left total → Passes (group_at a rows) none_of false es total
unfolding group_passes
group_on a rows silent e es left total split h so_far =
    let r = was_read (group_at a rows e) h in
    passes_on (group_at a rows) none_of silent false e es left r.0 total split r.1 (λ front is. some_of front r.0) so_far

pub group_stop : (a : Bool) (rows : List Row) (silent : Bool) (f : RowFault) (e : Element) (es left all : List Element)
    → left ≡ e ∷ es → group_passes a rows e ≡ Err f → Passes (group_at a rows) none_of silent left (groups_at a rows all) → groups_silent a rows all ≡ Err f
unfolding group_passes groups_silent
group_stop a rows silent f e es left all split h so_far =
    bind_at_err (groups_at a rows all) (λ groups. Ok (none_of groups)) f
    (passes_fault (group_at a rows) none_of silent f e es left (groups_at a rows all) split (was_fault (group_at a rows e) f h) so_far)

pub groups_end : (a : Bool) (rows : List Row) (silent : Bool) (left all : List Element) → left ≡ []
    → Passes (group_at a rows) none_of silent left (groups_at a rows all) → groups_silent a rows all ≡ Ok silent
unfolding groups_silent
groups_end a rows silent left all none so_far =
    let r = passed (group_at a rows) none_of silent left (groups_at a rows all) none so_far in
    bind_at (groups_at a rows all) (λ groups. Ok (none_of groups)) r.0 r.2 ∙ ap (λ b. Ok b) r.1

-- a value
abbrev pub said_of : List Value → State
said_of values = says (Plain values)

said_more : (values : List Value) (v : Value) → said_of (values ++ v ∷ []) ≡ with_one (said_of values) (accepts (v ∷ []))
said_more [] v = one v where
  one : (v : Value) → said_of (v ∷ []) ≡ with_one (said_of []) (accepts (v ∷ []))
  one v = refl
said_more (w ∷ values) v = search rules

pub value_on : (kind instance : ℕ) (said more : State) (now : Bool) (e : Element) (es left : List Element) (total : Result (List Value) RowFault)
    → left ≡ e ∷ es → one_accepts kind instance e ≡ Ok now → more ≡ with_one said now → Passes (one_at kind instance) said_of said left total → Passes (one_at kind instance) said_of more es total
unfolding one_accepts
value_on kind instance said more now e es left total split h grown so_far =
    let r = bind_ok (one_at kind instance e) (λ v. Ok (accepts (v ∷ []))) now h in
    passes_on (one_at kind instance) said_of said more e es left r.0 total split r.1 (λ front is.
    said_more front r.0 ∙ ap (λ (s : State). with_one s (accepts (r.0 ∷ []))) is ∙ ap (with_one said) (ok_same RowFault (accepts (r.0 ∷ [])) now r.2)
    ∙ sym grown) so_far

pub value_stop : (kind instance : ℕ) (said : State) (f : RowFault) (e : Element) (es left all : List Element)
    → left ≡ e ∷ es → one_accepts kind instance e ≡ Err f → Passes (one_at kind instance) said_of said left (values_at kind instance all) → values_say kind instance all ≡ Err f
unfolding one_accepts values_say
value_stop kind instance said f e es left all split h so_far =
    bind_at_err (values_at kind instance all) (λ values. Ok (said_of values)) f
    (passes_fault (one_at kind instance) said_of said f e es left (values_at kind instance all) split
    (map_err (one_at kind instance e) (λ v. accepts (v ∷ [])) f h) so_far)

pub values_end : (kind instance : ℕ) (said : State) (left all : List Element) → left ≡ []
    → Passes (one_at kind instance) said_of said left (values_at kind instance all) → values_say kind instance all ≡ Ok said
unfolding values_say
values_end kind instance said left all none so_far =
    let r = passed (one_at kind instance) said_of said left (values_at kind instance all) none so_far in
    bind_at (values_at kind instance all) (λ values. Ok (said_of values)) r.0 r.2 ∙ ap (λ s. Ok s) r.1
