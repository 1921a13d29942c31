-- What a reading tells stands for all octets.
use Rattle.std.specs.Prelude.{nat_lt, ◌==◌}
use Rattle.std.proofs.Common.{◌≡◌, ℕ, zero, suc, ◌-◌, Bool, true, false, cond, List, [], ◌∷◌, ◌++◌, length, take, drop, Option, Some, None, refl, sym, ap, ◌∙◌, append_assoc}
use Rattle.std.proofs.lemmas.List.{append-nil, take-append-drop}
use Rattle.std.proofs.lemmas.List.Concat.{flat_map-append}
use Rattle.gtp_forms.specs.declared.form.View.{View}
use Rattle.gtp_forms.specs.declared.form.Case.{Case}
use Rattle.gtp_forms.specs.declared.form.Step.{Step}
use Rattle.gtp_forms.specs.declared.form.Step.TheVariants as steps
use Rattle.gtp_forms.specs.declared.told.Mode.{Mode}
use Rattle.gtp_forms.specs.declared.told.Mode.TheVariants.{Going, Ended, Short}
use Rattle.gtp_forms.specs.Numbers.{number, bits}
use Rattle.gtp_forms.specs.Event.{Event, Field, BeginPart, EndPart, BeginList, EndList, BeginItem, EndItem, Missing, Left, octets_in, octets_of}
use Rattle.gtp_forms.specs.Reading.{Tables, State, Cut, said, in_mode, passed, field, all_left, keep, with_kept, may_end, told_missing, told_left}
use Rattle.gtp_forms.specs.Reading.{missing_told, left_told, closed, part_begun, part_ended, part, item, stops, items, listed, cut_by, cut}
use Rattle.gtp_forms.specs.Reading.{body_begun, sized_by, sized, chosen, case_read, step_read, stepped, all_steps, form_at, reads, deepest, begun}
use Rattle.gtp_forms.specs.Reading.{is_going}
use Rattle.gtp_forms.specs.Laws.{IsAllTold}

-- the octets of what was told, and those that are left
abbrev whole : State → List ℕ
whole s = octets_of s.events ++ s.octets

-- a reading that leaves none out
abbrev Keeps : (State → State) → Type 0
Keeps f = (s : State) → whole (f s) ≡ whole s

-- one event more
one_more : (es : List Event) (e : Event) → octets_of (es ++ e ∷ []) ≡ octets_of es ++ octets_in e
one_more es e = flat_map-append octets_in es (e ∷ []) ∙ ap (λ os. octets_of es ++ os) (append-nil (octets_in e))

-- an event that stands for the octets that were in front
passing : (es : List Event) (e : Event) (front rest all : List ℕ) → octets_in e ≡ front → front ++ rest ≡ all → octets_of (es ++ e ∷ []) ++ rest ≡ octets_of es ++ all
passing es e front rest all is joined =
    ap (λ os. os ++ rest) (one_more es e ∙ ap (λ os. octets_of es ++ os) is)
    ∙ append_assoc (octets_of es) front rest
    ∙ ap (λ os. octets_of es ++ os) joined

-- an event that stands for none
silent : (e : Event) → octets_in e ≡ [] → Keeps (said e)
silent e is s = passing s.events e [] s.octets s.octets is refl

either : (b : Bool) (x y : State) (all : List ℕ) → whole x ≡ all → whole y ≡ all → whole (cond b x y) ≡ all
either true x y all one two = one
either false x y all one two = two

field_keeps : (n : ℕ) (views : List View) → Keeps (field n views)
unfolding field
field_keeps n views s =
    either (nat_lt (length s.octets) n) (in_mode Short s) (passed n views s) (whole s) refl
    (passing s.events (Field views (take n s.octets)) (take n s.octets) (drop n s.octets) s.octets refl (take-append-drop n s.octets))

all_left_keeps : (views : List View) → Keeps (all_left views)
unfolding all_left
all_left_keeps views s = passing s.events (Field views s.octets) s.octets [] s.octets refl (append-nil s.octets)

keep_keeps : (n : ℕ) → Keeps (keep n)
unfolding keep
keep_keeps n s = either (nat_lt (length s.octets) n) (in_mode Short s) (with_kept (number (take n s.octets)) s) (whole s) refl refl

may_keeps : Keeps may_end
unfolding may_end
may_keeps s = either (length s.octets == 0) (in_mode Ended s) s (whole s) refl refl

missing_keeps : (m : Mode) → Keeps (told_missing m)
missing_keeps Going s = refl
missing_keeps Ended s = refl
missing_keeps Short s = silent Missing refl s

left_keeps : (octets : List ℕ) (s : State) → octets ≡ s.octets → whole (told_left octets s) ≡ whole s
left_keeps [] s e = refl
left_keeps (octet ∷ octets) s e =
    passing s.events (Left (octet ∷ octets)) (octet ∷ octets) [] s.octets refl (append-nil (octet ∷ octets) ∙ e)

left_none : (octets : List ℕ) (s : State) → octets ≡ s.octets → (told_left octets s).octets ≡ []
left_none [] s e = sym e
left_none (octet ∷ octets) s e = refl

closed_keeps : Keeps closed
unfolding left_told missing_told
closed_keeps s = left_keeps (told_missing s.mode s).octets (told_missing s.mode s) refl ∙ missing_keeps s.mode s

closed_none : (s : State) → (closed s).octets ≡ []
unfolding left_told missing_told
closed_none s = left_none (told_missing s.mode s).octets (told_missing s.mode s) refl

begun_keeps : (name : List ℕ) → Keeps (part_begun name)
begun_keeps [] s = refl
begun_keeps (c ∷ name) s = silent (BeginPart (c ∷ name)) refl s

ended_keeps : (name : List ℕ) → Keeps (part_ended name)
ended_keeps [] s = refl
ended_keeps (c ∷ name) s = silent EndPart refl s

part_keeps : (form : ℕ → State → State) → ((n : ℕ) → Keeps (form n)) → (name : List ℕ) (n : ℕ) → Keeps (part form name n)
unfolding part
part_keeps form keeps name n s = ended_keeps name (form n (part_begun name s)) ∙ (keeps n (part_begun name s) ∙ begun_keeps name s)

item_keeps : (form : ℕ → State → State) → ((n : ℕ) → Keeps (form n)) → (name : List ℕ) (n : ℕ) → Keeps (item form name n)
unfolding item
item_keeps form keeps name n s =
    silent (EndItem name) refl (form n (said (BeginItem name) s)) ∙ (keeps n (said (BeginItem name) s) ∙ silent (BeginItem name) refl s)

items_keep : (one : State → State) → Keeps one → (stop : State → Bool) (n : ℕ) → Keeps (items one stop n)
items_keep one keeps stop zero s = refl
items_keep one keeps stop (suc n) s = either (stop s) s (items one stop n (one s)) (whole s) refl (items_keep one keeps stop n (one s) ∙ keeps s)

listed_keeps : (form : ℕ → State → State) → ((n : ℕ) → Keeps (form n)) → (to_end : Bool) (count : ℕ) (list name : List ℕ) (n : ℕ) → Keeps (listed form to_end count list name n)
unfolding listed
listed_keeps form keeps to_end count list name n s =
    silent EndList refl (items (item form name n) (stops to_end) count (said (BeginList list) s))
    ∙ (items_keep (item form name n) (item_keeps form keeps name n) (stops to_end) count (said (BeginList list) s) ∙ silent (BeginList list) refl s)

-- the parts of a cut are the octets
abbrev Joins : List ℕ → Option Cut → Type 0
Joins octets None = Unit {0}
Joins octets (Some c) = c.size ++ (c.body ++ c.rest) ≡ octets

pick : (b : Bool) (octets : List ℕ) (x y : Option Cut) → Joins octets x → Joins octets y → Joins octets (cond b x y)
pick true octets x y one two = one
pick false octets x y one two = two

cut_joins : (n less : ℕ) (octets : List ℕ) → Joins octets (cut n less octets)
unfolding cut
cut_joins n less octets =
    let size = take n octets in
    let behind = drop n octets in
    let covered = number size - less in
    let parts : Cut = record { size = size; body = take covered behind; rest = drop covered behind } in
    let inner : Option Cut = cond (nat_lt (length behind) covered) None (Some parts) in
    pick (nat_lt (length octets) n) octets None (cut_by (number size) less size behind) tt
    (pick (nat_lt (number size) less) octets None inner tt
    (pick (nat_lt (length behind) covered) octets None (Some parts) tt
    (ap (λ os. size ++ os) (take-append-drop covered behind) ∙ take-append-drop n octets)))

sized_by_keeps : (form : ℕ → State → State) → ((n : ℕ) → Keeps (form n)) → (c : Option Cut) (n : ℕ) (s : State) → Joins s.octets c → whole (sized_by form c n s) ≡ whole s
sized_by_keeps form keeps None n s joins = refl
sized_by_keeps form keeps (Some c) n s joins =
    let inner = form n (body_begun c s) in
    let done : octets_of (closed inner).events ++ (closed inner).octets ≡ octets_of s.events ++ (c.size ++ c.body) =
    closed_keeps inner ∙ (keeps n (body_begun c s) ∙ passing s.events (Field [] c.size) c.size c.body (c.size ++ c.body) refl refl) in
    let told : octets_of (closed inner).events ≡ octets_of s.events ++ (c.size ++ c.body) =
    sym (append-nil (octets_of (closed inner).events)) ∙ (ap (λ os. octets_of (closed inner).events ++ os) (sym (closed_none inner)) ∙ done) in
    ap (λ os. os ++ c.rest) told
    ∙ append_assoc (octets_of s.events) (c.size ++ c.body) c.rest
    ∙ ap (λ os. octets_of s.events ++ os) (append_assoc c.size c.body c.rest ∙ joins)

sized_keeps : (form : ℕ → State → State) → ((n : ℕ) → Keeps (form n)) → (count less n : ℕ) → Keeps (sized form count less n)
unfolding sized
sized_keeps form keeps count less n s = sized_by_keeps form keeps (cut count less s.octets) n s (cut_joins count less s.octets)

case_keeps : (form : ℕ → State → State) → ((n : ℕ) → Keeps (form n)) → (c : Option Case) → Keeps (case_read form c)
case_keeps form keeps None s = refl
case_keeps form keeps (Some c) s = part_keeps form keeps c.name.now c.form s

step_keeps : (form : ℕ → State → State) → ((n : ℕ) → Keeps (form n)) → (step : Step) → Keeps (step_read form step)
step_keeps form keeps (steps.Field octets views) s = field_keeps octets views.now s
step_keeps form keeps (steps.All views) s = all_left_keeps views.now s
step_keeps form keeps (steps.Keep octets) s = keep_keeps octets s
step_keeps form keeps steps.May s = may_keeps s
step_keeps form keeps (steps.Choose b cases) s = case_keeps form keeps (chosen cases.now (bits b s.kept)) s
step_keeps form keeps (steps.Each list name n) s = listed_keeps form keeps true (length s.octets) list.now name.now n s
step_keeps form keeps (steps.Times b list name n) s = listed_keeps form keeps false (bits b s.kept) list.now name.now n s
step_keeps form keeps (steps.Sized octets less n) s = sized_keeps form keeps octets less n s

stepped_keeps : (form : ℕ → State → State) → ((n : ℕ) → Keeps (form n)) → (step : Step) → Keeps (stepped form step)
unfolding stepped
stepped_keeps form keeps step s = either (is_going s.mode) (step_read form step s) s (whole s) (step_keeps form keeps step s) refl

steps_keep : (form : ℕ → State → State) → ((n : ℕ) → Keeps (form n)) → (all : List Step) → Keeps (all_steps form all)
steps_keep form keeps [] s = refl
steps_keep form keeps (step ∷ more) s = steps_keep form keeps more (stepped form step s) ∙ stepped_keeps form keeps step s

reads_keep : (forms : Tables) (depth n : ℕ) → Keeps (reads forms depth n)
unfolding reads
reads_keep forms zero n s = refl
reads_keep forms (suc depth) n s = steps_keep (λ m t. reads forms depth m t) (λ m t. reads_keep forms depth m t) (form_at forms n) s

pub all_told : IsAllTold
all_told forms n body =
    let read = reads forms deepest n (begun body) in
    sym (append-nil (octets_of (closed read).events)) ∙ (ap (λ os. octets_of (closed read).events ++ os) (sym (closed_none read)) ∙ (closed_keeps read ∙ reads_keep forms deepest n (begun body)))
