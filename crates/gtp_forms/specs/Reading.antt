-- How octets are read by the steps of a form.
use Rattle.std.specs.Prelude.{ℕ, zero, suc, ◌-◌, ◌/◌, ◌%◌, Bool, true, false, not, ◌&&◌, ◌||◌, List, [], ◌∷◌, ◌++◌, map, length, take, drop, get_or, Option, Some, None, nat_lt, ◌==◌, if◌then◌else◌}
use Rattle.std.specs.Borrow.{Bor}
use Rattle.gtp_forms.specs.declared.form.View.{View}
use Rattle.gtp_forms.specs.declared.form.Case.{Case}
use Rattle.gtp_forms.specs.declared.form.Step.{Step}
use Rattle.gtp_forms.specs.declared.form.Step.TheVariants as steps
use Rattle.gtp_forms.specs.declared.told.Mode.{Mode}
use Rattle.gtp_forms.specs.declared.told.Mode.TheVariants.{Going, Ended, Short}
use Rattle.gtp_forms.specs.Event.{Event, Field, BeginPart, EndPart, BeginList, EndList, BeginItem, EndItem, Missing, Left}
use Rattle.gtp_forms.specs.Numbers.{number, bits}

-- a reading: the octets that are left, the number that was kept, whether it goes on, and what it told so far
pub record State : Type 0 where
  pub octets : List ℕ
  pub kept : ℕ
  pub mode : Mode
  pub events : List Event

abbrev pub is_going : Mode → Bool
is_going Going = true
is_going Ended = false
is_going Short = false

-- an event is told
abbrev pub said : Event → State → State
said e s = record { octets = s.octets; kept = s.kept; mode = s.mode; events = s.events ++ (e ∷ []) }

abbrev pub in_mode : Mode → State → State
in_mode m s = record { octets = s.octets; kept = s.kept; mode = m; events = s.events }

abbrev pub with_octets : List ℕ → State → State
with_octets octets s = record { octets = octets; kept = s.kept; mode = s.mode; events = s.events }

-- so many octets, seen in these ways
abbrev pub passed : ℕ → List View → State → State
passed n views s = said (Field views (take n s.octets)) (with_octets (drop n s.octets) s)

unfoldable pub field : ℕ → List View → State → State
field n views s = if nat_lt (length s.octets) n then in_mode Short s else passed n views s

-- all octets that are left
unfoldable pub all_left : List View → State → State
all_left views s = said (Field views s.octets) (with_octets [] s)

-- the number in the octets in front is kept
abbrev pub with_kept : ℕ → State → State
with_kept n s = record { octets = s.octets; kept = n; mode = s.mode; events = s.events }

unfoldable pub keep : ℕ → State → State
keep n s = if nat_lt (length s.octets) n then in_mode Short s else with_kept (number (take n s.octets)) s

unfoldable pub may_end : State → State
may_end s = if length s.octets == 0 then in_mode Ended s else s

-- what is left to be told at the end of octets
abbrev pub told_missing : Mode → State → State
told_missing Going s = s
told_missing Ended s = s
told_missing Short s = said Missing s

abbrev pub told_left : List ℕ → State → State
told_left [] s = s
told_left (octet ∷ octets) s = said (Left (octet ∷ octets)) (with_octets [] s)

unfoldable pub missing_told : State → State
missing_told s = told_missing s.mode s

unfoldable pub left_told : State → State
left_told s = told_left s.octets s

abbrev pub closed : State → State
closed s = left_told (missing_told s)

-- ---- parts, items, and octets of a stated length, by a reader of forms

-- where a part ended, what is around it goes on
abbrev pub resumed : Mode → Mode
resumed Going = Going
resumed Ended = Going
resumed Short = Short

abbrev pub back : ℕ → State → State
back kept s = record { octets = s.octets; kept = kept; mode = resumed s.mode; events = s.events }

abbrev pub part_begun : List ℕ → State → State
part_begun [] s = s
part_begun (c ∷ name) s = said (BeginPart (c ∷ name)) s

abbrev pub part_ended : List ℕ → State → State
part_ended [] s = s
part_ended (c ∷ name) s = said EndPart s

unfoldable pub part : (ℕ → State → State) → List ℕ → ℕ → State → State
part form name n s = back s.kept (part_ended name (form n (part_begun name s)))

unfoldable pub item : (ℕ → State → State) → List ℕ → ℕ → State → State
item form name n s = back s.kept (said (EndItem name) (form n (said (BeginItem name) s)))

-- whether no item follows
abbrev pub stops : Bool → State → Bool
stops to_end s = not (is_going s.mode) || (to_end && (length s.octets == 0))

abbrev pub items : (State → State) → (State → Bool) → ℕ → State → State
items one stop zero s = s
items one stop (suc n) s = if stop s then s else items one stop n (one s)

unfoldable pub listed : (ℕ → State → State) → Bool → ℕ → List ℕ → List ℕ → ℕ → State → State
listed form to_end count list name n s = said EndList (items (item form name n) (stops to_end) count (said (BeginList list) s))

-- the length, the octets that it covers, and those after them
pub record Cut : Type 0 where
  pub size : List ℕ
  pub body : List ℕ
  pub rest : List ℕ

abbrev pub cut_by : ℕ → ℕ → List ℕ → List ℕ → Option Cut
cut_by stated less size octets =
    if nat_lt stated less then None else (if nat_lt (length octets) (stated - less) then None else Some (record { size = size; body = take (stated - less) octets; rest = drop (stated - less) octets }))

unfoldable pub cut : ℕ → ℕ → List ℕ → Option Cut
cut n less octets = if nat_lt (length octets) n then None else cut_by (number (take n octets)) less (take n octets) (drop n octets)

abbrev pub body_begun : Cut → State → State
body_begun c s = said (Field [] c.size) (with_octets c.body s)

abbrev pub body_ended : List ℕ → ℕ → State → State
body_ended rest kept s = record { octets = rest; kept = kept; mode = Going; events = s.events }

abbrev pub sized_by : (ℕ → State → State) → Option Cut → ℕ → State → State
sized_by form None n s = in_mode Short s
sized_by form (Some c) n s = body_ended c.rest s.kept (closed (form n (body_begun c s)))

unfoldable pub sized : (ℕ → State → State) → ℕ → ℕ → ℕ → State → State
sized form octets less n s = sized_by form (cut octets less s.octets) n s

-- ---- steps

abbrev pub fits_value : Option ℕ → ℕ → Bool
fits_value None n = true
fits_value (Some value) n = value == n

abbrev pub fits : Case → ℕ → Bool
fits c n = fits_value c.value n

abbrev pub chosen : List Case → ℕ → Option Case
chosen [] n = None
chosen (c ∷ cs) n = if fits c n then Some c else chosen cs n

abbrev pub case_read : (ℕ → State → State) → Option Case → State → State
case_read form None s = s
case_read form (Some c) s = part form c.name.now c.form s

abbrev pub step_read : (ℕ → State → State) → Step → State → State
step_read form (steps.Field octets views) s = field octets views.now s
step_read form (steps.All views) s = all_left views.now s
step_read form (steps.Keep octets) s = keep octets s
step_read form steps.May s = may_end s
step_read form (steps.Choose b cases) s = case_read form (chosen cases.now (bits b s.kept)) s
step_read form (steps.Each list name n) s = listed form true (length s.octets) list.now name.now n s
step_read form (steps.Times b list name n) s = listed form false (bits b s.kept) list.now name.now n s
step_read form (steps.Sized octets less n) s = sized form octets less n s

-- a step is taken while the reading goes on
unfoldable pub stepped : (ℕ → State → State) → Step → State → State
stepped form step s = if is_going s.mode then step_read form step s else s

abbrev pub all_steps : (ℕ → State → State) → List Step → State → State
all_steps form [] s = s
all_steps form (step ∷ more) s = all_steps form more (stepped form step s)

-- ---- forms

-- tables in parts of sixteen forms
abbrev pub Tables : Type 0
Tables = List (List (List Step))

-- what the code's tables stand for
abbrev pub part_of : List (Bor (List Step)) → List (List Step)
part_of forms = map (λ f. f.now) forms

abbrev pub tables_of : List (Bor (List (Bor (List Step)))) → Tables
tables_of parts = map (λ (p : Bor (List (Bor (List Step)))). part_of p.now) parts

-- the form of a number; none has no steps
abbrev pub form_in : List (List Step) → ℕ → List Step
form_in forms place = get_or forms place []

abbrev pub form_at : Tables → ℕ → List Step
form_at parts n = form_in (get_or parts (n / 16) []) (n % 16)

-- reading by the form of a number; at most so many forms in one another
unfoldable pub reads : Tables → ℕ → ℕ → State → State
reads forms zero n s = in_mode Short s
reads forms (suc depth) n s = all_steps (λ m t. reads forms depth m t) (form_at forms n) s

-- how many forms may stand in one another
abbrev pub deepest : ℕ
deepest = 8

abbrev pub begun : List ℕ → State
begun body = record { octets = body; kept = 0; mode = Going; events = [] }

-- what a body tells by the form of a number
abbrev pub told_by : Tables → ℕ → List ℕ → List Event
told_by forms n body = (closed (reads forms deepest n (begun body))).events
