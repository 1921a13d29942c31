-- As JSON, what a reading tells is members.
use Rattle.std.specs.Prelude.{nat_lt, ◌==◌, ⊤, codes, if◌then◌else◌}
use Rattle.std.proofs.Common.{◌≡◌, ◌≤◌, ℕ, zero, suc, arith, subst, Bool, true, false, cond, List, [], ◌∷◌, ◌++◌, length, take, Option, Some, None, refl, sym, ap, ◌∙◌, append_assoc}
use Rattle.std.proofs.lemmas.List.{append-nil}
use Rattle.std.proofs.lemmas.List.Concat.{flat_map-append}
use Rattle.std.specs.List.{flat_map}
use Rattle.hex.specs.Hex.{encode_lower}
use Rattle.json.specs.Token.{Token}
use Rattle.json.specs.Json.{Json, object, array, string, boolean, value, max_depth}
use Rattle.json.specs.Tree.{json_tokens, members_tokens, items_tokens, depth, members_depth, items_depth}
use Rattle.json.proofs.Printed.Trees.{value-json_tokens}
use Rattle.gtp_forms.specs.declared.form.How.{How}
use Rattle.gtp_forms.specs.declared.form.How.TheVariants as hows
use Rattle.gtp_forms.specs.declared.form.View.{View}
use Rattle.gtp_forms.specs.declared.form.Case.{Case}
use Rattle.gtp_forms.specs.declared.form.Step.{Step}
use Rattle.gtp_forms.specs.declared.form.Step.TheVariants as steps
use Rattle.gtp_forms.specs.declared.told.Mode.{Mode}
use Rattle.gtp_forms.specs.declared.told.Mode.TheVariants.{Going, Ended, Short}
use Rattle.gtp_forms.specs.Numbers.{number, bits}
use Rattle.gtp_forms.specs.Event.{Event, Field, BeginPart, EndPart, BeginList, EndList, BeginItem, EndItem, Missing, Left}
use Rattle.gtp_forms.specs.Text.{are_zero, word_of}
use Rattle.gtp_forms.specs.Tokens.{members_of, items_of, member_tokens, written, one_member, word_member, network_members, members_in, field_members, event_tokens, tokens_of}
use Rattle.gtp_forms.specs.Tokens.{Within, bracketed, found, told_json}
use Rattle.gtp_forms.specs.Reading.{Tables, State, Cut, said, in_mode, passed, field, all_left, keep, with_kept, may_end, told_missing, told_left}
use Rattle.gtp_forms.specs.Reading.{missing_told, left_told, closed, part, item, stops, items, listed, cut, body_begun, sized_by, sized, chosen}
use Rattle.gtp_forms.specs.Reading.{case_read, step_read, stepped, all_steps, form_at, reads, deepest, begun, told_by, is_going}
use Rattle.gtp_forms.specs.Laws.{AreMembers, IsObject}

-- ---- how deep members nest

join : (n : ℕ) (a b : List (List ℕ × Json)) → Within n a → Within n b → Within n (a ++ b)
join n [] b h k = k
join n (m ∷ ms) b h k = (h.0, join n ms b h.1 k)

deeper : (n : ℕ) (ms : List (List ℕ × Json)) → Within n ms → Within (suc (suc n)) ms
deeper n [] h = tt
deeper n (m ∷ ms) h = (omega (arith, h.0), deeper n ms h.1)

members_within : (n : ℕ) (ms : List (List ℕ × Json)) → Within n ms → members_depth (members_of ms) ≤ n
members_within n [] h = omega arith
members_within n (m ∷ ms) h = let rest = members_within n ms h.1 in let first = h.0 in omega (arith, rest, first)

object_within : (n : ℕ) (ms : List (List ℕ × Json)) → Within n ms → depth (object (members_of ms)) ≤ suc n
object_within n ms h = let inner = members_within n ms h in omega (arith, inner)

-- no value of a list nests deeper
abbrev Shallow : ℕ → List Json → Type 0
Shallow n [] = ⊤
Shallow n (j ∷ js) = (depth j ≤ n) × Shallow n js

all_shallow : (n : ℕ) (a b : List Json) → Shallow n a → Shallow n b → Shallow n (a ++ b)
all_shallow n [] b h k = k
all_shallow n (j ∷ js) b h k = (h.0, all_shallow n js b h.1 k)

items_within : (n : ℕ) (js : List Json) → Shallow n js → items_depth (items_of js) ≤ n
items_within n [] h = omega arith
items_within n (j ∷ js) h = let rest = items_within n js h.1 in let first = h.0 in omega (arith, rest, first)

array_within : (n : ℕ) (js : List Json) → Shallow n js → depth (array (items_of js)) ≤ suc n
array_within n js h = let inner = items_within n js h in omega (arith, inner)

-- fields do not nest
chosen_within : (b : Bool) (n : ℕ) (x y : List (List ℕ × Json)) → Within n x → Within n y → Within n (if b then x else y)
chosen_within true n x y h k = h
chosen_within false n x y h k = k

word_within : (n : ℕ) (name : List ℕ) (word : Option (List ℕ)) → Within n (word_member name word)
word_within n name None = tt
word_within n name (Some word) = (omega arith, tt)

network_within : (n : ℕ) (octets : List ℕ) → Within n (network_members octets)
network_within n [] = (omega arith, tt)
network_within n (a ∷ []) = (omega arith, tt)
network_within n (a ∷ b ∷ []) = (omega arith, tt)
network_within n (a ∷ b ∷ c ∷ []) = (omega arith, (omega arith, tt))
network_within n (a ∷ b ∷ c ∷ d ∷ more) = (omega arith, tt)

seen_within : (n : ℕ) (how : How) (name octets : List ℕ) → Within n (members_in how name octets)
unfolding members_in
seen_within n (hows.Number b) name octets = (omega arith, tt)
seen_within n (hows.Named b words) name octets = (omega arith, word_within n name (word_of words.now (bits b (number octets))))
seen_within n (hows.Flag b) name octets = chosen_within (bits b (number octets) == 0) n [] (one_member name (boolean true)) tt (omega arith, tt)
seen_within n hows.Network name octets = network_within n octets
seen_within n (hows.Spelled s) name octets = (omega arith, tt)
seen_within n hows.Spare name octets = chosen_within (are_zero octets) n [] (one_member (codes "spare") (string (encode_lower octets))) tt (omega arith, tt)

views_within : (n : ℕ) (views : List View) (octets : List ℕ) → Within n (field_members views octets)
views_within n [] octets = tt
views_within n (v ∷ views) octets = join n (members_in v.how v.name.now octets) (field_members views octets) (seen_within n v.how v.name.now octets) (views_within n views octets)

-- ---- what is told

-- what was told by then, and members after that, which nest no deeper
abbrev Adds : ℕ → List Event → List Event → Type 0
Adds d es fs = (ms : List (List ℕ × Json)) × (tokens_of fs ≡ tokens_of es ++ written ms) × Within d ms

-- a reading that tells members
abbrev Tells : ℕ → (State → State) → Type 0
Tells d f = (s : State) → Adds d s.events (f s).events

nothing : (d : ℕ) (es : List Event) → Adds d es es
nothing d es = ([], sym (append-nil (tokens_of es)), tt)

raised : (d : ℕ) (es fs : List Event) → Adds d es fs → Adds (suc (suc d)) es fs
raised d es fs one = (one.0, one.1, deeper d one.0 one.2)

-- one after the other
both : (d : ℕ) (es fs gs : List Event) → Adds d es fs → Adds d fs gs → Adds d es gs
both d es fs gs one two = (
  one.0 ++ two.0,
  two.1
      ∙ (ap (λ ts. ts ++ written two.0) one.1
      ∙ (append_assoc (tokens_of es) (written one.0) (written two.0)
      ∙ ap (λ ts. tokens_of es ++ ts) (sym (flat_map-append member_tokens one.0 two.0)))),
  join d one.0 two.0 one.2 two.2,
)

-- one event more
more : (es : List Event) (e : Event) → tokens_of (es ++ e ∷ []) ≡ tokens_of es ++ event_tokens e
more es e = flat_map-append event_tokens es (e ∷ []) ∙ ap (λ ts. tokens_of es ++ ts) (append-nil (event_tokens e))

-- an event that is members
telling : (d : ℕ) (es : List Event) (e : Event) (ms : List (List ℕ × Json)) → event_tokens e ≡ written ms → Within d ms → Adds d es (es ++ e ∷ [])
telling d es e ms is within = (ms, more es e ∙ ap (λ ts. tokens_of es ++ ts) is, within)

either : (d : ℕ) (b : Bool) (es : List Event) (x y : State) → Adds d es x.events → Adds d es y.events → Adds d es (cond b x y).events
either d true es x y one two = one
either d false es x y one two = two

members_are : (ms : List (List ℕ × Json)) → members_tokens (members_of ms) ≡ written ms ++ Token.end_object ∷ []
members_are [] = refl
members_are (m ∷ ms) =
    ap (λ (ts : List Token). Token.key m.0 ∷ (json_tokens m.1 ++ ts)) (members_are ms)
    ∙ ap (λ (ts : List Token). Token.key m.0 ∷ ts) (sym (append_assoc (json_tokens m.1) (written ms) (Token.end_object ∷ [])))

abbrev values : List Json → List Token
values js = flat_map json_tokens js

items_are : (js : List Json) → items_tokens (items_of js) ≡ values js ++ Token.end_array ∷ []
items_are [] = refl
items_are (j ∷ js) = ap (λ (ts : List Token). json_tokens j ++ ts) (items_are js) ∙ sym (append_assoc (json_tokens j) (values js) (Token.end_array ∷ []))

-- what stands between two events, of which the first and the last are brackets
between : (es mid : List Event) (e f : Event) (inner : List Token) → tokens_of mid ≡ tokens_of (es ++ e ∷ []) ++ inner
    → tokens_of (mid ++ f ∷ []) ≡ tokens_of es ++ (event_tokens e ++ (inner ++ event_tokens f))
between es mid e f inner h =
    more mid f
    ∙ (ap (λ ts. ts ++ event_tokens f) (h ∙ ap (λ ts. ts ++ inner) (more es e))
    ∙ (append_assoc (tokens_of es ++ event_tokens e) inner (event_tokens f)
    ∙ append_assoc (tokens_of es) (event_tokens e) (inner ++ event_tokens f)))

field_tells : (d n : ℕ) (views : List View) → Tells d (field n views)
unfolding field
field_tells d n views s =
    either d (nat_lt (length s.octets) n) s.events (in_mode Short s) (passed n views s) (nothing d s.events)
    (telling d s.events (Field views (take n s.octets)) (field_members views (take n s.octets)) refl (views_within d views (take n s.octets)))

all_left_tells : (d : ℕ) (views : List View) → Tells d (all_left views)
unfolding all_left
all_left_tells d views s = telling d s.events (Field views s.octets) (field_members views s.octets) refl (views_within d views s.octets)

keep_tells : (d n : ℕ) → Tells d (keep n)
unfolding keep
keep_tells d n s = either d (nat_lt (length s.octets) n) s.events (in_mode Short s) (with_kept (number (take n s.octets)) s) (nothing d s.events) (nothing d s.events)

may_tells : (d : ℕ) → Tells d may_end
unfolding may_end
may_tells d s = either d (length s.octets == 0) s.events (in_mode Ended s) s (nothing d s.events) (nothing d s.events)

missing_tells : (d : ℕ) (m : Mode) → Tells d (told_missing m)
missing_tells d Going s = nothing d s.events
missing_tells d Ended s = nothing d s.events
missing_tells d Short s = telling d s.events Missing (one_member (codes "short") (boolean true)) refl (omega arith, tt)

left_tells : (d : ℕ) (octets : List ℕ) → Tells d (told_left octets)
left_tells d [] s = nothing d s.events
left_tells d (octet ∷ octets) s = telling d s.events (Left (octet ∷ octets)) (one_member (codes "rest") (string (encode_lower (octet ∷ octets)))) refl (omega arith, tt)

closed_tells : (d : ℕ) → Tells d closed
unfolding left_told missing_told
closed_tells d s =
    both d s.events (told_missing s.mode s).events (closed s).events (missing_tells d s.mode s) (left_tells d (told_missing s.mode s).octets (told_missing s.mode s))

part_tells : (d : ℕ) (form : ℕ → State → State) → ((n : ℕ) → Tells d (form n)) → (name : List ℕ) (n : ℕ) → Tells (suc (suc d)) (part form name n)
unfolding part
part_tells d form tells [] n s = raised d s.events (form n s).events (tells n s)
part_tells d form tells (c ∷ name) n s =
    let started = said (BeginPart (c ∷ name)) s in
    let inner = tells n started in
    let within = object_within d inner.0 inner.2 in (
      (c ∷ name, object (members_of inner.0)) ∷ [],
      between s.events (form n started).events (BeginPart (c ∷ name)) EndPart (written inner.0) inner.1
          ∙ ap (λ (ts : List Token). tokens_of s.events ++ (Token.key (c ∷ name) ∷ Token.begin_object ∷ ts)) (sym (members_are inner.0))
          ∙ ap (λ (ts : List Token). tokens_of s.events ++ ts) (sym (append-nil (Token.key (c ∷ name) ∷ Token.begin_object ∷ members_tokens (members_of inner.0)))),
      (omega (arith, within), tt),
    )

-- values after what was told by then
abbrev Lists : ℕ → List Event → List Event → Type 0
Lists d es fs = (js : List Json) × (tokens_of fs ≡ tokens_of es ++ values js) × Shallow d js

item_lists : (d : ℕ) (form : ℕ → State → State) → ((n : ℕ) → Tells d (form n)) → (name : List ℕ) (n : ℕ) (s : State) → Lists (suc d) s.events (item form name n s).events
unfolding item
item_lists d form tells name n s =
    let started = said (BeginItem name) s in
    let inner = tells n started in (
      object (members_of inner.0) ∷ [],
      between s.events (form n started).events (BeginItem name) (EndItem name) (written inner.0) inner.1
          ∙ ap (λ (ts : List Token). tokens_of s.events ++ (Token.begin_object ∷ ts)) (sym (members_are inner.0))
          ∙ ap (λ (ts : List Token). tokens_of s.events ++ ts) (sym (append-nil (Token.begin_object ∷ members_tokens (members_of inner.0)))),
      (object_within d inner.0 inner.2, tt),
    )

one_or : (d : ℕ) (b : Bool) (es : List Event) (x y : State) → Lists d es x.events → Lists d es y.events → Lists d es (cond b x y).events
one_or d true es x y one two = one
one_or d false es x y one two = two

joined : (d : ℕ) (es fs gs : List Event) → Lists d es fs → Lists d fs gs → Lists d es gs
joined d es fs gs one two = (
  one.0 ++ two.0,
  two.1
      ∙ (ap (λ ts. ts ++ values two.0) one.1
      ∙ (append_assoc (tokens_of es) (values one.0) (values two.0)
      ∙ ap (λ ts. tokens_of es ++ ts) (sym (flat_map-append json_tokens one.0 two.0)))),
  all_shallow d one.0 two.0 one.2 two.2,
)

none_listed : (d : ℕ) (es : List Event) → Lists d es es
none_listed d es = ([], sym (append-nil (tokens_of es)), tt)

items_list : (d : ℕ) (one : State → State) → ((s : State) → Lists d s.events (one s).events) → (stop : State → Bool) (n : ℕ) (s : State) → Lists d s.events (items one stop n s).events
items_list d one lists stop zero s = none_listed d s.events
items_list d one lists stop (suc n) s =
    one_or d (stop s) s.events s (items one stop n (one s)) (none_listed d s.events)
    (joined d s.events (one s).events (items one stop n (one s)).events (lists s) (items_list d one lists stop n (one s)))

listed_tells : (d : ℕ) (form : ℕ → State → State) → ((n : ℕ) → Tells d (form n)) → (to_end : Bool) (count : ℕ) (list name : List ℕ) (n : ℕ)
    → Tells (suc (suc d)) (listed form to_end count list name n)
unfolding listed
listed_tells d form tells to_end count list name n s =
    let started = said (BeginList list) s in
    let inner = items_list (suc d) (item form name n) (item_lists d form tells name n) (stops to_end) count started in (
      (list, array (items_of inner.0)) ∷ [],
      between s.events (items (item form name n) (stops to_end) count started).events (BeginList list) EndList (values inner.0) inner.1
          ∙ ap (λ (ts : List Token). tokens_of s.events ++ (Token.key list ∷ Token.begin_array ∷ ts)) (sym (items_are inner.0))
          ∙ ap (λ (ts : List Token). tokens_of s.events ++ ts) (sym (append-nil (Token.key list ∷ Token.begin_array ∷ items_tokens (items_of inner.0)))),
      (array_within (suc d) inner.0 inner.2, tt),
    )

sized_by_tells : (d : ℕ) (form : ℕ → State → State) → ((n : ℕ) → Tells d (form n)) → (c : Option Cut) (n : ℕ) → Tells d (sized_by form c n)
sized_by_tells d form tells None n s = nothing d s.events
sized_by_tells d form tells (Some c) n s =
    let started = body_begun c s in
    both d s.events started.events (closed (form n started)).events (telling d s.events (Field [] c.size) [] refl tt)
    (both d started.events (form n started).events (closed (form n started)).events (tells n started) (closed_tells d (form n started)))

sized_tells : (d : ℕ) (form : ℕ → State → State) → ((n : ℕ) → Tells d (form n)) → (count less n : ℕ) → Tells (suc (suc d)) (sized form count less n)
unfolding sized
sized_tells d form tells count less n s =
    let c = cut count less s.octets in
    raised d s.events (sized_by form c n s).events (sized_by_tells d form tells c n s)

case_tells : (d : ℕ) (form : ℕ → State → State) → ((n : ℕ) → Tells d (form n)) → (c : Option Case) → Tells (suc (suc d)) (case_read form c)
case_tells d form tells None s = nothing (suc (suc d)) s.events
case_tells d form tells (Some c) s = part_tells d form tells c.name.now c.form s

step_tells : (d : ℕ) (form : ℕ → State → State) → ((n : ℕ) → Tells d (form n)) → (step : Step) → Tells (suc (suc d)) (step_read form step)
step_tells d form tells (steps.Field octets views) s = field_tells (suc (suc d)) octets views.now s
step_tells d form tells (steps.All views) s = all_left_tells (suc (suc d)) views.now s
step_tells d form tells (steps.Keep octets) s = keep_tells (suc (suc d)) octets s
step_tells d form tells steps.May s = may_tells (suc (suc d)) s
step_tells d form tells (steps.Choose b cases) s = case_tells d form tells (chosen cases.now (bits b s.kept)) s
step_tells d form tells (steps.Each list name n) s = listed_tells d form tells true (length s.octets) list.now name.now n s
step_tells d form tells (steps.Times b list name n) s = listed_tells d form tells false (bits b s.kept) list.now name.now n s
step_tells d form tells (steps.Sized octets less n) s = sized_tells d form tells octets less n s

stepped_tells : (d : ℕ) (form : ℕ → State → State) → ((n : ℕ) → Tells d (form n)) → (step : Step) → Tells (suc (suc d)) (stepped form step)
unfolding stepped
stepped_tells d form tells step s =
    either (suc (suc d)) (is_going s.mode) s.events (step_read form step s) s (step_tells d form tells step s) (nothing (suc (suc d)) s.events)

steps_tell : (d : ℕ) (form : ℕ → State → State) → ((n : ℕ) → Tells d (form n)) → (all : List Step) → Tells (suc (suc d)) (all_steps form all)
steps_tell d form tells [] s = nothing (suc (suc d)) s.events
steps_tell d form tells (step ∷ others) s =
    both (suc (suc d)) s.events (stepped form step s).events (all_steps form others (stepped form step s)).events (stepped_tells d form tells step s)
    (steps_tell d form tells others (stepped form step s))

-- each form in which others stand adds a list and an item
abbrev reach : ℕ → ℕ
reach zero = 0
reach (suc depth) = suc (suc (reach depth))

reads_tell : (forms : Tables) (depth n : ℕ) → Tells (reach depth) (reads forms depth n)
unfolding reads
reads_tell forms zero n s = nothing 0 s.events
reads_tell forms (suc depth) n s = steps_tell (reach depth) (λ m t. reads forms depth m t) (λ m t. reads_tell forms depth m t) (form_at forms n) s

pub are_members : AreMembers
are_members forms n body =
    let read = reads forms deepest n (begun body) in
    both 16 [] read.events (closed read).events (reads_tell forms deepest n (begun body)) (closed_tells 16 read)

-- ---- as one object

read_back : (ts : List Token) (ms : List (List ℕ × Json)) → ts ≡ written ms → Within 16 ms → value max_depth (bracketed ts) ≡ Some (object (members_of ms), [])
read_back ts ms is within =
    let shallow = object_within 16 ms within in
    let tokens : bracketed ts ≡ json_tokens (object (members_of ms)) ++ [] =
    ap bracketed is ∙ (ap (λ (us : List Token). Token.begin_object ∷ us) (sym (members_are ms)) ∙ sym (append-nil (json_tokens (object (members_of ms))))) in
    ap (value max_depth) tokens ∙ value-json_tokens (object (members_of ms)) max_depth [] (omega (arith, shallow))

pub is_object : IsObject
unfolding told_json
is_object forms n body =
    let told = told_by forms n body in
    let m = are_members forms n body in
    let found_is : told_json told ≡ object (members_of m.0) = ap found (read_back (tokens_of told) m.0 m.1 m.2) in
    let tokens = ap json_tokens found_is ∙ (ap (λ (us : List Token). Token.begin_object ∷ us) (members_are m.0) ∙ ap bracketed (sym m.1)) in
    (tokens, subst (λ (j : Json). depth j ≤ 17) (sym found_is) (object_within 16 m.0 m.2))
