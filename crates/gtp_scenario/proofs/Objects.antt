-- What is found at the keys of an object.
use Rattle.std.proofs.Common.{◌≡◌, Bor, ℕ, List, [], ◌∷◌, map, Bool, true, false, cond, Option, Some, None, MatchOption, option_map, bytes_eq, refl}
use Rattle.std.proofs.Common.{sym, ap, subst, ◌∙◌, ◌&&◌, ◌+◌, ◌-◌, ◌≤◌, suc, arith}
use Rattle.std.specs.Prelude.{codes, is_some, find, not}
use Rattle.std.specs.Option.{option_map_or}
use Rattle.std.proofs.lemmas.Slice.Eq.{bytes_eq-Decides}
use Rattle.json.specs.Json as json
use Rattle.json.specs.Find as finds
use Rattle.json.specs.Find.{BeginsWith, HasValue, InMembers}
use Rattle.json.specs.Token.{Token}
use Rattle.std.specs.List.{list_all}
use Rattle.serde_json.specs.Data.{Data, Items, no_items, item, no_members}
use Rattle.serde_json.specs.Find.{get, get_item, get_member, as_str, as_object}
use Rattle.gtp_scenario.specs.declared.reason.key.Key.{Key}
use Rattle.gtp_scenario.specs.declared.reason.key.Key.TheVariants as keys
use Rattle.gtp_scenario.specs.declared.reason.wanted.Wanted.TheVariants as wanted
use Rattle.gtp_scenario.specs.Steps.{◌>>=◌}
use Rattle.gtp_scenario.specs.Json.{is_among, all_among, has_only}
use Rattle.gtp_scenario.specs.Events.{role_of}
use Rattle.gtp_scenario.specs.Keys.{key_text, is_good_text, may_be_absent, is_met, is_met_by, is_unmet}
use Rattle.gtp_scenario.specs.Reasons.{IsUnknown, IsMissing, IsBad, fits}
use Rattle.gtp_scenario.specs.Trees.{data_of, members_said, view, unless_empty}
use Rattle.gtp_scenario.proofs.Tokens.{json_is}
use Rattle.gtp_scenario.proofs.Trees.{get_said}
use Rattle.gtp_scenario.proofs.Whole.{by_text}

-- ---- objects

no_object : (j : json.Json) → finds.as_object j ≡ None → false ≡ is_some (as_object (data_of j))
no_object json.null h = refl
no_object (json.boolean b) h = refl
no_object (json.number s) h = refl
no_object (json.string s) h = refl
no_object (json.array js) h = refl
no_object (json.object ms) h = absurd cc

pub object_found : (ts : List Token) (r : Option (List Token)) → HasValue ts → ((j : json.Json) → BeginsWith ts j
    → MatchOption r (finds.as_object j ≡ None) (λ us. (ms : json.Members) × (j ≡ json.object ms) × InMembers us ms))
    → is_some r ≡ is_some (as_object (view ts))
object_found ts None has found = no_object has.0 (found has.0 has.1) ∙ ap (λ j. is_some (as_object (data_of j))) (sym (json_is ts has.0 has.1))
object_found ts (Some us) has found =
    let f = found has.0 has.1 in
    ap (λ j. is_some (as_object (data_of j))) (sym (json_is ts has.0 has.1 ∙ f.1))

-- ---- members

-- some member has this name
abbrev pub has_name : List ℕ → json.Members → Bool
has_name text ms = is_some (finds.get_member text ms)

named_by : (o : Option json.Json) (j : json.Json) (b : Bool) → b ≡ true → is_some (finds.later_or o (cond b (Some j) None)) ≡ true
named_by None j b is = rw is refl
named_by (Some i) j b is = refl

pub named_first : (text : List ℕ) (j : json.Json) (ms : json.Members) → has_name text (json.member text j ms) ≡ true
named_first text j ms = named_by (finds.get_member text ms) j (bytes_eq text text) ((bytes_eq-Decides text text).1 refl)

named_then : (o other : Option json.Json) → is_some o ≡ true → is_some (finds.later_or o other) ≡ true
named_then None other h = absurd cc
named_then (Some j) other h = refl

pub named_later : (text k : List ℕ) (j : json.Json) (ms : json.Members) → has_name text ms ≡ true → has_name text (json.member k j ms) ≡ true
named_later text k j ms h = named_then (finds.get_member text ms) (cond (bytes_eq k text) (Some j) None) h

seen : (o : Option json.Json) → is_some o ≡ true → is_some (option_map data_of o) ≡ true
seen None h = h
seen (Some j) h = refl

pub named_said : (text : List ℕ) (ms : json.Members) → has_name text ms ≡ true → is_some (get_member text (members_said ms no_members)) ≡ true
named_said text ms h = sym (ap is_some (get_said text (json.object ms))) ∙ seen (finds.get_member text ms) h

-- what is told of the members is told of the object
abbrev pub TellsOf : List Key → Data → Option (Bor (List ℕ)) → Type 0
TellsOf known d r = MatchOption r (is_some (as_object d) ≡ true → has_only (map key_text known) d ≡ true) (λ text. IsUnknown known d text.now)

pub unknown_found : (known : List Key) (ts : List Token) (has : HasValue ts) (ms : json.Members) (r : Option (Bor (List ℕ))) → has.0 ≡ json.object ms
    → MatchOption r (all_among (map key_text known) (members_said ms no_members) ≡ true)
    (λ text. (is_some (get_member text.now (members_said ms no_members)) ≡ true) × (is_among (map key_text known) text.now ≡ false))
    → TellsOf known (view ts) r
unknown_found known ts has ms r is told = subst (λ d. TellsOf known d r) (sym (ap data_of (json_is ts has.0 has.1 ∙ is))) (at r told)
  where
    at : (r : Option (Bor (List ℕ))) → MatchOption r (all_among (map key_text known) (members_said ms no_members) ≡ true)
        (λ text. (is_some (get_member text.now (members_said ms no_members)) ≡ true) × (is_among (map key_text known) text.now ≡ false))
        → TellsOf known (data_of (json.object ms)) r
    at None h = λ _. h
    at (Some text) h = record { there = h.0; unknown = h.1 }

-- ---- keys at fault

at_first : {X : Type 0} (p : X → Bool) (x y : X) (xs : List X) (b : Bool) → p x ≡ b → (find p xs ≡ Some y → p y ≡ true) → cond b (Some x) (find p xs) ≡ Some y → p y ≡ true
at_first p x y xs true is later h = let same : x ≡ y = cc in subst (λ z. p z ≡ true) same is
at_first p x y xs false is later h = later h

pub found_holds : {X : Type 0} (p : X → Bool) (xs : List X) (y : X) → find p xs ≡ Some y → p y ≡ true
found_holds p [] y h = absurd cc
found_holds p (x ∷ xs) y h = at_first p x y xs (p x) refl (found_holds p xs y) h

denied : (b : Bool) → not b ≡ true → b ≡ false
denied true h = absurd cc
denied false h = refl

unmet : (known : List Key) (d : Data) (key : Key) → find (is_unmet d) known ≡ Some key → is_met d key ≡ false
unmet known d key first = denied (is_met d key) (found_holds (is_unmet d) known key first)

pub is_bad : (known : List Key) (d : Data) (key : Key) → find (is_unmet d) known ≡ Some key → is_some (get (key_text key) d) ≡ true → IsBad d key
is_bad known d key first some = by (get (key_text key) d) refl (unmet known d key first) some
  where
    by : (o : Option Data) → get (key_text key) d ≡ o → is_met_by d key o ≡ false → is_some o ≡ true → IsBad d key
    by None is unmet some = absurd cc
    by (Some v) is unmet some = record { value = v; there = is; bad = unmet }

pub is_missing : (known : List Key) (d : Data) (key : Key) → find (is_unmet d) known ≡ Some key → is_some (get (key_text key) d) ≡ false → IsMissing d key
is_missing known d key first none = by (get (key_text key) d) refl (unmet known d key first) none
  where
    by : (o : Option Data) → get (key_text key) d ≡ o → is_met_by d key o ≡ false → is_some o ≡ false → IsMissing d key
    by None is unmet none = record { absent = is; needed = unmet }
    by (Some v) is unmet none = absurd cc

all_met : (known : List Key) (d : Data) → find (is_unmet d) known ≡ None → list_all (is_met d) known ≡ true
all_met [] d none = refl
all_met (key ∷ known) d none = by (is_met d key) refl none (all_met known d)
  where
    by : (b : Bool) → is_met d key ≡ b → cond (not b) (Some key) (find (is_unmet d) known) ≡ None
        → (find (is_unmet d) known ≡ None → list_all (is_met d) known ≡ true) → is_met d key && list_all (is_met d) known ≡ true
    by true is none later = rw is (later none)
    by false is none later = absurd cc

-- nothing is wrong where none of the three looks finds anything
pub fits_where : (known : List Key) (d : Data) → is_some (as_object d) ≡ true → (is_some (as_object d) ≡ true → has_only (map key_text known) d ≡ true)
    → find (is_unmet d) known ≡ None → fits known d ≡ true
fits_where known d object only none = rw (only object) (all_met known d none)

-- ---- a key whose value says nothing

pub bad_word : (d : Data) → (get (codes "do") d >>= as_str) ≡ None → is_some (get (codes "do") d) ≡ true → IsBad d keys.Do
bad_word d none some = by (get (codes "do") d) refl none some
  where
    by : (o : Option Data) → get (codes "do") d ≡ o → (o >>= as_str) ≡ None → is_some o ≡ true → IsBad d keys.Do
    by None is none some = absurd cc
    by (Some v) is none some = record { value = v; there = is; bad = ap (λ o. option_map_or (is_good_text wanted.Text) o false) none }

pub bad_role : (d : Data) → ((get (codes "role") d >>= as_str) >>= role_of) ≡ None → is_some (get (codes "role") d) ≡ true → IsBad d keys.Role
bad_role d none some = by (get (codes "role") d) refl none some
  where
    by : (o : Option Data) → get (codes "role") d ≡ o → ((o >>= as_str) >>= role_of) ≡ None → is_some o ≡ true → IsBad d keys.Role
    by None is none some = absurd cc
    by (Some v) is none some = record { value = v; there = is; bad = by_text role_of (as_str v) ∙ ap is_some none }

pub no_word : (key : Key) (d : Data) → may_be_absent d key ≡ false → is_some (get (key_text key) d) ≡ false → IsMissing d key
no_word key d never none = by (get (key_text key) d) refl none
  where
    by : (o : Option Data) → get (key_text key) d ≡ o → is_some o ≡ false → IsMissing d key
    by None is none = record { absent = is; needed = never }
    by (Some v) is none = absurd cc

-- ---- options

pub at_none : {A : Type 0} (o : Option A) (P : Type 0) (Q : A → Type 0) → MatchOption o P Q → o ≡ None → P
at_none o P Q h is = subst (λ r. MatchOption r P Q) is h

pub at_some : {A : Type 0} (o : Option A) (x : A) (P : Type 0) (Q : A → Type 0) → MatchOption o P Q → o ≡ Some x → Q x
at_some o x P Q h is = subst (λ r. MatchOption r P Q) is h

-- ---- items at a place

pub here : (place : ℕ) (all left rest : Items) (d : Data) → ((k : ℕ) → get_item (place + k) all ≡ get_item k left) → left ≡ item d rest → get_item place all ≡ Some d
here place all left rest d at is = ap (λ n. get_item n all) (let e : place ≡ place + 0 = omega arith in e) ∙ at 0 ∙ ap (get_item 0) is

pub next_place : (place : ℕ) (all left rest : Items) (d : Data) → ((k : ℕ) → get_item (place + k) all ≡ get_item k left) → left ≡ item d rest → (k : ℕ) → get_item (place + 1 + k) all ≡ get_item k rest
next_place place all left rest d at is k = ap (λ n. get_item n all) (let e : place + 1 + k ≡ place + suc k = omega arith in e) ∙ at (suc k) ∙ ap (get_item (suc k)) is

pub gone : (place counter : ℕ) (all left : Items) → ((k : ℕ) → get_item (counter + k) all ≡ get_item k left) → counter ≤ place → left ≡ no_items → get_item place all ≡ None
gone place counter all left at small is = ap (λ n. get_item n all) (let e : place ≡ counter + (place - counter) = omega arith in e) ∙ at (place - counter) ∙ ap (get_item (place - counter)) is

first_item : (o : Option Data) (rest : Items) → get_item 0 (unless_empty o rest) ≡ o
first_item None rest = refl
first_item (Some d) rest = refl

pub last_place : (place counter : ℕ) (all left rest : Items) (o : Option Data) → ((k : ℕ) → get_item (counter + k) all ≡ get_item k left) → counter ≡ place
    → left ≡ unless_empty o rest → o ≡ get_item place all
last_place place counter all left rest o at same is = sym (ap (λ n. get_item n all) (let e : place ≡ counter + 0 = omega arith in e) ∙ at 0 ∙ ap (get_item 0) is ∙ first_item o rest)
