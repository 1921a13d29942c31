-- Tokens of JSON say what `serde_json` reads.
use Rattle.std.proofs.Common.{◌≡◌, Bor, ℕ, ◌+◌, ◌<◌, ◌≤◌, List, length, [], ◌∷◌, ◌++◌, Bool, true, false, cond, ◌&&◌, Option, Some, None, Result, Ok}
use Rattle.std.proofs.Common.{Err, IsErr, IsErrAnd, IsSome, MatchOption, option_map, option_and_then, Ordering, Less, Equal, Greater, bytes_eq}
use Rattle.std.proofs.Common.{true≢false, nat_cmp, refl, sym, ap, subst, ◌∙◌, arith, append-nil}
use Rattle.std.specs.Prelude.{is_some, unwrap_or, nat_le}
use Rattle.std.specs.Ordering.{match_ordering, is_eq}
use Rattle.std.specs.Cmp.Lexicographic.{slice_cmp}
use Rattle.std.proofs.lemmas.Bool.Decides.{nat_tests}
use Rattle.std.proofs.lemmas.Map.Text.{is_eq-slice_cmp}
use Rattle.std.proofs.lemmas.Slice.Eq.{bytes_eq-Decides}
use Rattle.json.specs.declared.error.Error.{Error}
use Rattle.json.specs.declared.error.Error.TheVariants as errors
use Rattle.json.specs.Json as json
use Rattle.json.specs.Find as find
use Rattle.json.specs.Find.{BeginsWith, HasValue, InItems, NextItem}
use Rattle.json.specs.Lex.{tokens}
use Rattle.json.specs.Token.{Token}
use Rattle.json.specs.Tree.{json_tokens, depth}
use Rattle.json.proofs.Found.{one_reading, document-BeginsWith, Some_inj}
use Rattle.json.proofs.Nesting.{value-depth}
use Rattle.json.proofs.Printed.Trees.{value-json_tokens}
use Rattle.json.proofs.Unique.Spelling.{value-json_tokens_back, tokens-document}
use Rattle.serde_json.specs.Data.{Num, Data, number, array, object, Items, item, Members, no_members, member, put}
use Rattle.serde_json.specs.Find.{get, get_member, as_str, as_number, as_array}
use Rattle.serde_json.specs.Read.{number_of, of_json, of_items, of_members, read, max_depth}
use Rattle.serde_json.proofs.Views.{get_member-put, get_member-put_other}
use Rattle.gtp_scenario.specs.declared.fault.Fault.{Fault}
use Rattle.gtp_scenario.specs.Steps.{IsNone, Gives, fault_for}
use Rattle.gtp_scenario.specs.Json.{is_among, all_among, has_only}
use Rattle.gtp_scenario.specs.Trees.{data_of, number_said, items_said, members_said, view, items_view, HasItems, unless_empty, depth_after_all}
use Rattle.gtp_scenario.proofs.Tokens.{is_kept, are_items_kept, are_members_kept, json_is, items_are, depth_json}

-- ---- the value of a key

abbrev first_of : Option Data → Option Data → Option Data
first_of (Some d) other = Some d
first_of None other = other

put_at : (key k : List ℕ) (j : json.Json) (found : Members) (b : Bool) → bytes_eq k key ≡ b
    → get_member key (put k (data_of j) found) ≡ first_of (option_map data_of (cond b (Some j) None)) (get_member key found)
put_at key k j found true h = subst (λ x. get_member x (put k (data_of j) found) ≡ Some (data_of j)) ((bytes_eq-Decides k key).0 h) (get_member-put k (data_of j) found)
put_at key k j found false h = get_member-put_other key k (data_of j) found (λ same. true≢false (sym ((bytes_eq-Decides k key).1 (sym same)) ∙ h))

one_more : (key k : List ℕ) (j : json.Json) (found : Members) (later : Option json.Json)
    → first_of (option_map data_of later) (get_member key (put k (data_of j) found)) ≡ first_of (option_map data_of (find.later_or later (cond (bytes_eq k key) (Some j) None))) (get_member key found)
one_more key k j found None = put_at key k j found (bytes_eq k key) refl
one_more key k j found (Some x) = refl

get_members : (key : List ℕ) (ms : json.Members) (found : Members) → get_member key (members_said ms found) ≡ first_of (option_map data_of (find.get_member key ms)) (get_member key found)
get_members key json.no_members found = refl
get_members key (json.member k j ms) found = get_members key ms (put k (data_of j) found) ∙ one_more key k j found (find.get_member key ms)

first_alone : (o : Option Data) → first_of o None ≡ o
first_alone None = refl
first_alone (Some d) = refl

pub get_said : (key : List ℕ) (j : json.Json) → option_map data_of (find.get key j) ≡ get key (data_of j)
get_said key json.null = refl
get_said key (json.boolean b) = refl
get_said key (json.number text) = refl
get_said key (json.string text) = refl
get_said key (json.array js) = refl
get_said key (json.object ms) = sym (get_members key ms no_members ∙ first_alone (option_map data_of (find.get_member key ms)))

get_at : (key : List ℕ) (ts : List Token) (has : HasValue ts) → option_map data_of (find.get key has.0) ≡ get key (view ts)
get_at key ts has = get_said key has.0 ∙ ap (λ j. get key (data_of j)) (sym (json_is ts has.0 has.1))

pub value_found : (key : List ℕ) (ts : List Token) (r : Option (List Token)) → HasValue ts → ((j : json.Json) → BeginsWith ts j → find.Finds r (find.get key j)) → option_map view r ≡ get key (view ts)
value_found key ts None has found = sym (ap (option_map data_of) (found has.0 has.1)) ∙ get_at key ts has
value_found key ts (Some us) has found =
    let f = found has.0 has.1 in
    ap (λ j. Some (data_of j)) (json_is us f.0 f.2) ∙ sym (ap (option_map data_of) f.1) ∙ get_at key ts has

-- ---- the keys of an object

and_twice : (a b : Bool) → a && b ≡ a && (a && b)
and_twice true b = refl
and_twice false b = refl

and_turned : (a b c : Bool) → a && (b && c) ≡ b && (a && c)
and_turned true b c = refl
and_turned false true c = refl
and_turned false false c = refl

put_among_at : (keys : List (List ℕ)) (k l : List ℕ) (d e : Data) (ms : Members) (o : Ordering) → slice_cmp nat_cmp k l ≡ o → all_among keys (put k d ms) ≡ is_among keys k && all_among keys ms
    → all_among keys (match_ordering o (member k d (member l e ms)) (member l d ms) (member l e (put k d ms))) ≡ is_among keys k && (is_among keys l && all_among keys ms)
put_among_at keys k l d e ms Less is later = refl
put_among_at keys k l d e ms Equal is later =
    let same : k ≡ l = (bytes_eq-Decides k l).0 (sym (is_eq-slice_cmp k l) ∙ ap is_eq is) in
    subst (λ x. is_among keys l && all_among keys ms ≡ is_among keys x && (is_among keys l && all_among keys ms)) (sym same) (and_twice (is_among keys l) (all_among keys ms))
put_among_at keys k l d e ms Greater is later = ap (λ b. is_among keys l && b) later ∙ and_turned (is_among keys l) (is_among keys k) (all_among keys ms)

put_among : (keys : List (List ℕ)) (k : List ℕ) (d : Data) (ms : Members) → all_among keys (put k d ms) ≡ is_among keys k && all_among keys ms
put_among keys k d no_members = refl
put_among keys k d (member l e ms) = put_among_at keys k l d e ms (slice_cmp nat_cmp k l) refl (put_among keys k d ms)

and_nested : (a b c : Bool) → b && (a && c) ≡ (a && b) && c
and_nested true b c = refl
and_nested false true c = refl
and_nested false false c = refl

-- each key of the members is one of these
abbrev pub keys_among : List (List ℕ) → json.Members → Bool
keys_among keys json.no_members = true
keys_among keys (json.member k j ms) = is_among keys k && keys_among keys ms

among_said : (keys : List (List ℕ)) (ms : json.Members) (found : Members) → all_among keys (members_said ms found) ≡ keys_among keys ms && all_among keys found
among_said keys json.no_members found = refl
among_said keys (json.member k j ms) found =
    among_said keys ms (put k (data_of j) found)
    ∙ ap (λ b. keys_among keys ms && b) (put_among keys k (data_of j) found)
    ∙ and_nested (is_among keys k) (keys_among keys ms) (all_among keys found)

and_true : (b : Bool) → b && true ≡ b
and_true true = refl
and_true false = refl

pub keys_said : (keys : List (List ℕ)) (ms : json.Members) → keys_among keys ms ≡ all_among keys (members_said ms no_members)
keys_said keys ms = sym (among_said keys ms no_members ∙ and_true (keys_among keys ms))

not_object : (keys : List (List ℕ)) (j : json.Json) → find.as_object j ≡ None → false ≡ has_only keys (data_of j)
not_object keys json.null h = refl
not_object keys (json.boolean b) h = refl
not_object keys (json.number s) h = refl
not_object keys (json.string s) h = refl
not_object keys (json.array js) h = refl
not_object keys (json.object ms) h = absurd cc

pub no_keys : (keys : List (List ℕ)) (ts : List Token) → HasValue ts → ((j : json.Json) → BeginsWith ts j → find.as_object j ≡ None) → false ≡ has_only keys (view ts)
no_keys keys ts has none = not_object keys has.0 (none has.0 has.1) ∙ ap (λ j. has_only keys (data_of j)) (sym (json_is ts has.0 has.1))

pub keys_found : (keys : List (List ℕ)) (ts : List Token) (has : HasValue ts) (ms : json.Members) → has.0 ≡ json.object ms → all_among keys (members_said ms no_members) ≡ has_only keys (view ts)
keys_found keys ts has ms is = ap (λ j. has_only keys (data_of j)) (sym (json_is ts has.0 has.1 ∙ is))

-- ---- texts and numbers

pub text_found : (ts : List Token) (o : Option (List ℕ)) → HasValue ts → ((j : json.Json) → BeginsWith ts j → o ≡ find.as_str j) → o ≡ as_str (view ts)
text_found ts o has found = found has.0 has.1 ∙ same has.0 ∙ ap (λ j. as_str (data_of j)) (sym (json_is ts has.0 has.1))
  where
    same : (j : json.Json) → find.as_str j ≡ as_str (data_of j)
    same json.null = refl
    same (json.boolean b) = refl
    same (json.number s) = refl
    same (json.string s) = refl
    same (json.array js) = refl
    same (json.object ms) = refl

said_now : (r : Option (Bor (List ℕ))) → option_map (λ s. number_said s.now) r ≡ option_map number_said (option_map (λ s. s.now) r)
said_now None = refl
said_now (Some s) = refl

pub number_found : (ts : List Token) (r : Option (Bor (List ℕ))) → HasValue ts → ((j : json.Json) → BeginsWith ts j → option_map (λ s. s.now) r ≡ find.as_number j)
    → option_map (λ s. number_said s.now) r ≡ as_number (view ts)
number_found ts r has found = said_now r ∙ ap (option_map number_said) (found has.0 has.1) ∙ same has.0 ∙ ap (λ j. as_number (data_of j)) (sym (json_is ts has.0 has.1))
  where
    same : (j : json.Json) → option_map number_said (find.as_number j) ≡ as_number (data_of j)
    same json.null = refl
    same (json.boolean b) = refl
    same (json.number s) = refl
    same (json.string s) = refl
    same (json.array js) = refl
    same (json.object ms) = refl

-- ---- lists

no_list : (j : json.Json) → find.as_array j ≡ None → None ≡ as_array (data_of j)
no_list json.null h = refl
no_list (json.boolean b) h = refl
no_list (json.number s) h = refl
no_list (json.string s) h = refl
no_list (json.array js) h = absurd cc
no_list (json.object ms) h = refl

pub list_found : (ts : List Token) (r : Option (List Token)) → HasValue ts
    → ((j : json.Json) → BeginsWith ts j → MatchOption r (find.as_array j ≡ None) (λ us. (js : json.Items) × (j ≡ json.array js) × InItems us js))
    → option_map items_view r ≡ as_array (view ts)
list_found ts None has found = no_list has.0 (found has.0 has.1) ∙ ap (λ j. as_array (data_of j)) (sym (json_is ts has.0 has.1))
list_found ts (Some us) has found =
    let f = found has.0 has.1 in
    ap (λ js. Some (items_said js)) (items_are us f.0 f.2) ∙ ap (λ j. as_array (data_of j)) (sym (json_is ts has.0 has.1 ∙ f.1))

pub next_found : (old new : List Token) (r : Option (List Token)) → HasItems old → NextItem old r new → items_view old ≡ unless_empty (option_map view r) (items_view new)
next_found old new None has next = ap items_said (items_are old has.0 has.1 ∙ next has.0 has.1)
next_found old new (Some ts) has next =
    let f = next has.0 has.1 in
    ap items_said (items_are old has.0 has.1 ∙ f.2) ∙ rw (json_is ts f.0 f.3, items_are new f.1 f.4) refl

-- ---- whole texts

number_kept : (o : Option Num) (other : Num) → option_map number o ≡ cond (is_some o) (Some (number (unwrap_or o other))) None
number_kept None other = refl
number_kept (Some n) other = refl

mapped : {A B : Type 0} (f : A → B) (b : Bool) (x : A) → option_map f (cond b (Some x) None) ≡ cond b (Some (f x)) None
mapped f true x = refl
mapped f false x = refl

both_kept : (a b : Bool) (d : Data) (ds : Items) → option_and_then (λ x. option_map (item x) (cond b (Some ds) None)) (cond a (Some d) None) ≡ cond (a && b) (Some (item d ds)) None
both_kept true true d ds = refl
both_kept true false d ds = refl
both_kept false b d ds = refl

member_kept : (a b : Bool) (d : Data) (all : Members) (more : Data → Option Members) → more d ≡ cond b (Some all) None → option_and_then more (cond a (Some d) None) ≡ cond (a && b) (Some all) None
member_kept true b d all more is = is
member_kept false b d all more is = refl

mutual
  json_kept : (j : json.Json) → of_json j ≡ cond (is_kept j) (Some (data_of j)) None
  json_kept json.null = refl
  json_kept (json.boolean b) = refl
  json_kept (json.number text) = number_kept (number_of text) _
  json_kept (json.string text) = refl
  json_kept (json.array js) = ap (option_map array) (items_kept js) ∙ mapped array (are_items_kept js) (items_said js)
  json_kept (json.object ms) = ap (option_map object) (members_kept ms no_members) ∙ mapped object (are_members_kept ms) (members_said ms no_members)

  items_kept : (js : json.Items) → of_items js ≡ cond (are_items_kept js) (Some (items_said js)) None
  items_kept json.no_items = refl
  items_kept (json.item j js) = rw (json_kept j, items_kept js) (both_kept (is_kept j) (are_items_kept js) (data_of j) (items_said js))

  members_kept : (ms : json.Members) (found : Members) → of_members ms found ≡ cond (are_members_kept ms) (Some (members_said ms found)) None
  members_kept json.no_members found = refl
  members_kept (json.member k j ms) found =
      rw (json_kept j)
      (member_kept (is_kept j) (are_members_kept ms) (data_of j) (members_said ms (put k (data_of j) found)) (λ d. of_members ms (put k d found))
      (members_kept ms (put k (data_of j) found)))

-- what is read of a text, by the value that it is
abbrev said_of : json.Json → Option Data
said_of j = cond (nat_le (0 + depth j) max_depth && is_kept j) (Some (data_of j)) None

no_value : (text : List ℕ) (o : Option (json.Json × List Token)) → json.value max_depth (tokens text) ≡ o → json.document text ≡ None
    → option_and_then of_json (option_and_then (λ p. json.if_last p.0 p.1) o) ≡ None
no_value text None h none = refl
no_value text (Some (j, t ∷ ts)) h none = refl
no_value text (Some (j, [])) h none =
    let shallow = value-depth max_depth (tokens text) [] j h in
    let again : json.value json.max_depth (tokens text) ≡ Some (j, []) =
    ap (json.value json.max_depth) (value-json_tokens_back max_depth (tokens text) [] j h) ∙ value-json_tokens j json.max_depth [] (omega arith) in
    let whole : json.document text ≡ Some j = ap (option_and_then (λ p. json.if_last p.0 p.1)) again in
    absurd cc

too_deep : (text : List ℕ) (j : json.Json) (o : Option (json.Json × List Token)) → json.value max_depth (tokens text) ≡ o → json.document text ≡ Some j → max_depth < depth j
    → option_and_then of_json (option_and_then (λ p. json.if_last p.0 p.1) o) ≡ None
too_deep text j None h whole below = refl
too_deep text j (Some (i, r)) h whole below =
    let begins = document-BeginsWith text j whole in
    let same : i ≡ j = ap (λ p. p.0) (Some_inj _ _ (one_reading max_depth begins.0 (tokens text) (i, r) (j, begins.1) h begins.2)) in
    absurd (omega (arith, value-depth max_depth (tokens text) r i h, ap depth same))

read_whole : (text : List ℕ) (j : json.Json) → json.document text ≡ Some j → read text ≡ said_of j
read_whole text j whole = by_depth (nat_le (0 + depth j) max_depth) refl
  where
    by_depth : (b : Bool) → nat_le (0 + depth j) max_depth ≡ b → read text ≡ cond (b && is_kept j) (Some (data_of j)) None
    by_depth true h =
        let spelled : tokens text ≡ json_tokens j ++ [] = tokens-document text j whole ∙ sym (append-nil (json_tokens j)) in
        let value : json.value max_depth (tokens text) ≡ Some (j, []) = ap (json.value max_depth) spelled ∙ value-json_tokens j max_depth [] (grind (arith, nat_tests)) in
        ap (λ o. option_and_then of_json (option_and_then (λ p. json.if_last p.0 p.1) o)) value ∙ json_kept j
    by_depth false h = too_deep text j (json.value max_depth (tokens text)) refl whole (grind (arith, nat_tests))

is_not_read : (text : List ℕ) → json.document text ≡ None → read text ≡ None
is_not_read text none = no_value text (json.value max_depth (tokens text)) refl none

-- a text that is not too long is refused only if it is no JSON
pub is_refused : (text : List ℕ) (error : Error) → (error ≡ errors.Invalid → json.document text ≡ None) → (error ≡ errors.TooLong → 4294967040 < length text)
    → (error ≡ errors.DuplicateKey → ⊥) → length text ≤ 16777216
    → IsNone (fault_for error) (read text)
is_refused text errors.OutOfMemory invalid long twice short = tt
is_refused text errors.Invalid invalid long twice short = is_not_read text (invalid refl)
is_refused text errors.TooLong invalid long twice short = let past : 4294967040 < length text = long refl in absurd (omega arith)
is_refused text errors.DuplicateKey invalid long twice short = absurd (twice refl)

pub has_fault : {X Y : Type 0} (view : X → Y) (r : Result X Fault) (fault : Fault) (reading : Option Y) → IsErr r → IsErrAnd r (λ e. e ≡ fault) → IsNone fault reading → Gives view r reading
has_fault view (Ok x) fault reading err is none = absurd cc
has_fault view (Err e) fault reading err is none = subst (λ f. IsNone f reading) (sym is) none

-- how deep the whole text nests at its end
depth_at_end : (text : List ℕ) (j : json.Json) → json.document text ≡ Some j → depth_after_all 0 (tokens text) ≡ cond (nat_le (0 + depth j) max_depth && is_kept j) (Some 0) None
depth_at_end text j whole =
    ap (depth_after_all 0) (tokens-document text j whole ∙ sym (append-nil (json_tokens j))) ∙ depth_json j 0 [] (omega arith)

is_read_where : (b : Bool) (d : Data) (n m : ℕ) → Some n ≡ cond b (Some m) None → cond b (Some d) None ≡ Some d
is_read_where true d n m h = refl
is_read_where false d n m h = absurd cc

pub is_read : (text : List ℕ) (n : ℕ) → IsSome (json.document text) → Some n ≡ depth_after_all 0 (tokens text) → read text ≡ Some (view (tokens text))
is_read text n some kept = by_whole (json.document text) refl some
  where
    by_whole : (o : Option json.Json) → json.document text ≡ o → IsSome o → read text ≡ Some (view (tokens text))
    by_whole None whole some = absurd cc
    by_whole (Some j) whole some =
        read_whole text j whole
        ∙ is_read_where _ (data_of j) n 0 (kept ∙ depth_at_end text j whole)
        ∙ ap (λ i. Some (data_of i)) (sym (json_is (tokens text) j (document-BeginsWith text j whole)))

is_refused_where : (b : Bool) (d : Data) (m : ℕ) → None ≡ cond b (Some m) None → cond b (Some d) None ≡ None
is_refused_where true d m h = absurd cc
is_refused_where false d m h = refl

pub is_not_kept : (text : List ℕ) → IsSome (json.document text) → None ≡ depth_after_all 0 (tokens text) → read text ≡ None
is_not_kept text some refused = by_whole (json.document text) refl some
  where
    by_whole : (o : Option json.Json) → json.document text ≡ o → IsSome o → read text ≡ None
    by_whole None whole some = absurd cc
    by_whole (Some j) whole some = read_whole text j whole ∙ is_refused_where _ (data_of j) 0 (refused ∙ depth_at_end text j whole)
