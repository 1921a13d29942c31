-- What tokens begin with, how deep what they say nests, and whether its numbers can be kept.
use Rattle.std.proofs.Common.{◌≡◌, ℕ, zero, suc, ◌+◌, ◌-◌, ◌<◌, ◌≤◌, max, List, [], ◌∷◌, ◌++◌, length, Bool, true, false, cond, ◌&&◌, Option, Some}
use Rattle.std.proofs.Common.{None, option_map, option_and_then, refl, sym, ap, subst, ◌∙◌, arith, append_assoc, length-append, le_refl}
use Rattle.std.specs.Prelude.{nat_le, nat_lt, unwrap_or, is_some}
use Rattle.std.proofs.lemmas.Bool.Decides.{nat_tests}
use Rattle.json.specs.Token.{Token}
use Rattle.json.specs.Json as json
use Rattle.json.specs.Json.{parse_map, after_end_array}
use Rattle.json.specs.Find.{BeginsWith, InItems}
use Rattle.json.specs.Tree.{json_tokens, items_tokens, members_tokens, depth, items_depth, members_depth}
use Rattle.json.proofs.Found.{items_close, items_go_on, items_need_tokens}
use Rattle.json.proofs.Grammar.{left, closed_array, items_end, items_more, skip_value-shorter}
use Rattle.json.proofs.Printed.Trees.{value-json_tokens}
use Rattle.json.proofs.Unique.Spelling.{value-json_tokens_back}
use Rattle.serde_json.specs.Read.{number_of, max_depth}
use Rattle.gtp_scenario.specs.Trees.{json_at, items_at, depth_after_all}

-- ---- the value at the head

mutual
  depth_short : (j : json.Json) → depth j ≤ length (json_tokens j)
  depth_short json.null = omega arith
  depth_short (json.boolean b) = omega arith
  depth_short (json.number s) = omega arith
  depth_short (json.string s) = omega arith
  depth_short (json.array js) = omega (arith, items_short js)
  depth_short (json.object ms) = omega (arith, members_short ms)

  items_short : (js : json.Items) → items_depth js ≤ length (items_tokens js)
  items_short json.no_items = omega arith
  items_short (json.item j js) = omega (arith, length-append (json_tokens j) (items_tokens js), depth_short j, items_short js)

  members_short : (ms : json.Members) → members_depth ms ≤ length (members_tokens ms)
  members_short json.no_members = omega arith
  members_short (json.member k j ms) = omega (arith, length-append (json_tokens j) (members_tokens ms), depth_short j, members_short ms)

-- as many levels as there are tokens are enough
deep_enough : (d e : ℕ) (ts r : List Token) (j : json.Json) → json.value d ts ≡ Some (j, r) → length ts ≤ e → json.value e ts ≡ Some (j, r)
deep_enough d e ts r j h long =
    let spelled = value-json_tokens_back d ts r j h in
    let few : depth j ≤ e = omega (arith, depth_short j, ap length spelled, length-append (json_tokens j) r) in
    ap (json.value e) spelled ∙ value-json_tokens j e r few

pub json_is : (ts : List Token) (j : json.Json) → BeginsWith ts j → json_at ts ≡ j
unfolding json_at
json_is ts j h = ap (λ o. unwrap_or (option_map (λ p. p.0) o) json.null) (deep_enough h.0 (length ts) ts h.1 j h.2 (le_refl _))

-- ---- the items at the head

abbrev read_items : ℕ → ℕ → List Token → Option json.Items
read_items e n ts = option_map (λ p. p.0) (json.items (json.value e) n ts)

first_and_others : (j : json.Json) (o : Option (json.Items × List Token)) (js : json.Items) → option_map (λ p. p.0) o ≡ Some js
    → option_map (λ p. p.0) (parse_map (json.item j) o) ≡ Some (json.item j js)
first_and_others j None js h = absurd cc
first_and_others j (Some p) js h = let same : p.0 ≡ js = cc in ap (λ x. Some (json.item j x)) same

item_turn : (e n : ℕ) (ts : List Token) (js : json.Items) → length ts ≤ e → length ts ≤ suc n → InItems ts js
    → ((us : List Token) (ks : json.Items) → length us ≤ e → length us ≤ n → InItems us ks → read_items e n us ≡ Some ks)
    → (o : Option (List Token)) → after_end_array ts ≡ o → read_items e (suc n) ts ≡ Some js
item_turn e n ts js deep long inside others (Some r) end =
    let empty : js ≡ json.no_items = items_close r js (subst (λ l. InItems l js) (closed_array ts r end) inside) in
    ap (option_map (λ p. p.0)) (items_end (json.value e) (suc n) ts r long end) ∙ ap Some (sym empty)
item_turn e n ts js deep long inside others None going =
    let f = items_go_on ts js going inside in
    let shorter : length f.2 < length ts = skip_value-shorter f.0 ts f.2 (ap left f.4) in
    let less : suc n - 1 ≡ n = omega arith in
    let rest : read_items e (suc n - 1) f.2 ≡ Some f.3 = ap (λ m. read_items e m f.2) less ∙ others f.2 f.3 (omega arith) (omega arith) f.6 in
    ap (option_map (λ p. p.0)) (items_more (json.value e) (suc n) ts f.2 f.1 (omega arith) going (deep_enough f.0 e ts f.2 f.1 f.4 deep))
    ∙ first_and_others f.1 _ f.3 rest ∙ ap Some (sym f.5)

same_items : (e n : ℕ) (ts : List Token) (js : json.Items) → length ts ≤ e → length ts ≤ n → InItems ts js → read_items e n ts ≡ Some js
same_items e zero [] js deep long inside = absurd (items_need_tokens js inside)
same_items e zero (t ∷ ts) js deep long inside = absurd (omega arith)
same_items e (suc n) ts js deep long inside = item_turn e n ts js deep long inside (λ us ks. same_items e n us ks) (after_end_array ts) refl

pub items_are : (ts : List Token) (js : json.Items) → InItems ts js → items_at ts ≡ js
unfolding items_at
items_are ts js inside = ap (λ o. unwrap_or o json.no_items) (same_items (length ts) (length ts) ts js (le_refl _) (le_refl _) inside)

-- ---- how deep tokens nest, and whether each of their numbers can be kept

-- each number is one that can be kept
abbrev mutual
  pub is_kept : json.Json → Bool
  is_kept json.null = true
  is_kept (json.boolean b) = true
  is_kept (json.number text) = is_some (number_of text)
  is_kept (json.string text) = true
  is_kept (json.array js) = are_items_kept js
  is_kept (json.object ms) = are_members_kept ms

  pub are_items_kept : json.Items → Bool
  are_items_kept json.no_items = true
  are_items_kept (json.item j js) = is_kept j && are_items_kept js

  pub are_members_kept : json.Members → Bool
  are_members_kept json.no_members = true
  are_members_kept (json.member k j ms) = is_kept j && are_members_kept ms

within_both : (n a b : ℕ) → nat_le (n + max a b) max_depth ≡ nat_le (n + a) max_depth && nat_le (n + b) max_depth
within_both n a b = grind (arith, nat_tests)

within_more : (n d : ℕ) → n < max_depth → nat_le (n + suc d) max_depth ≡ nat_le (n + 1 + d) max_depth
within_more n d h = let same : n + suc d ≡ n + 1 + d = omega arith in ap (λ k. nat_le k max_depth) same

within_none : (n d : ℕ) → max_depth ≤ n → nat_le (n + suc d) max_depth ≡ false
within_none n d h = grind (arith, nat_tests)

within_now : (n : ℕ) → n ≤ max_depth → nat_le (n + 0) max_depth ≡ true
within_now n h = grind (arith, nat_tests)

both : {A : Type 0} (a b c d : Bool) (x : Option A) → cond (a && b) (cond (c && d) x None) None ≡ cond ((a && c) && (b && d)) x None
both true true c d x = refl
both true false true d x = refl
both true false false d x = refl
both false b c d x = refl

abbrev is_within : ℕ → ℕ → Bool
is_within n d = nat_le (n + d) max_depth

-- a bracket that opens what nests so deep
opens : (n d : ℕ) (kept : Bool) (ts rest : List Token) → n ≤ max_depth → (n < max_depth → depth_after_all (n + 1) ts ≡ cond (is_within (n + 1) d && kept) (depth_after_all n rest) None)
    → option_and_then (λ m. depth_after_all m ts) (cond (nat_lt n max_depth) (Some (n + 1)) None) ≡ cond (is_within n (suc d) && kept) (depth_after_all n rest) None
opens n d kept ts rest small inside = by_room (nat_lt n max_depth) refl
  where
    by_room : (b : Bool) → nat_lt n max_depth ≡ b → option_and_then (λ m. depth_after_all m ts) (cond b (Some (n + 1)) None) ≡ cond (is_within n (suc d) && kept) (depth_after_all n rest) None
    by_room true h =
        let room : n < max_depth = grind (arith, nat_tests) in
        inside room ∙ ap (λ b. cond (b && kept) (depth_after_all n rest) None) (sym (within_more n d room))
    by_room false h =
        let full : max_depth ≤ n = grind (arith, nat_tests) in
        ap (λ b. cond (b && kept) (depth_after_all n rest) None) (sym (within_none n d full))

scalar : (n : ℕ) (kept : Bool) (rest : List Token) → n ≤ max_depth → cond kept (depth_after_all n rest) None ≡ cond (is_within n 0 && kept) (depth_after_all n rest) None
scalar n kept rest small = ap (λ b. cond (b && kept) (depth_after_all n rest) None) (sym (within_now n small))

chosen : {A B : Type 0} (f : A → Option B) (b : Bool) (x : A) → option_and_then f (cond b (Some x) None) ≡ cond b (f x) None
chosen f true x = refl
chosen f false x = refl

closes : (n : ℕ) (rest : List Token) → n ≤ max_depth → n + 1 ≤ max_depth → depth_after_all (n + 1 - 1) rest ≡ cond (is_within (n + 1) 0 && true) (depth_after_all n rest) None
closes n rest small more = let back : n + 1 - 1 ≡ n = omega arith in ap (λ m. depth_after_all m rest) back ∙ scalar_at n rest more
  where
    scalar_at : (n : ℕ) (rest : List Token) → n + 1 ≤ max_depth → depth_after_all n rest ≡ cond (is_within (n + 1) 0 && true) (depth_after_all n rest) None
    scalar_at n rest more = ap (λ b. cond (b && true) (depth_after_all n rest) None) (sym (within_now (n + 1) more))

mutual
  pub depth_json : (j : json.Json) (n : ℕ) (rest : List Token) → n ≤ max_depth → depth_after_all n (json_tokens j ++ rest) ≡ cond (is_within n (depth j) && is_kept j) (depth_after_all n rest) None
  depth_json json.null n rest small = scalar n true rest small
  depth_json (json.boolean b) n rest small = scalar n true rest small
  depth_json (json.number s) n rest small = chosen (λ m. depth_after_all m rest) (is_some (number_of s)) n ∙ scalar n (is_some (number_of s)) rest small
  depth_json (json.string s) n rest small = scalar n true rest small
  depth_json (json.array js) n rest small = opens n (items_depth js) (are_items_kept js) (items_tokens js ++ rest) rest small (λ room. depth_items js n rest small (omega arith))
  depth_json (json.object ms) n rest small = opens n (members_depth ms) (are_members_kept ms) (members_tokens ms ++ rest) rest small (λ room. depth_members ms n rest small (omega arith))

  depth_items : (js : json.Items) (n : ℕ) (rest : List Token) → n ≤ max_depth → n + 1 ≤ max_depth → depth_after_all (n + 1) (items_tokens js ++ rest)
      ≡ cond (is_within (n + 1) (items_depth js) && are_items_kept js) (depth_after_all n rest) None
  depth_items json.no_items n rest small more = closes n rest small more
  depth_items (json.item j js) n rest small more =
      ap (depth_after_all (n + 1)) (append_assoc (json_tokens j) (items_tokens js) rest)
      ∙ depth_json j (n + 1) (items_tokens js ++ rest) more
      ∙ ap (λ o. cond (is_within (n + 1) (depth j) && is_kept j) o None) (depth_items js n rest small more)
      ∙ both (is_within (n + 1) (depth j)) (is_kept j) (is_within (n + 1) (items_depth js)) (are_items_kept js) (depth_after_all n rest)
      ∙ ap (λ b. cond (b && (is_kept j && are_items_kept js)) (depth_after_all n rest) None) (sym (within_both (n + 1) (depth j) (items_depth js)))

  depth_members : (ms : json.Members) (n : ℕ) (rest : List Token) → n ≤ max_depth → n + 1 ≤ max_depth → depth_after_all (n + 1) (members_tokens ms ++ rest)
      ≡ cond (is_within (n + 1) (members_depth ms) && are_members_kept ms) (depth_after_all n rest) None
  depth_members json.no_members n rest small more = closes n rest small more
  depth_members (json.member k j ms) n rest small more =
      ap (depth_after_all (n + 1)) (append_assoc (json_tokens j) (members_tokens ms) rest)
      ∙ depth_json j (n + 1) (members_tokens ms ++ rest) more
      ∙ ap (λ o. cond (is_within (n + 1) (depth j) && is_kept j) o None) (depth_members ms n rest small more)
      ∙ both (is_within (n + 1) (depth j)) (is_kept j) (is_within (n + 1) (members_depth ms)) (are_members_kept ms) (depth_after_all n rest)
      ∙ ap (λ b. cond (b && (is_kept j && are_members_kept ms)) (depth_after_all n rest) None) (sym (within_both (n + 1) (depth j) (members_depth ms)))
