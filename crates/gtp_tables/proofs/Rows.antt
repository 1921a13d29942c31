-- Rows in order of their keys, read as a finite map.
use Rattle.std.proofs.Common.{◌≡◌, ℕ, ◌<◌, Bool, true, false, cond, List, [], ◌∷◌, ◌++◌, map, Some, None, refl, sym, ◌∙◌, ap, subst, nat_eq, T, arith}
use Rattle.std.specs.Prelude.{◌&&◌, IsSome, filter}
use Rattle.std.specs.Map.{lookup, set_value, remove_entry}
use Rattle.std.specs.FinMap.{find, get, insert, remove, entries, from_entries, from_sorted, is_sorted, from_entries_push, get-from_entries}
use Rattle.std.specs.FinMap.{get-from_sorted, entries-from_sorted, get-insert, get-remove, same_map, nat_cmp-IsAntisymmetric}
use Rattle.std.specs.Ordering.{nat_cmp, is_eq, is_lt}
use Rattle.std.specs.Cmp.{nat_cmp_total}
use Rattle.std.proofs.lemmas.Bool.Decides.{nat_tests}
use Rattle.std.specs.FinMap.Entries.{below_all}
use Rattle.gtp_values.specs.FiniteMap.{FiniteMap, with_value}

-- ---- rows as a map

pub tied : (a b : ℕ) → is_eq (nat_cmp a b) ≡ nat_eq a b
tied a b = grind (arith, nat_tests)

pub turned : (a b : ℕ) → is_eq (nat_cmp a b) ≡ nat_eq b a
turned a b = grind (arith, nat_tests)

pub find_row : {X : Type 0} (rows : List (ℕ × X)) (q : ℕ) → find nat_cmp q rows ≡ lookup (nat_eq q) rows
find_row [] q = refl
find_row (e ∷ es) q = (λ i. cond (tied q e.0 i) (Some e.1) (find_row es q i))

pub get_row : {X : Type 0} (rows : List (ℕ × X)) (q : ℕ) → get (from_entries {R = nat_cmp} rows) q ≡ lookup (nat_eq q) rows
get_row rows q = get-from_entries nat_cmp_total rows q ∙ find_row rows q

-- rows that have what the map has, key by key, are the map
pub same_rows : {X : Type 0} (rows : List (ℕ × X)) (m : FiniteMap X) → ((q : ℕ) → lookup (nat_eq q) rows ≡ get m q) → from_entries rows ≡ m
same_rows rows m same = same_map nat_cmp_total nat_cmp-IsAntisymmetric (from_entries rows) m (λ q. get_row rows q ∙ same q)

-- rows in order are listed as they stand
pub listed : {X : Type 0} (rows : List (ℕ × X)) → T (is_sorted nat_cmp rows) → entries (from_entries {R = nat_cmp} rows) ≡ rows
listed rows up =
    ap entries (same_map nat_cmp_total nat_cmp-IsAntisymmetric (from_entries rows) (from_sorted rows) (λ q. get-from_entries nat_cmp_total rows q ∙ sym (get-from_sorted nat_cmp rows q up)))
    ∙ entries-from_sorted nat_cmp rows up

-- ---- a change, key by key

pub table_insert : {X : Type 0} (old new : List (ℕ × X)) (k : ℕ) (x : X) → ((q : ℕ) → lookup (nat_eq q) new ≡ cond (nat_eq k q) (Some x) (lookup (nat_eq q) old))
    → from_entries {R = nat_cmp} new ≡ insert (from_entries old) k x
table_insert old new k x updates =
    same_rows new (insert (from_entries old) k x)
    (λ q. updates q ∙ sym (get-insert nat_cmp_total (from_entries old) k x q ∙ (λ i. cond (turned q k i) (Some x) (get_row old q i))))

pub table_remove : {X : Type 0} (old new : List (ℕ × X)) (k : ℕ) → ((q : ℕ) → lookup (nat_eq q) new ≡ cond (nat_eq k q) None (lookup (nat_eq q) old))
    → from_entries {R = nat_cmp} new ≡ remove (from_entries old) k
table_remove old new k updates =
    same_rows new (remove (from_entries old) k)
    (λ q. updates q ∙ sym (get-remove nat_cmp_total (from_entries old) k q ∙ (λ i. cond (turned q k i) None (get_row old q i))))

pub table_push : {X : Type 0} (rows : List (ℕ × X)) (k : ℕ) (x : X) → lookup (nat_eq k) rows ≡ None → from_entries {R = nat_cmp} (rows ++ (k, x) ∷ []) ≡ insert (from_entries rows) k x
table_push rows k x none = from_entries_push nat_cmp_total nat_cmp-IsAntisymmetric rows k x (find_row rows k ∙ none)

pub lookup_set : {X : Type 0} (rows : List (ℕ × X)) (k : ℕ) (x : X) (q : ℕ) → IsSome (lookup (nat_eq k) rows)
    → lookup (nat_eq q) (set_value (nat_eq k) rows x) ≡ cond (nat_eq k q) (Some x) (lookup (nat_eq q) rows)
lookup_set [] k x q there = absurd cc
lookup_set {X} (e ∷ es) k x q there = by (nat_eq k e.0) (nat_eq q e.0) (nat_eq k q) refl refl refl there (lookup_set es k x q)
  where
    by : (a b c : Bool) → nat_eq k e.0 ≡ a → nat_eq q e.0 ≡ b → nat_eq k q ≡ c → IsSome (cond a (Some e.1) (lookup (nat_eq k) es))
        → (IsSome (lookup (nat_eq k) es) → lookup (nat_eq q) (set_value (nat_eq k) es x) ≡ cond (nat_eq k q) (Some x) (lookup (nat_eq q) es))
        → lookup (nat_eq q) (cond a ((e.0, x) ∷ es) (e ∷ set_value (nat_eq k) es x)) ≡ cond c (Some x) (cond b (Some e.1) (lookup (nat_eq q) es))
    by true true true ka qb kc h rest = rw qb refl
    by true true false ka qb kc h rest = absurd (grind (arith, nat_tests))
    by true false true ka qb kc h rest = absurd (grind (arith, nat_tests))
    by true false false ka qb kc h rest = rw qb refl
    by false true true ka qb kc h rest = absurd (grind (arith, nat_tests))
    by false true false ka qb kc h rest = rw qb refl
    by false false c ka qb kc h rest = rw qb (rest h ∙ ap (λ (t : Bool). cond t (Some x) (lookup (nat_eq q) es)) kc)

-- ---- the order of the keys

both : (a b : Bool) → T a → T b → T (a && b)
both true b p q = q
both false b p q = p

pub first : (a b : Bool) → T (a && b) → T a
first true b p = tt
first false b p = p

pub second : (a b : Bool) → T (a && b) → T b
second true b p = p
second false b p = absurd p

-- each key is below this one
abbrev pub KeysBelow : {X : Type 0} → ℕ → List (ℕ × X) → Type 0
KeysBelow key [] = Unit {0}
KeysBelow key (e ∷ es) = (e.0 < key) × KeysBelow key es

less : (a b : ℕ) → a < b → T (is_lt (nat_cmp a b))
less a b h = let is : is_lt (nat_cmp a b) ≡ true = grind (arith, nat_tests) in subst T (sym is) tt

pub keys_below : {X : Type 0} (key : ℕ) (rows : List (ℕ × X)) → ((k : ℕ) (x : X) → lookup (nat_eq k) rows ≡ Some x → k < key) → KeysBelow key rows
keys_below key [] each = tt
keys_below {X} key (e ∷ es) each = (head, keys_below key es (λ k x found. at k x found (nat_eq k e.0) refl))
  where
    head : e.0 < key
    head = let same : nat_eq e.0 e.0 ≡ true = grind (arith, nat_tests) in each e.0 e.1 (rw same refl)

    at : (k : ℕ) (x : X) → lookup (nat_eq k) es ≡ Some x → (b : Bool) → nat_eq k e.0 ≡ b → k < key
    at k x found true is = let same : k ≡ e.0 = grind (arith, nat_tests) in let below : e.0 < key = head in omega (arith, same, below)
    at k x found false is = each k x (rw is found)

pub none_above : {X : Type 0} (key : ℕ) (rows : List (ℕ × X)) → KeysBelow key rows → lookup (nat_eq key) rows ≡ None
none_above key [] below = refl
none_above key (e ∷ es) below = let other : nat_eq key e.0 ≡ false = grind (arith, nat_tests, below.0) in rw other (none_above key es below.1)

below_push : {X : Type 0} (x : ℕ) (rows : List (ℕ × X)) (e : ℕ × X) → T (below_all nat_cmp x rows) → x < e.0 → T (below_all nat_cmp x (rows ++ e ∷ []))
below_push x [] e h lt = both _ _ (less x e.0 lt) tt
below_push x (r ∷ rs) e h lt = both _ _ (first _ _ h) (below_push x rs e (second _ _ h) lt)

pub ascend_push : {X : Type 0} (rows : List (ℕ × X)) (e : ℕ × X) → T (is_sorted nat_cmp rows) → KeysBelow e.0 rows → T (is_sorted nat_cmp (rows ++ e ∷ []))
ascend_push [] e h below = tt
ascend_push (r ∷ rs) e h below = both _ _ (below_push r.0 rs e (first _ _ h) below.0) (ascend_push rs e (second _ _ h) below.1)

below_set : {X : Type 0} (x k : ℕ) (rows : List (ℕ × X)) (v : X) → T (below_all nat_cmp x rows) → T (below_all nat_cmp x (set_value (nat_eq k) rows v))
below_set x k [] v h = tt
below_set x k (r ∷ rs) v h =
    elim (nat_eq k r.0) as (λ b. T (below_all nat_cmp x (cond b ((r.0, v) ∷ rs) (r ∷ set_value (nat_eq k) rs v))))
    [ true ↦ h | false ↦ both _ _ (first _ _ h) (below_set x k rs v (second _ _ h)) ]

pub ascend_set : {X : Type 0} (k : ℕ) (rows : List (ℕ × X)) (v : X) → T (is_sorted nat_cmp rows) → T (is_sorted nat_cmp (set_value (nat_eq k) rows v))
ascend_set k [] v h = tt
ascend_set k (r ∷ rs) v h =
    elim (nat_eq k r.0) as (λ b. T (is_sorted nat_cmp (cond b ((r.0, v) ∷ rs) (r ∷ set_value (nat_eq k) rs v))))
    [ true ↦ h | false ↦ both _ _ (below_set r.0 k rs v (first _ _ h)) (ascend_set k rs v (second _ _ h)) ]

below_remove : {X : Type 0} (x k : ℕ) (rows : List (ℕ × X)) → T (below_all nat_cmp x rows) → T (below_all nat_cmp x (remove_entry (nat_eq k) rows))
below_remove x k [] h = tt
below_remove x k (r ∷ rs) h =
    elim (nat_eq k r.0) as (λ b. T (below_all nat_cmp x (cond b rs (r ∷ remove_entry (nat_eq k) rs))))
    [ true ↦ second _ _ h | false ↦ both _ _ (first _ _ h) (below_remove x k rs (second _ _ h)) ]

pub ascend_remove : {X : Type 0} (k : ℕ) (rows : List (ℕ × X)) → T (is_sorted nat_cmp rows) → T (is_sorted nat_cmp (remove_entry (nat_eq k) rows))
ascend_remove k [] h = tt
ascend_remove k (r ∷ rs) h =
    elim (nat_eq k r.0) as (λ b. T (is_sorted nat_cmp (cond b rs (r ∷ remove_entry (nat_eq k) rs))))
    [ true ↦ second _ _ h | false ↦ both _ _ (below_remove r.0 k rs (first _ _ h)) (ascend_remove k rs (second _ _ h)) ]

below_filter : {X : Type 0} (x : ℕ) (p : ℕ × X → Bool) (rows : List (ℕ × X)) → T (below_all nat_cmp x rows) → T (below_all nat_cmp x (filter p rows))
below_filter x p [] h = tt
below_filter x p (r ∷ rs) h =
    elim (p r) as (λ b. T (below_all nat_cmp x (cond b (r ∷ filter p rs) (filter p rs))))
    [ true ↦ both _ _ (first _ _ h) (below_filter x p rs (second _ _ h)) | false ↦ below_filter x p rs (second _ _ h) ]

pub ascend_filter : {X : Type 0} (p : ℕ × X → Bool) (rows : List (ℕ × X)) → T (is_sorted nat_cmp rows) → T (is_sorted nat_cmp (filter p rows))
ascend_filter p [] h = tt
ascend_filter p (r ∷ rs) h =
    elim (p r) as (λ b. T (is_sorted nat_cmp (cond b (r ∷ filter p rs) (filter p rs))))
    [ true ↦ both _ _ (below_filter r.0 p rs (first _ _ h)) (ascend_filter p rs (second _ _ h)) | false ↦ ascend_filter p rs (second _ _ h) ]

below_map : {X : Type 0} (x : ℕ) (f : X → X) (rows : List (ℕ × X)) → T (below_all nat_cmp x rows) → T (below_all nat_cmp x (map (with_value f) rows))
below_map x f [] h = tt
below_map x f (r ∷ rs) h = both _ _ (first _ _ h) (below_map x f rs (second _ _ h))

pub ascend_map : {X : Type 0} (f : X → X) (rows : List (ℕ × X)) → T (is_sorted nat_cmp rows) → T (is_sorted nat_cmp (map (with_value f) rows))
ascend_map f [] h = tt
ascend_map f (r ∷ rs) h = both _ _ (below_map r.0 f rs (first _ _ h)) (ascend_map f rs (second _ _ h))
