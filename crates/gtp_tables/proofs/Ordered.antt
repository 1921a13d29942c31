-- Rows in any order, and the keys in order: what each change of the one does to the other.
use Rattle.std.proofs.Common.{◌≡◌, ℕ, zero, suc, ◌<◌, Bool, true, false, cond, List, [], ◌∷◌, ◌++◌, map, length, Option, Some, None, Result, Ok, Err}
use Rattle.std.proofs.Common.{inl, inr, get_or, remove as remove_at, ◌≤◌, subst, refl, sym, ◌∙◌, ap, nat_eq, T, arith}
use Rattle.std.specs.Prelude.{not, ◌||◌, filter, is_some, option_map, slice_get, IsSome}
use Rattle.std.specs.List.{list_any, AllByRecursion, IsDistinct}
use Rattle.std.specs.Map.{lookup, set_value, keys_of}
use Rattle.std.specs.Cmp.{nat_cmp_total}
use Rattle.std.specs.Ordering.{nat_cmp, eq_by_cmp}
use Rattle.std.specs.FinMap.Entries.{below_all}
use Rattle.std.specs.FinMap.{get, insert, remove, len, keys, values, entries, entries_sorted, len-entries, from_entries, is_sorted, get-entries}
use Rattle.std.specs.FinMap.{get-remove, len-empty, gets, same_map, nat_cmp-IsAntisymmetric}
use Rattle.std.proofs.lemmas.Bool.Decides.{nat_tests}
use Rattle.std.proofs.lemmas.Cmp.{nat_eq_equiv}
use Rattle.std.proofs.lemmas.Option.{slice_get-map, same_Some}
use Rattle.std.specs.List.Sorted.{IsBinarySearchResult}
use Rattle.std.proofs.lemmas.List.Sorted.{searched}
use Rattle.std.proofs.lemmas.Bool.{cases_lt}
use Rattle.gtp_tables.specs.Rows.{AreRising}
use Rattle.std.proofs.lemmas.Map.Made.{IsDistinct-keys_filter, lookup-map_values}
use Rattle.std.proofs.lemmas.Map.Entries.{option_filter, lookup-filter-keys, lookup-filter-values}
use Rattle.gtp_values.specs.FiniteMap.{FiniteMap, kept, changed, with_value}
use Rattle.std.proofs.lemmas.List.{length-map}
use Rattle.gtp_values.proofs.Outcomes.{nothing}
use Rattle.gtp_values.proofs.Tests.{same_number, less_by_cmp, apart_by_cmp}
use Rattle.gtp_tables.proofs.Found.{stands_at}
use Rattle.gtp_tables.proofs.Kept.{passing, get_kept, table_kept}
use Rattle.gtp_tables.proofs.Rows.{KeysBelow, turned, find_row, get_row, same_rows, listed, first, second, none_above, ascend_push, ascend_set}
use Rattle.gtp_tables.proofs.Rows.{ascend_filter, ascend_map, lookup_set, table_insert, table_push}

-- the entries of a map, read again
pub again : {X : Type 0} (m : FiniteMap X) → from_entries (entries m) ≡ m
again m = same_rows (entries m) m (λ q. sym (find_row (entries m) q) ∙ sym (get-entries m q))

-- ---- the entries after a change

pub entries_push : {X : Type 0} (m : FiniteMap X) (k : ℕ) (x : X) → KeysBelow k (entries m) → entries (insert m k x) ≡ entries m ++ (k, x) ∷ []
entries_push m k x below =
    ap entries (sym (table_push (entries m) k x (none_above k (entries m) below) ∙ ap (λ (n : FiniteMap _). insert n k x) (again m)))
    ∙ listed (entries m ++ (k, x) ∷ []) (ascend_push (entries m) (k, x) (entries_sorted m) below)

pub entries_set : {X : Type 0} (m : FiniteMap X) (k : ℕ) (x : X) → IsSome (lookup (nat_eq k) (entries m)) → entries (insert m k x) ≡ set_value (nat_eq k) (entries m) x
entries_set m k x there =
    ap entries (sym (table_insert (entries m) (set_value (nat_eq k) (entries m) x) k x (λ q. lookup_set (entries m) k x q there) ∙ ap (λ (n : FiniteMap _). insert n k x) (again m)))
    ∙ listed (set_value (nat_eq k) (entries m) x) (ascend_set k (entries m) x (entries_sorted m))

pub entries_kept : {X : Type 0} (test : ℕ → X → Bool) (m : FiniteMap X) → entries (kept test m) ≡ filter (λ e. test e.0 e.1) (entries m)
entries_kept test m =
    ap entries (sym (table_kept test (entries m) (entries_sorted m) ∙ ap (kept test) (again m)))
    ∙ listed (filter (λ e. test e.0 e.1) (entries m)) (ascend_filter (λ e. test e.0 e.1) (entries m) (entries_sorted m))

pub entries_changed : {X : Type 0} (f : X → X) (m : FiniteMap X) → entries (changed f m) ≡ map (with_value f) (entries m)
entries_changed f m = listed (map (with_value f) (entries m)) (ascend_map f (entries m) (entries_sorted m))

-- ---- the keys after a change

keys_push : {X : Type 0} (es : List (ℕ × X)) (k : ℕ) (x : X) → map (λ e. e.0) (es ++ (k, x) ∷ []) ≡ map (λ e. e.0) es ++ k ∷ []
keys_push [] k x = refl
keys_push (e ∷ es) k x = ap (λ (l : List ℕ). e.0 ∷ l) (keys_push es k x)

pub keys_insert_last : {X : Type 0} (m : FiniteMap X) (k : ℕ) (x : X) → KeysBelow k (entries m) → keys (insert m k x) ≡ keys m ++ k ∷ []
keys_insert_last m k x below = ap (map (λ e. e.0)) (entries_push m k x below) ∙ keys_push (entries m) k x

keys_of_set : {X : Type 0} (es : List (ℕ × X)) (k : ℕ) (x : X) → map (λ e. e.0) (set_value (nat_eq k) es x) ≡ map (λ e. e.0) es
keys_of_set [] k x = refl
keys_of_set (e ∷ es) k x =
    elim (nat_eq k e.0) as (λ b. map (λ f. f.0) (cond b ((e.0, x) ∷ es) (e ∷ set_value (nat_eq k) es x)) ≡ e.0 ∷ map (λ f. f.0) es)
    [ true ↦ refl | false ↦ ap (λ (l : List ℕ). e.0 ∷ l) (keys_of_set es k x) ]

pub keys_insert_there : {X : Type 0} (m : FiniteMap X) (k : ℕ) (x : X) → IsSome (lookup (nat_eq k) (entries m)) → keys (insert m k x) ≡ keys m
keys_insert_there m k x there = ap (map (λ e. e.0)) (entries_set m k x there) ∙ keys_of_set (entries m) k x

keys_of_changed : {X : Type 0} (f : X → X) (es : List (ℕ × X)) → map (λ e. e.0) (map (with_value f) es) ≡ map (λ e. e.0) es
keys_of_changed f [] = refl
keys_of_changed f (e ∷ es) = ap (λ (l : List ℕ). e.0 ∷ l) (keys_of_changed f es)

pub keys_changed : {X : Type 0} (f : X → X) (m : FiniteMap X) → keys (changed f m) ≡ keys m
keys_changed f m = ap (map (λ e. e.0)) (entries_changed f m) ∙ keys_of_changed f (entries m)

-- ---- rows in any order

pub rows_changed : {X : Type 0} (f : X → X) (rows : List (ℕ × X)) → from_entries (map (with_value f) rows) ≡ changed f (from_entries rows)
rows_changed f rows =
    let m = from_entries {R = nat_cmp} rows in
    same_rows (map (with_value f) rows) (changed f m) (λ q.
    lookup-map_values f (nat_eq q) rows
    ∙ (ap (option_map f) (sym (get_row rows q) ∙ (get-entries m q ∙ find_row (entries m) q))
    ∙ (sym (lookup-map_values f (nat_eq q) (entries m))
    ∙ sym (get_row (map (with_value f) (entries m)) q))))

pub rows_kept : {X : Type 0} (test : X → Bool) (rows : List (ℕ × X)) → IsDistinct nat_eq (keys_of rows)
    → from_entries {R = nat_cmp} (filter (λ e. test e.1) rows) ≡ kept (λ _ x. test x) (from_entries rows)
rows_kept test rows d =
    let m = from_entries {R = nat_cmp} rows in
    same_rows (filter (λ e. test e.1) rows) (kept (λ _ x. test x) m) (λ q.
    lookup-filter-values nat_eq_equiv test q rows d
    ∙ (by q (lookup (nat_eq q) rows)
    ∙ (ap (passing (λ _ x. test x) q) (sym (get_row rows q))
    ∙ sym (get_kept (λ _ x. test x) m q))))
  where
    by : (q : ℕ) (o : Option _) → option_filter test o ≡ passing (λ _ x. test x) q o
    by q None = refl
    by q (Some x) = refl

none_either : {X : Type 0} (b : Bool) → cond b (nothing X) (nothing X) ≡ nothing X
none_either true = refl
none_either false = refl

pub rows_kept_by_key : {X : Type 0} (test : ℕ → Bool) (rows : List (ℕ × X)) → from_entries {R = nat_cmp} (filter (λ e. test e.0) rows) ≡ kept (λ k _. test k) (from_entries rows)
rows_kept_by_key {X} test rows =
    let m = from_entries {R = nat_cmp} rows in
    same_rows (filter (λ e. test e.0) rows) (kept (λ k _. test k) m) (λ q.
    lookup-filter-keys (nat_eq q) test (test q) (λ k is. ap test (sym (same_number q k is))) rows
    ∙ (by q (lookup (nat_eq q) rows)
    ∙ (ap (passing (λ k _. test k) q) (sym (get_row rows q))
    ∙ sym (get_kept (λ k _. test k) m q))))
  where
    by : (q : ℕ) (o : Option X) → cond (test q) o None ≡ passing (λ k _. test k) q o
    by q None = none_either (test q)
    by q (Some x) = refl

absent : {X : Type 0} (k : ℕ) (rows : List (ℕ × X)) → AllByRecursion (λ y. nat_eq k y ≡ false) (keys_of rows) → lookup (nat_eq k) rows ≡ None
absent k [] h = refl
absent k (e ∷ es) h = rw h.0 (absent k es h.1)

-- as many rows as there are keys
pub len_apart : {X : Type 0} (rows : List (ℕ × X)) → IsDistinct nat_eq (keys_of rows) → len (from_entries {R = nat_cmp} rows) ≡ length rows
unfolding IsDistinct
len_apart {X} [] d = len-empty nat_cmp X
len_apart (e ∷ es) d =
    let none : get (from_entries {R = nat_cmp} es) e.0 ≡ None = get_row es e.0 ∙ absent e.0 es d.0 in
    let rest = len_apart es d.1 in
    grind (arith, gets, nat_tests, none, rest)

pub distinct_entries : {X : Type 0} (m : FiniteMap X) → IsDistinct nat_eq (keys_of (entries m))
unfolding IsDistinct
distinct_entries {X} m = by (entries m) (entries_sorted m)
  where
    others : (k : ℕ) (es : List (ℕ × X)) → T (below_all nat_cmp k es) → AllByRecursion (λ y. nat_eq k y ≡ false) (keys_of es)
    others k [] h = tt
    others k (e ∷ es) h = (apart_by_cmp k e.0 (first _ _ h), others k es (second _ _ h))

    by : (es : List (ℕ × X)) → T (is_sorted nat_cmp es) → IsDistinct nat_eq (keys_of es)
    by [] h = tt
    by (e ∷ es) h = (others e.0 es (first _ _ h), by es (second _ _ h))

pub distinct_changed : {X : Type 0} (f : X → X) (rows : List (ℕ × X)) → IsDistinct nat_eq (keys_of rows) → IsDistinct nat_eq (keys_of (map (with_value f) rows))
distinct_changed f rows d = subst (λ (ks : List ℕ). IsDistinct nat_eq ks) (sym (keys_of_changed f rows)) d

-- ---- how many pass a test, and whether one does

pub count_of_values : {X : Type 0} (test : X → Bool) (rows : List (ℕ × X)) → length (filter test (map (λ e. e.1) rows)) ≡ length (filter (λ e. test e.1) rows)
count_of_values test [] = refl
count_of_values test (e ∷ es) =
    elim (test e.1) as (λ b. length (cond b (e.1 ∷ filter test (map (λ x. x.1) es)) (filter test (map (λ x. x.1) es)))
    ≡ length (cond b (e ∷ filter (λ x. test x.1) es) (filter (λ x. test x.1) es)))
    [ true ↦ ap suc (count_of_values test es) | false ↦ count_of_values test es ]

pub count_rows : {X : Type 0} (test : X → Bool) (rows : List (ℕ × X)) → IsDistinct nat_eq (keys_of rows) → length (filter test (map (λ e. e.1) rows)) ≡ len (kept (λ _ x. test x) (from_entries rows))
count_rows test rows d =
    count_of_values test rows
    ∙ (sym (len_apart (filter (λ e. test e.1) rows) (IsDistinct-keys_filter nat_eq (λ e. test e.1) rows d))
    ∙ ap len (rows_kept test rows d))

abbrev pub is_more : ℕ → Bool
is_more zero = false
is_more (suc n) = true

pub any_by_count : {X : Type 0} (test : X → Bool) (xs : List X) → list_any test xs ≡ is_more (length (filter test xs))
any_by_count test [] = refl
any_by_count test (x ∷ xs) = elim (test x) as (λ b. (b || list_any test xs) ≡ is_more (length (cond b (x ∷ filter test xs) (filter test xs)))) [ true ↦ refl | false ↦ any_by_count test xs ]

pub any_of_rows : {X : Type 0} (test : X → Bool) (rows : List (ℕ × X)) → IsDistinct nat_eq (keys_of rows)
    → list_any test (map (λ e. e.1) rows) ≡ list_any test (values (from_entries {R = nat_cmp} rows))
any_of_rows test rows d =
    let m = from_entries {R = nat_cmp} rows in
    any_by_count test (map (λ e. e.1) rows)
    ∙ (ap is_more (count_rows test rows d ∙ sym (count_rows test (entries m) (distinct_entries m) ∙ ap (λ (n : FiniteMap _). len (kept (λ _ x. test x) n)) (again m)))
    ∙ sym (any_by_count test (values m)))

-- ---- the keys that are left

-- each entry is what stands under its key
each_stands : {X : Type 0} (m : FiniteMap X) → AllByRecursion (λ e. get m e.0 ≡ Some e.1) (entries m)
each_stands {X} m = of (entries m) (λ e i at. stands_at m i e at)
  where
    of : (es : List (ℕ × X)) → ((e : ℕ × X) (i : ℕ) → slice_get es i ≡ Some e → get m e.0 ≡ Some e.1) → AllByRecursion (λ e. get m e.0 ≡ Some e.1) es
    of [] h = tt
    of (e ∷ es) h = (h e 0 refl, of es (λ f i at. h f (suc i) at))

keys_filter : {X : Type 0} (test : ℕ → X → Bool) (stays : ℕ → Bool) (es : List (ℕ × X)) → AllByRecursion (λ e. stays e.0 ≡ test e.0 e.1) es
    → filter stays (map (λ e. e.0) es) ≡ map (λ e. e.0) (filter (λ e. test e.0 e.1) es)
keys_filter test stays [] h = refl
keys_filter test stays (e ∷ es) h =
    ap (λ (b : Bool). cond b (e.0 ∷ filter stays (map (λ f. f.0) es)) (filter stays (map (λ f. f.0) es))) h.0
    ∙ by (test e.0 e.1) (keys_filter test stays es h.1)
  where
    by : (b : Bool) → filter stays (map (λ f. f.0) es) ≡ map (λ f. f.0) (filter (λ f. test f.0 f.1) es)
        → cond b (e.0 ∷ filter stays (map (λ f. f.0) es)) (filter stays (map (λ f. f.0) es)) ≡ map (λ f. f.0) (cond b (e ∷ filter (λ f. test f.0 f.1) es) (filter (λ f. test f.0 f.1) es))
    by true rest = ap (λ (l : List ℕ). e.0 ∷ l) rest
    by false rest = rest

-- the keys that still stand
pub keys_kept : {X : Type 0} (test : ℕ → X → Bool) (m : FiniteMap X) → filter (λ k. is_some (get (kept test m) k)) (keys m) ≡ keys (kept test m)
keys_kept {X} test m =
    keys_filter test (λ k. is_some (get (kept test m) k)) (entries m) (each (entries m) (each_stands m))
    ∙ ap (map (λ e. e.0)) (sym (entries_kept test m))
  where
    some : (k : ℕ) (x : X) (b : Bool) → test k x ≡ b → is_some (cond b (Some x) None) ≡ b
    some k x true is = refl
    some k x false is = refl

    each : (es : List (ℕ × X)) → AllByRecursion (λ e. get m e.0 ≡ Some e.1) es → AllByRecursion (λ e. is_some (get (kept test m) e.0) ≡ test e.0 e.1) es
    each [] h = tt
    each (e ∷ es) h = (ap is_some (get_kept test m e.0 ∙ ap (passing test e.0) h.0) ∙ some e.0 e.1 (test e.0 e.1) refl, each es h.1)

-- the keys that are left are those of the rows that are left
pub keys_left : {X : Type 0} (test : ℕ → X → Bool) (rows left : List (ℕ × X)) (old new : List ℕ) → from_entries {R = nat_cmp} left ≡ kept test (from_entries rows)
    → old ≡ keys (from_entries {R = nat_cmp} rows) → new ≡ filter (λ k. is_some (lookup (nat_eq k) left)) old
    → new ≡ keys (from_entries {R = nat_cmp} left)
keys_left {X} test rows left old new is before after =
    after
    ∙ ap (λ (ks : List ℕ). filter (λ k. is_some (lookup (nat_eq k) left)) ks) before
    ∙ ap (λ (stays : ℕ → Bool). filter stays (keys (from_entries {R = nat_cmp} rows))) (λ i k. is_some ((sym (get_row left k) ∙ ap (λ (m : FiniteMap X). get m k) is) i))
    ∙ keys_kept test (from_entries rows)
    ∙ ap keys (sym is)

-- ---- a place among the keys

pub entry_at : {X : Type 0} (m : FiniteMap X) (i k : ℕ) (x : X) → slice_get (keys m) i ≡ Some k → get m k ≡ Some x → slice_get (entries m) i ≡ Some (k, x)
entry_at {X} m i k x at stands = by (slice_get (entries m) i) refl (sym (slice_get-map (λ e. e.0) (entries m) i) ∙ at)
  where
    by : (o : Option (ℕ × X)) → slice_get (entries m) i ≡ o → option_map (λ e. e.0) o ≡ Some k → slice_get (entries m) i ≡ Some (k, x)
    by None here h = absurd cc
    by (Some e) here h =
        let key : e.0 ≡ k = cc in
        let value : e.1 ≡ x = same_Some e.1 x (sym (stands_at m i e here) ∙ (ap (get m) key ∙ stands)) in
        here ∙ ap Some (λ j. (key j, value j))

-- something stands under each key
pub key_stands : {X : Type 0} (m : FiniteMap X) (i k : ℕ) → slice_get (keys m) i ≡ Some k → get m k ≡ None → ⊥
key_stands {X} m i k at none = by (slice_get (entries m) i) refl (sym (slice_get-map (λ e. e.0) (entries m) i) ∙ at)
  where
    by : (o : Option (ℕ × X)) → slice_get (entries m) i ≡ o → option_map (λ e. e.0) o ≡ Some k → ⊥
    by None here h = cc
    by (Some e) here h =
        let key : e.0 ≡ k = cc in
        let some : None ≡ Some e.1 = sym none ∙ (ap (get m) (sym key) ∙ stands_at m i e here) in
        cc

-- ---- a key that is taken out

pub keys_rise : {X : Type 0} (m : FiniteMap X) → AreRising (keys m)
keys_rise {X} m = by (entries m) (entries_sorted m)
  where
    above : (k : ℕ) (es : List (ℕ × X)) → T (below_all nat_cmp k es) → AllByRecursion (λ other. k < other) (map (λ e. e.0) es)
    above k [] h = tt
    above k (e ∷ es) h = (less_by_cmp k e.0 (first _ _ h), above k es (second _ _ h))

    by : (es : List (ℕ × X)) → T (is_sorted nat_cmp es) → AreRising (map (λ e. e.0) es)
    by [] h = tt
    by (e ∷ es) h = (above e.0 es (first _ _ h), by es (second _ _ h))

-- what is left when a key is taken out
pub removed : {X : Type 0} (m : FiniteMap X) (k : ℕ) → remove m k ≡ kept (λ t _. not (nat_eq k t)) m
removed {X} m k =
    same_map nat_cmp_total nat_cmp-IsAntisymmetric (remove m k) (kept (λ t _. not (nat_eq k t)) m)
    (λ q. get-remove nat_cmp_total m k q ∙ (by q (get m q) ∙ sym (get_kept (λ t _. not (nat_eq k t)) m q)))
  where
    chosen : (b : Bool) (x : X) → cond b None (Some x) ≡ cond (not b) (Some x) None
    chosen true x = refl
    chosen false x = refl

    by : (q : ℕ) (o : Option X) → cond (eq_by_cmp nat_cmp q k) None o ≡ passing (λ t _. not (nat_eq k t)) q o
    by q None = none_either (eq_by_cmp nat_cmp q k)
    by q (Some x) = ap (λ (b : Bool). cond b None (Some x)) (turned q k) ∙ chosen (nat_eq k q) x

pub keys_removed : {X : Type 0} (m : FiniteMap X) (k : ℕ) → keys (remove m k) ≡ filter (λ q. not (nat_eq k q)) (keys m)
keys_removed {X} m k =
    ap keys (removed m k)
    ∙ (ap (map (λ e. e.0)) (entries_kept (λ t _. not (nat_eq k t)) m)
    ∙ sym (keys_filter (λ t _. not (nat_eq k t)) (λ t. not (nat_eq k t)) (entries m) (each (entries m))))
  where
    each : (es : List (ℕ × X)) → AllByRecursion (λ e. not (nat_eq k e.0) ≡ not (nat_eq k e.0)) es
    each [] = tt
    each (e ∷ es) = (refl, each es)

above_stay : (k n : ℕ) (ks : List ℕ) → AllByRecursion (λ other. n < other) ks → k ≤ n → filter (λ q. not (nat_eq k q)) ks ≡ ks
above_stay k n [] h le = refl
above_stay k n (x ∷ xs) h le =
    let other : nat_eq k x ≡ false = grind (arith, nat_tests, h.0) in
    rw other (ap (λ (l : List ℕ). x ∷ l) (above_stay k n xs h.1 le))

above_at : (n : ℕ) (ks : List ℕ) (i : ℕ) → AllByRecursion (λ other. n < other) ks → i < length ks → n < get_or ks i 0
above_at n [] i h lt = absurd (omega (arith, lt))
above_at n (x ∷ xs) zero h lt = h.0
above_at n (x ∷ xs) (suc i) h lt = above_at n xs i h.1 (omega (arith, lt))

pub key_cut : (ks : List ℕ) (k i : ℕ) → AreRising ks → i < length ks → get_or ks i 0 ≡ k → remove_at ks i ≡ filter (λ q. not (nat_eq k q)) ks
key_cut [] k i r lt is = absurd (omega (arith, lt))
key_cut (x ∷ xs) k zero r lt is =
    let same : nat_eq k x ≡ true = grind (arith, nat_tests, is) in
    rw same (sym (above_stay k x xs r.0 (omega (arith, is))))
key_cut (x ∷ xs) k (suc i) r lt is =
    let other : nat_eq k x ≡ false = grind (arith, nat_tests, is, above_at x xs i r.0 (omega (arith, lt))) in
    rw other (ap (λ (l : List ℕ). x ∷ l) (key_cut xs k i r.1 (omega (arith, lt)) is))

pub key_absent : (ks : List ℕ) (k : ℕ) → ((i : ℕ) → i < length ks → get_or ks i 0 ≡ k → ⊥) → filter (λ q. not (nat_eq k q)) ks ≡ ks
key_absent [] k none = refl
key_absent (x ∷ xs) k none =
    let other : nat_eq k x ≡ false = grind (arith, nat_tests, none 0 (omega arith)) in
    rw other (ap (λ (l : List ℕ). x ∷ l) (key_absent xs k (λ i lt. none (suc i) (omega (arith, lt)))))

pub never_falls : (ks : List ℕ) → AreRising ks → (i j : ℕ) → i ≤ j → j < length ks → get_or ks i 0 ≤ get_or ks j 0
never_falls [] r i j le lt = absurd (omega (arith, lt))
never_falls (x ∷ xs) r zero zero le lt = omega arith
never_falls (x ∷ xs) r zero (suc j) le lt = let above = above_at x xs j r.0 (omega (arith, lt)) in omega (arith, above)
never_falls (x ∷ xs) r (suc i) zero le lt = absurd (omega (arith, le))
never_falls (x ∷ xs) r (suc i) (suc j) le lt = never_falls xs r.1 i j (omega (arith, le)) (omega (arith, lt))

-- a key that halving does not find is not there
pub key_not_found : (ks : List ℕ) (k : ℕ) (r : Result ℕ ℕ) → IsBinarySearchResult (λ y. nat_cmp y k) ks r → AreRising ks → (place : ℕ) → r ≡ Err place → filter (λ q. not (nat_eq k q)) ks ≡ ks
key_not_found ks k (Ok i) position r place is = absurd cc
key_not_found ks k (Err i) position r place is =
    let at = searched ks k (Err i) position (never_falls ks r) in
    key_absent ks k (λ n lt same. elim (cases_lt n i) [
      | inl below ↦ let lower = at.1 n below in omega (arith, lower, same)
      | inr above ↦ let higher = at.2 n above lt in omega (arith, higher, same)
    ])

-- ---- with no rows

pub no_keys : {X : Type 0} (rows : List (ℕ × X)) → rows ≡ [] → keys (from_entries {R = nat_cmp} rows) ≡ []
no_keys rows none = ap (λ (es : List (ℕ × _)). keys (from_entries {R = nat_cmp} es)) none ∙ ap (map (λ e. e.0)) (listed [] tt)

pub distinct_none : {X : Type 0} (rows : List (ℕ × X)) → rows ≡ [] → IsDistinct nat_eq (keys_of rows)
unfolding IsDistinct
distinct_none rows none = subst (λ (es : List (ℕ × _)). IsDistinct nat_eq (keys_of es)) (sym none) tt

pub length_keys : {X : Type 0} (m : FiniteMap X) → length (keys m) ≡ len m
length_keys m = length-map (entries m) (λ e. e.0) ∙ sym (len-entries m)
