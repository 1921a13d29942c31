-- What a test finds among the values of a finite map.
use Rattle.std.proofs.Common.{◌≡◌, ℕ, ◌<◌, ◌≤◌, Bool, true, false, cond, List, [], ◌∷◌, map, Some, None, refl, sym, ap, subst, ◌∙◌, T, arith}
use Rattle.std.specs.Prelude.{◌||◌}
use Rattle.std.specs.List.{list_any}
use Rattle.std.specs.FinMap.{find, get, len, entries, values, entries_sorted, get-entries, len-entries, empty_of_len, get-empty, is_sorted}
use Rattle.std.specs.Prelude.{slice_get, length, zero, suc, ◌+◌}
use Rattle.std.specs.FinMap.Entries.{below_all}
use Rattle.std.specs.Ordering.{nat_cmp, eq_by_cmp}
use Rattle.std.proofs.lemmas.Bool.Decides.{nat_tests}
use Rattle.std.proofs.lemmas.Option.{slice_get_within}
use Rattle.gtp_values.specs.FiniteMap.{FiniteMap}
use Rattle.gtp_values.proofs.Tests.{itself, less_by_cmp}
use Rattle.gtp_tables.proofs.Rows.{turned, first, second}

-- an entry whose value meets the test
pub record Meets {X : Type 0} (p : X → Bool) (m : FiniteMap X) : Type 0 where
  pub key : ℕ
  pub value : X
  pub stands : get m key ≡ Some value
  pub meets : p value ≡ true

record Row {X : Type 0} (p : X → Bool) (es : List (ℕ × X)) : Type 0 where
  key : ℕ
  value : X
  found : find nat_cmp key es ≡ Some value
  meets : p value ≡ true

pub key_itself : (k : ℕ) → eq_by_cmp nat_cmp k k ≡ true
key_itself k = turned k k ∙ itself k

-- a key that is found is above one that all are above
above : {X : Type 0} (x k : ℕ) (v : X) (es : List (ℕ × X)) → T (below_all nat_cmp x es) → find nat_cmp k es ≡ Some v → eq_by_cmp nat_cmp k x ≡ false
above x k v [] h found = absurd cc
above {X} x k v (e ∷ es) h found = by (eq_by_cmp nat_cmp k e.0) refl found (above x k v es (second _ _ h))
  where
    by : (b : Bool) → eq_by_cmp nat_cmp k e.0 ≡ b → cond b (Some e.1) (find nat_cmp k es) ≡ Some v → (find nat_cmp k es ≡ Some v → eq_by_cmp nat_cmp k x ≡ false) → eq_by_cmp nat_cmp k x ≡ false
    by true is f rest = let less : x < e.0 = less_by_cmp x e.0 (first _ _ h) in grind (arith, nat_tests)
    by false is f rest = rest f

row : {X : Type 0} (p : X → Bool) (es : List (ℕ × X)) → T (is_sorted nat_cmp es) → list_any p (map (λ e. e.1) es) ≡ true → Row p es
row p [] up any = absurd cc
row {X} p (e ∷ es) up any = by (p e.1) refl any (row p es (second _ _ up))
  where
    later : Row p es → Row p (e ∷ es)
    later r = record { key = r.key; value = r.value; found = rw (above e.0 r.key r.value es (first _ _ up) r.found) r.found; meets = r.meets }

    by : (b : Bool) → p e.1 ≡ b → (b || list_any p (map (λ e. e.1) es)) ≡ true → (list_any p (map (λ e. e.1) es) ≡ true → Row p es) → Row p (e ∷ es)
    by true is any rest = record { key = e.0; value = e.1; found = rw (key_itself e.0) refl; meets = is }
    by false is any rest = later (rest any)

no_row : {X : Type 0} (p : X → Bool) (es : List (ℕ × X)) (k : ℕ) (x : X) → list_any p (map (λ e. e.1) es) ≡ false → find nat_cmp k es ≡ Some x → p x ≡ false
no_row p [] k x none found = absurd cc
no_row {X} p (e ∷ es) k x none found = by (p e.1) (eq_by_cmp nat_cmp k e.0) refl none found (no_row p es k x)
  where
    by : (a b : Bool) → p e.1 ≡ a → (a || list_any p (map (λ e. e.1) es)) ≡ false → cond b (Some e.1) (find nat_cmp k es) ≡ Some x
        → (list_any p (map (λ e. e.1) es) ≡ false → find nat_cmp k es ≡ Some x → p x ≡ false) → p x ≡ false
    by true b is none found rest = absurd cc
    by false true is none found rest = let same : e.1 ≡ x = cc in ap p (sym same) ∙ is
    by false false is none found rest = rest none found

pub meets : {X : Type 0} (p : X → Bool) (m : FiniteMap X) → list_any p (values m) ≡ true → Meets p m
meets p m any =
    let r = row p (entries m) (entries_sorted m) any in
    record { key = r.key; value = r.value; stands = get-entries m r.key ∙ r.found; meets = r.meets }

pub meets_not : {X : Type 0} (p : X → Bool) (m : FiniteMap X) → list_any p (values m) ≡ false → (k : ℕ) (x : X) → get m k ≡ Some x → p x ≡ false
meets_not p m none k x stands = no_row p (entries m) k x none (sym (get-entries m k) ∙ stands)

-- ---- an entry by its place

found_at : {X : Type 0} (es : List (ℕ × X)) (i : ℕ) (e : ℕ × X) → T (is_sorted nat_cmp es) → slice_get es i ≡ Some e → find nat_cmp e.0 es ≡ Some e.1
found_at [] i e up at = absurd cc
found_at {X} (x ∷ es) zero e up at =
    let same : x ≡ e = cc in
    let key : eq_by_cmp nat_cmp e.0 x.0 ≡ true = ap (λ (y : ℕ × X). eq_by_cmp nat_cmp e.0 y.0) same ∙ key_itself e.0 in
    rw key (ap (λ (y : ℕ × X). Some y.1) same)
found_at (x ∷ es) (suc i) e up at = let rest = found_at es i e (second _ _ up) at in rw (above x.0 e.0 e.1 es (first _ _ up) rest) rest

-- what is at a place of the entries stands under its key
pub stands_at : {X : Type 0} (m : FiniteMap X) (i : ℕ) (e : ℕ × X) → slice_get (entries m) i ≡ Some e → get m e.0 ≡ Some e.1
stands_at m i e at = get-entries m e.0 ∙ found_at (entries m) i e (entries_sorted m) at

-- a key that is found is above what all are above
found_above : {X : Type 0} (x k : ℕ) (v : X) (es : List (ℕ × X)) → T (below_all nat_cmp x es) → find nat_cmp k es ≡ Some v → x < k
found_above x k v [] h found = absurd cc
found_above {X} x k v (e ∷ es) h found = by (eq_by_cmp nat_cmp k e.0) refl found (found_above x k v es (second _ _ h))
  where
    by : (b : Bool) → eq_by_cmp nat_cmp k e.0 ≡ b → cond b (Some e.1) (find nat_cmp k es) ≡ Some v → (find nat_cmp k es ≡ Some v → x < k) → x < k
    by true is f rest = let less : x < e.0 = less_by_cmp x e.0 (first _ _ h) in grind (arith, nat_tests)
    by false is f rest = rest f

-- ---- a search from the first place on

none_row : {X : Type 0} (p : X → Bool) (es : List (ℕ × X)) → ((j : ℕ) (f : ℕ × X) → slice_get es j ≡ Some f → p f.1 ≡ false) → (t : ℕ) (x : X) → find nat_cmp t es ≡ Some x → p x ≡ false
none_row p [] none t x found = absurd cc
none_row {X} p (e ∷ es) none t x found = by (eq_by_cmp nat_cmp t e.0) found (none_row p es (λ j f at. none (suc j) f at) t x)
  where
    by : (b : Bool) → cond b (Some e.1) (find nat_cmp t es) ≡ Some x → (find nat_cmp t es ≡ Some x → p x ≡ false) → p x ≡ false
    by true h rest = let same : e.1 ≡ x = cc in ap p (sym same) ∙ none 0 e refl
    by false h rest = rest h

lowest_row : {X : Type 0} (p : X → Bool) (es : List (ℕ × X)) (i : ℕ) (e : ℕ × X) → T (is_sorted nat_cmp es) → slice_get es i ≡ Some e
    → ((j : ℕ) (f : ℕ × X) → j < i → slice_get es j ≡ Some f → p f.1 ≡ false) → (t : ℕ) (x : X) → find nat_cmp t es ≡ Some x → p x ≡ true → e.0 ≤ t
lowest_row p [] i e up at none t x found is = absurd cc
lowest_row {X} p (y ∷ es) zero e up at none t x found is = by (eq_by_cmp nat_cmp t y.0) refl found
  where
    by : (b : Bool) → eq_by_cmp nat_cmp t y.0 ≡ b → cond b (Some y.1) (find nat_cmp t es) ≡ Some x → e.0 ≤ t
    by true eq h = let same : y ≡ e = cc in let key : y.0 ≡ e.0 = ap (λ (z : ℕ × X). z.0) same in grind (arith, nat_tests, key)
    by false eq h = let same : y ≡ e = cc in let key : y.0 ≡ e.0 = ap (λ (z : ℕ × X). z.0) same in let less : y.0 < t = found_above y.0 t x es (first _ _ up) h in omega (arith, key, less)
lowest_row {X} p (y ∷ es) (suc i) e up at none t x found is =
    by (eq_by_cmp nat_cmp t y.0) found
    (λ h. lowest_row p es i e (second _ _ up) at (λ j f lt there. none (suc j) f (omega (arith, lt)) there) t x h is)
  where
    by : (b : Bool) → cond b (Some y.1) (find nat_cmp t es) ≡ Some x → (find nat_cmp t es ≡ Some x → e.0 ≤ t) → e.0 ≤ t
    by true h rest = let same : y.1 ≡ x = cc in let not_it : p y.1 ≡ false = none 0 y (omega arith) refl in absurd (let both : true ≡ false = sym is ∙ (ap p (sym same) ∙ not_it) in cc)
    by false h rest = rest h

-- a value that meets the test at no place of the entries stands nowhere
pub meets_nowhere : {X : Type 0} (p : X → Bool) (m : FiniteMap X) → ((j : ℕ) (f : ℕ × X) → slice_get (entries m) j ≡ Some f → p f.1 ≡ false) → (t : ℕ) (x : X) → get m t ≡ Some x → p x ≡ false
meets_nowhere p m none t x stands = none_row p (entries m) none t x (sym (get-entries m t) ∙ stands)

-- where no value at an earlier place meets the test, none under a lower key does
pub meets_from : {X : Type 0} (p : X → Bool) (m : FiniteMap X) (i : ℕ) (e : ℕ × X) → slice_get (entries m) i ≡ Some e
    → ((j : ℕ) (f : ℕ × X) → j < i → slice_get (entries m) j ≡ Some f → p f.1 ≡ false) → (t : ℕ) (x : X) → get m t ≡ Some x → p x ≡ true → e.0 ≤ t
meets_from p m i e at none t x stands is = lowest_row p (entries m) i e (entries_sorted m) at none t x (sym (get-entries m t) ∙ stands) is

-- ---- the last key

below : {X : Type 0} (k : ℕ) (es : List (ℕ × X)) (n : ℕ) (last : ℕ × X) → T (is_sorted nat_cmp es) → length es ≡ n + 1 → slice_get es n ≡ Some last
    → last.0 < k → (q : ℕ) (x : X) → find nat_cmp q es ≡ Some x → q < k
below k [] n last up size at lt q x found = absurd cc
below {X} k (e ∷ []) zero last up size at lt q x found = by (eq_by_cmp nat_cmp q e.0) refl found
  where
    by : (b : Bool) → eq_by_cmp nat_cmp q e.0 ≡ b → cond b (Some e.1) None ≡ Some x → q < k
    by true is f = let same : e ≡ last = cc in let at : e.0 ≡ last.0 = ap (λ (p : ℕ × X). p.0) same in grind (arith, nat_tests, at, lt)
    by false is f = absurd cc
below k (e ∷ []) (suc n) last up size at lt q x found = absurd cc
below k (e ∷ f ∷ es) zero last up size at lt q x found = absurd (omega (arith, size))
below {X} k (e ∷ f ∷ es) (suc n) last up size at lt q x found = by (eq_by_cmp nat_cmp q e.0) refl found (below k (f ∷ es) n last (second _ _ up) (omega (arith, size)) at lt)
  where
    by : (b : Bool) → eq_by_cmp nat_cmp q e.0 ≡ b → cond b (Some e.1) (find nat_cmp q (f ∷ es)) ≡ Some x → ((q : ℕ) (x : X) → find nat_cmp q (f ∷ es) ≡ Some x → q < k) → q < k
    by true is found rest =
        let next : f.0 < k = rest f.0 f.1 (rw (key_itself f.0) refl) in
        let up : e.0 < f.0 = less_by_cmp e.0 f.0 (first _ _ (first _ _ up)) in
        grind (arith, nat_tests, next, up)
    by false is found rest = rest q x found

pub all_below : {X : Type 0} (k : ℕ) (m : FiniteMap X) (n : ℕ) (last : ℕ × X) → len m ≡ n + 1 → slice_get (entries m) n ≡ Some last → last.0 < k → (q : ℕ) (x : X) → get m q ≡ Some x → q < k
all_below k m n last size at lt q x stands = below k (entries m) n last (entries_sorted m) (sym (len-entries m) ∙ size) at lt q x (sym (get-entries m q) ∙ stands)

none_past : {X : Type 0} (xs : List X) (i : ℕ) → slice_get xs i ≡ None → i < length xs → ⊥
none_past [] i none lt = omega arith
none_past (x ∷ xs) zero none lt = cc
none_past (x ∷ xs) (suc i) none lt = none_past xs i none (omega arith)

-- an entry is at a place within
pub at_within : {X : Type 0} (m : FiniteMap X) (i : ℕ) (e : ℕ × X) → slice_get (entries m) i ≡ Some e → i < len m
at_within m i e at = subst (λ (n : ℕ). i < n) (sym (len-entries m)) (slice_get_within (entries m) i e at)

-- a place within has an entry
pub no_entry : {X : Type 0} (m : FiniteMap X) (i : ℕ) → slice_get (entries m) i ≡ None → i < len m → ⊥
no_entry m i none lt = none_past (entries m) i none (subst (λ (n : ℕ). i < n) (len-entries m) lt)

pub none_in_empty : {X : Type 0} (k : ℕ) (m : FiniteMap X) → len m ≡ 0 → (q : ℕ) (x : X) → get m q ≡ Some x → q < k
none_in_empty {X} k m none q x stands =
    let is : get m q ≡ None = ap (λ (n : FiniteMap X). get n q) (empty_of_len m none) ∙ get-empty nat_cmp q in
    absurd cc
