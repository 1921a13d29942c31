-- What a change of a finite map or of a list leaves of what holds of each entry.
use Rattle.std.proofs.Common.{◌≡◌, ◌≢◌, ◌⊎◌, inl, inr, ⊎_elim, ℕ, Bool, true, false, cond, List, [], ◌∷◌, ◌++◌, map, Option, Some, None, refl, sym, ◌∙◌, ap, subst, arith, zero, suc, slice_get}
use Rattle.std.specs.FinMap.{get, insert, remove, get-retain_keys, get-entries, get-from_entries, entries, find, empty, gets, nat_cmp-IsAntisymmetric}
use Rattle.std.proofs.lemmas.Bool.Decides.{nat_tests}
use Rattle.std.proofs.lemmas.Option.{same_Some}
use Rattle.std.specs.Ordering.{nat_cmp, eq_by_cmp}
use Rattle.std.specs.Cmp.{nat_cmp_total}
use Rattle.gtp_values.specs.FiniteMap.{FiniteMap, Each, kept, passes, changed, with_value, Among}

-- where an inserted entry is found
pub found-insert : {X : Type 0} (m : FiniteMap X) (key : ℕ) (x : X) (q : ℕ) (y : X) → get (insert m key x) q ≡ Some y → ((q ≡ key) × (x ≡ y)) ⊎ ((q ≢ key) × (get m q ≡ Some y))
found-insert m key x q y e = grind (arith, gets, nat_tests)

pub found-remove : {X : Type 0} (m : FiniteMap X) (key : ℕ) (q : ℕ) (y : X) → get (remove m key) q ≡ Some y → (q ≢ key) × (get m q ≡ Some y)
found-remove m key q y e = grind (arith, gets, nat_tests)

pub found-empty : {X : Type 0} (q : ℕ) (y : X) → get (empty {X = X} {R = nat_cmp}) q ≡ Some y → ⊥
found-empty q y e = grind (arith, gets)

pub found-kept : {X : Type 0} (test : ℕ → X → Bool) (m : FiniteMap X) (q : ℕ) (y : X) → get (kept test m) q ≡ Some y → (test q y ≡ true) × (get m q ≡ Some y)
found-kept {X = X} test m q y e =
    let p : ℕ → Bool = λ key. passes test key (get m key) in
    let same : cond (p q) (get m q) None ≡ Some y = sym (get-retain_keys m p q (λ x t. ap p (sym (nat_cmp-IsAntisymmetric q x t)))) ∙ e in
    passed (get m q) same
  where
    passed : (x : Option X) → cond (passes test q x) x None ≡ Some y → (test q y ≡ true) × (x ≡ Some y)
    passed None h = cc
    passed (Some z) h = grind arith

pub Each-insert : {X : Type 0} (P : ℕ → X → Type 0) (m : FiniteMap X) (key : ℕ) (x : X) → P key x → Each P m → Each P (insert m key x)
Each-insert P m key x here each q y e = elim (found-insert m key x q y e) [
  | inl same ↦ subst (λ k. P k y) (sym same.0) (subst (P key) same.1 here)
  | inr old ↦ each q y old.1
]

pub Each-remove : {X : Type 0} (P : ℕ → X → Type 0) (m : FiniteMap X) (key : ℕ) → Each P m → Each P (remove m key)
Each-remove P m key each q y e = each q y (found-remove m key q y e).1

pub Each-empty : {X : Type 0} (P : ℕ → X → Type 0) → Each P empty
Each-empty P q y e = absurd (found-empty q y e)

pub Each-weaker : {X : Type 0} (P Q : ℕ → X → Type 0) (m : FiniteMap X) → ((key : ℕ) (x : X) → P key x → Q key x) → Each P m → Each Q m
Each-weaker P Q m weaker each q y e = weaker q y (each q y e)

-- what stands at a place of a list is among it
pub among_at : {X : Type 0} (xs : List X) (i : ℕ) (x : X) → slice_get xs i ≡ Some x → Among x xs
among_at [] i x is = absurd (cc is)
among_at (y ∷ xs) zero x is = inl (sym (same_Some y x is))
among_at (y ∷ xs) (suc i) x is = inr (among_at xs i x is)

pub Among-left : {X : Type 0} (x : X) (xs ys : List X) → Among x xs → Among x (xs ++ ys)
Among-left x (y ∷ xs) ys (inl here) = inl here
Among-left x (y ∷ xs) ys (inr there) = inr (Among-left x xs ys there)
Among-left x [] ys none = absurd none

pub Among-right : {X : Type 0} (x : X) (xs ys : List X) → Among x ys → Among x (xs ++ ys)
Among-right x [] ys h = h
Among-right x (y ∷ xs) ys h = inr (Among-right x xs ys h)

pub Among-cases : {X : Type 0} (x : X) (xs ys : List X) → Among x (xs ++ ys) → Among x xs ⊎ Among x ys
Among-cases x [] ys h = inr h
Among-cases x (y ∷ xs) ys (inl here) = inl (inl here)
Among-cases x (y ∷ xs) ys (inr there) = ⊎_elim (λ l. inl (inr l)) (λ r. inr r) (Among-cases x xs ys there)

-- what is among one thing is that
pub Among-only : {X : Type 0} (x y : X) → Among x (y ∷ []) → x ≡ y
Among-only x y (inl is) = is
Among-only x y (inr none) = absurd none

-- the last of a list, and one of a list with one more after it
pub Among-last : {X : Type 0} (x : X) (xs : List X) → Among x (xs ++ (x ∷ []))
Among-last x xs = Among-right x xs (x ∷ []) (inl refl)

pub Among-one_more : {X : Type 0} (x y : X) (xs : List X) → Among x (xs ++ (y ∷ [])) → Among x xs ⊎ (x ≡ y)
Among-one_more x y xs h = ⊎_elim (λ l. inl l) (λ r. inr (Among-only x y r)) (Among-cases x xs (y ∷ []) h)

pub get-insert_same : {X : Type 0} (m : FiniteMap X) (key : ℕ) (x : X) → get (insert m key x) key ≡ Some x
get-insert_same m key x = grind (arith, gets, nat_tests)

pub get-insert_other : {X : Type 0} (m : FiniteMap X) (key : ℕ) (x : X) (q : ℕ) → q ≢ key → get (insert m key x) q ≡ get m q
get-insert_other m key x q other = grind (arith, gets, nat_tests)

-- an entry that passes is kept
pub get-kept : {X : Type 0} (test : ℕ → X → Bool) (m : FiniteMap X) (q : ℕ) (y : X) → get m q ≡ Some y → test q y ≡ true → get (kept test m) q ≡ Some y
get-kept {X = X} test m q y e pass =
    let p : ℕ → Bool = λ key. passes test key (get m key) in
    get-retain_keys m p q (λ x t. ap p (sym (nat_cmp-IsAntisymmetric q x t))) ∙ passed (get m q) e
  where
    passed : (x : Option X) → x ≡ Some y → cond (passes test q x) x None ≡ Some y
    passed None h = cc
    passed (Some z) h = let same : z ≡ y = cc in grind (arith, same, pass)

-- what stands at a key once each value has changed
abbrev changed_at : {X : Type 0} → (X → X) → Option X → Option X
changed_at f None = None
changed_at f (Some x) = Some (f x)

changed_at-cond : {X : Type 0} (f : X → X) (b : Bool) (x : X) (o : Option X) → cond b (Some (f x)) (changed_at f o) ≡ changed_at f (cond b (Some x) o)
changed_at-cond f true x o = refl
changed_at-cond f false x o = refl

find-changed : {X : Type 0} (f : X → X) (es : List (ℕ × X)) (q : ℕ) → find nat_cmp q (map (with_value f) es) ≡ changed_at f (find nat_cmp q es)
find-changed f [] q = refl
find-changed f (e ∷ es) q = ap (cond (eq_by_cmp nat_cmp q e.0) (Some (f e.1))) (find-changed f es q) ∙ changed_at-cond f (eq_by_cmp nat_cmp q e.0) e.1 (find nat_cmp q es)

get-changed : {X : Type 0} (f : X → X) (m : FiniteMap X) (q : ℕ) → get (changed f m) q ≡ changed_at f (get m q)
get-changed f m q = get-from_entries nat_cmp_total (map (with_value f) (entries m)) q ∙ find-changed f (entries m) q ∙ ap (changed_at f) (sym (get-entries m q))

-- a changed entry, and the one that it was
pub record WasChanged {X : Type 0} (f : X → X) (m : FiniteMap X) (q : ℕ) (y : X) : Type 0 where
  pub before : X
  pub stood : get m q ≡ Some before
  pub is : y ≡ f before

pub found-changed : {X : Type 0} (f : X → X) (m : FiniteMap X) (q : ℕ) (y : X) → get (changed f m) q ≡ Some y → WasChanged f m q y
found-changed {X = X} f m q y e = was (get m q) refl (sym (get-changed f m q) ∙ e)
  where
    was : (o : Option X) → get m q ≡ o → changed_at f o ≡ Some y → WasChanged f m q y
    was None is h = absurd (cc h)
    was (Some x) is h = record { before = x; stood = is; is = cc }

pub get-changed_some : {X : Type 0} (f : X → X) (m : FiniteMap X) (q : ℕ) (x : X) → get m q ≡ Some x → get (changed f m) q ≡ Some (f x)
get-changed_some f m q x e = get-changed f m q ∙ ap (changed_at f) e
