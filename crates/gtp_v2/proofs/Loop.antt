-- Reading elements one after the other, as a loop does.
use Rattle.std.proofs.Common.{◌≡◌, List, [], ◌∷◌, ◌++◌, map, Result, Ok, Err, refl, sym, ap, subst, ◌∙◌, append_assoc}
use Rattle.std.specs.Prelude.{IsOk, IsOkAnd}
use Rattle.std.specs.Result.{result_unwrap_or}
use Rattle.std.proofs.lemmas.List.{append-nil, map_push}
use Rattle.gtp_ie.specs.Element.{Element}
use Rattle.gtp_values.specs.Steps.{◌>>=◌}
use Rattle.gtp_v2.specs.declared.fault.RowFault.{RowFault}
use Rattle.gtp_v2.specs.reading.Rows.{each_at}
use Rattle.gtp_v2.specs.reading.Outcome.{IsAppended}

-- what was read before, and what is still read
abbrev pub with_front : {X : Type 0} → List X → Result (List X) RowFault → Result (List X) RowFault
with_front front read = read >>= λ xs. Ok (front ++ xs)

regroup : {X : Type 0} (front : List X) (first : X) (read : Result (List X) RowFault) → with_front front (read >>= λ others. Ok (first ∷ others)) ≡ with_front (front ++ first ∷ []) read
regroup {X = X} front first (Ok others) = ap (λ (xs : List X). Ok xs) (simp append_assoc)
regroup front first (Err f) = refl

-- an element that was read
pub goes_on : {X : Type 0} (read : Element → Result X RowFault) (front : List X) (e : Element) (es left : List Element) (first : X) (total : Result (List X) RowFault)
    → left ≡ e ∷ es → read e ≡ Ok first → with_front front (each_at read left) ≡ total → with_front (front ++ first ∷ []) (each_at read es) ≡ total
unfolding each_at
goes_on read front e es left first total split h so_far =
    let one : with_front front (each_at read left) ≡ with_front (front ++ first ∷ []) (each_at read es) = rw (split, h) (regroup front first (each_at read es)) in
    sym one ∙ so_far

-- an element at fault
pub ends : {X : Type 0} (read : Element → Result X RowFault) (f : RowFault) (front : List X) (e : Element) (es left : List Element) (total : Result (List X) RowFault)
    → left ≡ e ∷ es → read e ≡ Err f → with_front front (each_at read left) ≡ total → total ≡ Err f
unfolding each_at
ends read f front e es left total split h so_far =
    let one : with_front front (each_at read left) ≡ Err f = rw (split, h) refl in
    sym so_far ∙ one

-- no element is left
pub is_done : {X : Type 0} (read : Element → Result X RowFault) (front : List X) (left : List Element) (total : Result (List X) RowFault) → left ≡ []
    → with_front front (each_at read left) ≡ total → total ≡ Ok front
unfolding each_at
is_done {X = X} read front left total none so_far =
    let one : with_front front (each_at read left) ≡ Ok front = rw none (ap (λ (xs : List X). Ok xs) (append-nil front)) in
    sym so_far ∙ one

-- before the first element
pub nothing_before : {X : Type 0} (read : Result (List X) RowFault) → with_front [] read ≡ read
nothing_before (Ok xs) = refl
nothing_before (Err f) = refl

-- ---- gathering what is read, where all elements read

-- what was gathered, and what is still read
abbrev pub Gathers : {X : Type 0} → (Element → Result X RowFault) → List X → List Element → Result (List X) RowFault → Type 0
Gathers read items left total = with_front items (each_at read left) ≡ total

pub gathers_first : {X : Type 0} (read : Element → Result X RowFault) (items : List X) (es left : List Element) → items ≡ [] → left ≡ es → Gathers read items left (each_at read es)
gathers_first read items es left none all = rw (none, all) (nothing_before (each_at read es))

-- an element reads
pub gathers_one : {X : Type 0} (read : Element → Result X RowFault) (items : List X) (e : Element) (es left : List Element) (total : Result (List X) RowFault)
    → left ≡ e ∷ es → IsOk total → Gathers read items left total → IsOk (read e)
unfolding each_at
gathers_one {X = X} read items e es left total split all so_far =
    by_first (read e) (each_at read es) (subst (λ (r : Result (List X) RowFault). IsOk r) (sym so_far ∙ ap (λ (es : List Element). with_front items (each_at read es)) split) all)
  where
    by_first : (r : Result X RowFault) (others : Result (List X) RowFault) → IsOk (with_front items (r >>= λ first. others >>= λ xs. Ok (first ∷ xs))) → IsOk r
    by_first (Ok x) others h = refl
    by_first (Err f) others h = h

-- and then there is some
pub gathers_some : {X : Type 0} (Has : List X → Type 0) (has : (x : X) (xs : List X) → Has (x ∷ xs)) (read : Element → Result X RowFault) (items : List X)
    (e : Element) (es left : List Element) (total : Result (List X) RowFault)
    → left ≡ e ∷ es → IsOk total → Gathers read items left total → IsOkAnd total Has
unfolding each_at
gathers_some {X = X} Has has read items e es left total split all so_far =
    let same : with_front items (read e >>= λ first. each_at read es >>= λ xs. Ok (first ∷ xs)) ≡ total = ap (λ (es : List Element). with_front items (each_at read es)) (sym split) ∙ so_far in
    subst (λ (r : Result (List X) RowFault). IsOkAnd r Has) same (by_first items (read e) (each_at read es) (subst (λ (r : Result (List X) RowFault). IsOk r) (sym same) all))
  where
    by_first : (front : List X) (r : Result X RowFault) (others : Result (List X) RowFault)
        → IsOk (with_front front (r >>= λ first. others >>= λ xs. Ok (first ∷ xs)))
        → IsOkAnd (with_front front (r >>= λ first. others >>= λ xs. Ok (first ∷ xs))) Has
    by_first [] (Ok x) (Ok xs) h = has x xs
    by_first (y ∷ ys) (Ok x) (Ok xs) h = has y (ys ++ x ∷ xs)
    by_first front (Ok x) (Err f) h = absurd cc
    by_first front (Err f) others h = absurd cc

-- one that was appended
pub appended : {C X E : Type 0} (view : C → X) (before : List C) (one : C) (outcome : Result X E) (after : List C) → after ≡ before ++ one ∷ []
    → outcome ≡ Ok (view one) → IsAppended view before outcome after
appended view before one outcome after items gives = rw (items, gives) (map_push (λ c. Ok (view c)) before one)

-- an element that reads, whose reading was appended
pub gathers_given : {C X : Type 0} (view : C → X) (read : Element → Result X RowFault) (before after : List C) (e : Element) (es left : List Element) (total : Result (List X) RowFault)
    → left ≡ e ∷ es → IsOk (read e) → IsAppended view before (read e) after → Gathers read (map view before) left total → Gathers read (map view after) es total
gathers_given {C = C} {X = X} view read before after e es left total split ok appended so_far =
    by_reading (read e) refl ok appended
  where
    -- the values, of the readings
    values_of : (x : X) (cs : List C) → map (λ r. result_unwrap_or r x) (map {B = Result X RowFault} (λ c. Ok (view c)) cs) ≡ map view cs
    values_of x [] = refl
    values_of x (c ∷ cs) = ap (λ (xs : List X). view c ∷ xs) (values_of x cs)

    by_reading : (r : Result X RowFault) → read e ≡ r → IsOk r → IsAppended view before r after → Gathers read (map view after) es total
    by_reading (Ok x) reads ok one =
        let or : Result X RowFault → X = λ r. result_unwrap_or r x in
        let values : map view after ≡ map view before ++ x ∷ [] =
        sym (values_of x after) ∙ ap (map or) one ∙ map_push or (map (λ c. Ok (view c)) before) (Ok x) ∙ ap (λ (xs : List X). xs ++ x ∷ []) (values_of x before) in
        rw values (goes_on read (map view before) e es left x total split reads so_far)
    by_reading (Err f) reads ok one = absurd cc

-- the same, where all elements read
pub gathers_appended : {C X : Type 0} (view : C → X) (read : Element → Result X RowFault) (before after : List C) (e : Element) (es left : List Element) (total : Result (List X) RowFault)
    → left ≡ e ∷ es → IsOk total → IsAppended view before (read e) after → Gathers read (map view before) left total → Gathers read (map view after) es total
gathers_appended view read before after e es left total split all appended so_far =
    gathers_given view read before after e es left total split (gathers_one read (map view before) e es left total split all so_far) appended so_far
