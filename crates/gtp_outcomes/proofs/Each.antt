-- Parts that say of each of a list whether something holds, one after the other.
use Rattle.std.proofs.Common.{◌≡◌, ◌↔◌, ℕ, ◌+◌, ◌<◌, List, [], ◌∷◌, ◌++◌, Bool, IsTrue, Some, map, option_map, length, take, get_or, slice_get, refl, sym, ap, ◌∙◌, append_assoc}
use Rattle.std.proofs.lemmas.List.{append-nil, take_more}
use Rattle.std.proofs.lemmas.Option.{slice_get-map, slice_get-get_or, slice_get_within, get_or_from_slice_get, same_Some}
use Rattle.gtp_outcomes.specs.Each.{TellsEach, AddsEach}

-- one part more
pub one_more : {X Y : Type 0} (Holds : X → Type 0) (part : X → Bool → List Y) (xs : List X) (x : X) (verdict : Bool) (parts : List Y)
    → TellsEach Holds part xs parts → (IsTrue verdict ↔ Holds x) → TellsEach Holds part (xs ++ (x ∷ [])) (parts ++ part x verdict)
one_more Holds part [] x verdict parts none is = (verdict, [], is, refl, ap (λ ys. ys ++ part x verdict) none ∙ sym (append-nil (part x verdict)))
one_more Holds part (y ∷ xs) x verdict parts (first, others, holds, tells, whole) is =
    (first, others ++ part x verdict, holds, one_more Holds part xs x verdict others tells is, ap (λ ys. ys ++ part x verdict) whole ∙ append_assoc (part y first) others (part x verdict))

pub adds_one : {X Y : Type 0} (Holds : X → Type 0) (part : X → Bool → List Y) (xs : List X) (x : X) (verdict : Bool) (old mid new : List Y)
    → AddsEach Holds part xs old mid → (IsTrue verdict ↔ Holds x) → new ≡ mid ++ part x verdict → AddsEach Holds part (xs ++ (x ∷ [])) old new
adds_one Holds part xs x verdict old mid new (parts, tells, so_far) is more =
    (parts ++ part x verdict, one_more Holds part xs x verdict parts tells is, more ∙ (ap (λ ys. ys ++ part x verdict) so_far ∙ append_assoc old parts (part x verdict)))

-- one more of those that were left
pub goes_on : {X Y : Type 0} (Holds : X → Type 0) (part : X → Bool → List Y) (all left rest : List X) (x : X) (verdict : Bool) (old mid new : List Y)
    → (done : List X) × (done ++ left ≡ all) × AddsEach Holds part done old mid → left ≡ x ∷ rest → (IsTrue verdict ↔ Holds x) → new ≡ mid ++ part x verdict
    → (done : List X) × (done ++ rest ≡ all) × AddsEach Holds part done old new
goes_on Holds part all left rest x verdict old mid new (done, whole, adds) yields is more =
    (done ++ (x ∷ []), append_assoc done (x ∷ []) rest ∙ (ap (λ l. done ++ l) (sym yields) ∙ whole), adds_one Holds part done x verdict old mid new adds is more)

-- the next of a list
takes_on : {X Y : Type 0} (Holds : X → Type 0) (part : X → Bool → List Y) (all : List X) (i : ℕ) (x : X) (verdict : Bool) (old mid new : List Y)
    → AddsEach Holds part (take i all) old mid → slice_get all i ≡ Some x → (IsTrue verdict ↔ Holds x) → new ≡ mid ++ part x verdict
    → AddsEach Holds part (take (i + 1) all) old new
takes_on Holds part all i x verdict old mid new adds there is more =
    let next : take (i + 1) all ≡ take i all ++ (x ∷ []) = take_more all i x (slice_get_within all i x there) ∙ ap (λ y. take i all ++ (y ∷ [])) (get_or_from_slice_get all i x x there) in
    rw next (adds_one Holds part (take i all) x verdict old mid new adds is more)

-- and the next of one that has a value for each item of another
pub takes_item : {E X Y : Type 0} (Holds : X → Type 0) (part : X → Bool → List Y) (view : E → X) (items : List E) (all : List X) (i : ℕ) (item : E) (verdict : Bool) (old mid new : List Y)
    → map view items ≡ all → item ≡ get_or items i item → i < length items → (x : X) × (slice_get all i ≡ Some x) × (IsTrue verdict ↔ Holds x)
    → AddsEach Holds part (take i all) old mid → new ≡ mid ++ part (view item) verdict
    → AddsEach Holds part (take (i + 1) all) old new
takes_item Holds part view items all i item verdict old mid new are at lt (x, there, is) adds more =
    let stands : slice_get all i ≡ Some (view item) = ap (λ l. slice_get l i) (sym are) ∙ (slice_get-map view items i ∙ ap (option_map view) (slice_get-get_or items i item lt ∙ ap Some (sym at))) in
    let same : x ≡ view item = same_Some x (view item) (sym there ∙ stands) in
    takes_on Holds part all i x verdict old mid new adds there is (more ∙ ap (λ y. mid ++ part y verdict) (sym same))
