-- An index of elements finds what a walk finds.
use Rattle.std.proofs.Common.{rules, ◌≡◌, ℕ, zero, suc, ◌+◌, ◌-◌, ◌<◌, ◌≤◌, Bool, true, false, cond, ◌&&◌, List, [], ◌∷◌, ◌++◌, length, drop, get_or}
use Rattle.std.proofs.Common.{set, ◌^◌, Some, Result, Ok, Err, refl, sym, ap, subst, ◌∙◌, arith, append_assoc, eq-eqb}
use Rattle.std.specs.Prelude.{◌==◌}
use Rattle.std.proofs.lemmas.List.{drop_at, length-drop, length-append, get_or-set_same, get_or-set_other, length-set}
use Rattle.std.proofs.lemmas.Bool.{eqb-true, eqb-false}
use Rattle.gtp_ie.specs.Element.{Element, front_of, elements_of, and_then_more, list_of, is_of, first_of, all_of}
use Rattle.gtp_ie.specs.reading.View.{stop_of}
use Rattle.gtp_ie.specs.reading.Index.{slot, from_slot, walk_from_slot, elements_left, IsIndexed}
use Rattle.gtp_ie.proofs.Walk.{walk_on, walk_ends, stop_on, front_long}
use Rattle.gtp_ie.proofs.Walked.{front_begins}

-- ---- no element of a type and instance stands before the first one of its slot

same_pair : (a b c d : ℕ) → ((a == b) && (c == d)) ≡ true → (a ≡ b) × (c ≡ d)
same_pair a b c d h = search rules

-- an element of a type and instance has its slot
in_slot : (kind instance : ℕ) (e : Element) → is_of kind instance e ≡ true → (slot e.kind e.instance == slot kind instance) ≡ true
in_slot kind instance e h =
    let p = same_pair e.kind kind e.instance instance h in
    eq-eqb (slot e.kind e.instance) (slot kind instance) (ap (λ k. slot k e.instance) p.0 ∙ ap (λ i. slot kind i) p.1)

not_of : (kind instance : ℕ) (e : Element) → (slot e.kind e.instance == slot kind instance) ≡ false → (b : Bool) → is_of kind instance e ≡ b → b ≡ false
not_of kind instance e other true is = absurd (let no = sym other ∙ in_slot kind instance e is in cc)
not_of kind instance e other false is = refl

first_by_slot : (kind instance : ℕ) (e : Element) (es : List Element) → first_of kind instance (from_slot (slot kind instance) es) ≡ first_of kind instance es
    → (b : Bool) → (slot e.kind e.instance == slot kind instance) ≡ b → first_of kind instance (cond b (e ∷ es) (from_slot (slot kind instance) es)) ≡ first_of kind instance (e ∷ es)
first_by_slot kind instance e es others true here = refl
first_by_slot kind instance e es others false here = others ∙ sym (ap (λ b. cond b (Some e) (first_of kind instance es)) (not_of kind instance e here (is_of kind instance e) refl))

first_from : (kind instance : ℕ) (es : List Element) → first_of kind instance (from_slot (slot kind instance) es) ≡ first_of kind instance es
first_from kind instance [] = refl
first_from kind instance (e ∷ es) = first_by_slot kind instance e es (first_from kind instance es) (slot e.kind e.instance == slot kind instance) refl

all_by_slot : (kind instance : ℕ) (e : Element) (es : List Element) → all_of kind instance (from_slot (slot kind instance) es) ≡ all_of kind instance es
    → (b : Bool) → (slot e.kind e.instance == slot kind instance) ≡ b → all_of kind instance (cond b (e ∷ es) (from_slot (slot kind instance) es)) ≡ all_of kind instance (e ∷ es)
all_by_slot kind instance e es others true here = refl
all_by_slot kind instance e es others false here = others ∙ sym (ap (λ b. cond b (e ∷ all_of kind instance es) (all_of kind instance es)) (not_of kind instance e here (is_of kind instance e) refl))

all_from : (kind instance : ℕ) (es : List Element) → all_of kind instance (from_slot (slot kind instance) es) ≡ all_of kind instance es
all_from kind instance [] = refl
all_from kind instance (e ∷ es) = all_by_slot kind instance e es (all_from kind instance es) (slot e.kind e.instance == slot kind instance) refl

list_from : (s : ℕ) (r : Result (List Element) ℕ) → list_of (walk_from_slot s r) ≡ from_slot s (list_of r)
list_from s (Ok es) = refl
list_from s (Err at) = refl

-- what is found in the octets that are left
pub first_left : (base : ℕ) (octets lefts : List ℕ) (kind instance s : ℕ) → IsIndexed base octets lefts → s ≡ slot kind instance → s < 22
    → first_of kind instance (list_of (elements_left base octets (get_or lefts s 0))) ≡ first_of kind instance (list_of (elements_of base octets))
first_left base octets lefts kind instance s indexed is few =
    ap (λ r. first_of kind instance (list_of r)) (indexed.slots s few)
    ∙ ap (first_of kind instance) (list_from s (elements_of base octets) ∙ ap (λ n. from_slot n (list_of (elements_of base octets))) is)
    ∙ first_from kind instance (list_of (elements_of base octets))

pub all_left : (base : ℕ) (octets lefts : List ℕ) (kind instance s : ℕ) → IsIndexed base octets lefts → s ≡ slot kind instance → s < 22
    → all_of kind instance (list_of (elements_left base octets (get_or lefts s 0))) ≡ all_of kind instance (list_of (elements_of base octets))
all_left base octets lefts kind instance s indexed is few =
    ap (λ r. all_of kind instance (list_of r)) (indexed.slots s few)
    ∙ ap (all_of kind instance) (list_from s (elements_of base octets) ∙ ap (λ n. from_slot n (list_of (elements_of base octets))) is)
    ∙ all_from kind instance (list_of (elements_of base octets))

-- ---- the walk that fills the index

-- what is known of a slot: nothing of it was passed, or how many octets are left from its first element on
abbrev pub SlotIs : ℕ → List ℕ → Result (List Element) ℕ → ℕ → ℕ → Type 0
SlotIs base octets ahead s zero = walk_from_slot s ahead ≡ walk_from_slot s (elements_of base octets)
SlotIs base octets ahead s (suc left) = elements_left base octets (suc left) ≡ walk_from_slot s (elements_of base octets)

pub record Indexes (base : ℕ) (octets lefts rest : List ℕ) (at : ℕ) : Type 0 where
  pub stop : stop_of (elements_of at rest) ≡ stop_of (elements_of base octets)
  pub place : at + length rest ≡ base + length octets
  pub passed : (front : List ℕ) × (front ++ rest ≡ octets)
  pub count : length lefts ≡ 22
  pub room : (s : ℕ) → get_or lefts s 0 ≤ length octets
  pub slots : (s : ℕ) → s < 22 → SlotIs base octets (elements_of at rest) s (get_or lefts s 0)

-- the octets left are those ahead
ahead_left : (base at : ℕ) (octets rest : List ℕ) → at + length rest ≡ base + length octets → ((front : List ℕ) × (front ++ rest ≡ octets))
    → elements_left base octets (length rest) ≡ elements_of at rest
ahead_left base at octets rest place passed =
    let long = ap length (sym passed.1) ∙ length-append passed.0 rest in
    let behind : length octets - length rest ≡ length passed.0 = omega (arith, long) in
    let there : base + (length octets - length rest) ≡ at = omega (arith, long, place) in
    let same : drop (length octets - length rest) octets ≡ rest = ap (λ xs. drop (length octets - length rest) xs) (sym passed.1) ∙ drop_at passed.0 rest (length octets - length rest) (sym behind) in
    ap (λ n. elements_of n (drop (length octets - length rest) octets)) there ∙ ap (elements_of at) same

abbrev cut_at : ℕ → Result (List Element) ℕ
cut_at at = Err at

abbrev whole_so_far : List Element → Result (List Element) ℕ
whole_so_far es = Ok es

more_from : (s : ℕ) (e : Element) (r : Result (List Element) ℕ) → walk_from_slot s (and_then_more e r) ≡ cond (slot e.kind e.instance == s) (and_then_more e r) (walk_from_slot s r)
more_from s e (Ok es) = by_slot (slot e.kind e.instance == s) where
  by_slot : (b : Bool) → whole_so_far (cond b (e ∷ es) (from_slot s es)) ≡ cond b (whole_so_far (e ∷ es)) (whole_so_far (from_slot s es))
  by_slot true = refl
  by_slot false = refl
more_from s e (Err at) = by_slot (slot e.kind e.instance == s) where
  by_slot : (b : Bool) → cut_at at ≡ cond b (cut_at at) (cut_at at)
  by_slot true = refl
  by_slot false = refl

-- an element of another slot changes nothing
slot_passed : (base : ℕ) (octets : List ℕ) (e : Element) (r : Result (List Element) ℕ) (s left : ℕ) → (slot e.kind e.instance == s) ≡ false
    → SlotIs base octets (and_then_more e r) s left → SlotIs base octets r s left
slot_passed base octets e r s zero other so_far = sym (more_from s e r ∙ ap (λ b. cond b (and_then_more e r) (walk_from_slot s r)) other) ∙ so_far
slot_passed base octets e r s (suc left) other so_far = so_far

-- nor does one of a slot that has its first element
slot_known : (base : ℕ) (octets : List ℕ) (ahead r : Result (List Element) ℕ) (s left : ℕ) → 0 < left → SlotIs base octets ahead s left → SlotIs base octets r s left
slot_known base octets ahead r s zero some so_far = absurd (omega arith)
slot_known base octets ahead r s (suc left) some so_far = so_far

-- the first element of a slot
slot_found : (base : ℕ) (octets : List ℕ) (e : Element) (r after : Result (List Element) ℕ) (s left : ℕ) → (slot e.kind e.instance == s) ≡ true → 0 < left
    → elements_left base octets left ≡ and_then_more e r → SlotIs base octets (and_then_more e r) s 0 → SlotIs base octets after s left
slot_found base octets e r after s zero here some ahead so_far = absurd (omega arith)
slot_found base octets e r after s (suc left) here some ahead so_far = ahead ∙ sym (more_from s e r ∙ ap (λ b. cond b (and_then_more e r) (walk_from_slot s r)) here) ∙ so_far

-- ---- one element more

record IsNext (base : ℕ) (octets rest : List ℕ) (at : ℕ) (e : Element) (after : List ℕ) : Type 0 where
  pub on : elements_of at rest ≡ and_then_more e (elements_of (at + (4 + length e.body)) after)
  pub stop : stop_of (elements_of (at + (4 + length e.body)) after) ≡ stop_of (elements_of base octets)
  pub place : at + (4 + length e.body) + length after ≡ base + length octets
  pub passed : (front : List ℕ) × (front ++ after ≡ octets)
  pub some : 0 < length rest
  pub few : length rest ≤ length octets
  pub ahead : elements_left base octets (length rest) ≡ and_then_more e (elements_of (at + (4 + length e.body)) after)

is_next : (base : ℕ) (octets lefts rest : List ℕ) (at : ℕ) (e : Element) (after : List ℕ) → Indexes base octets lefts rest at → front_of at rest ≡ Some (e, after) → IsNext base octets rest at e after
is_next base octets lefts rest at e after so_far found =
    let on = walk_on at rest e after found in
    let long = front_long at rest e after found in
    let begins = front_begins at rest e after found in
    let before = so_far.passed.0 in
    let octets_of : List ℕ = e.kind ∷ begins.0 ∷ begins.1 ∷ begins.2 ∷ e.body in
    let split : octets_of ++ after ≡ rest = sym begins.3 in
    record {
      on = on;
      stop = sym (ap stop_of on ∙ stop_on e _) ∙ so_far.stop;
      place = omega (arith, long.long, so_far.place);
      passed = (before ++ octets_of, joined before octets_of split ∙ so_far.passed.1);
      some = omega (arith, long.long);
      few = omega (arith, ap length (sym so_far.passed.1) ∙ length-append before rest);
      ahead = ahead_left base at octets rest so_far.place so_far.passed ∙ on;
    }
  where
    joined : (front own : List ℕ) → own ++ after ≡ rest → (front ++ own) ++ after ≡ front ++ rest
    joined front own split = simp append_assoc (ap (λ xs. front ++ xs) split)

-- its slot was known
pub index_known : (base : ℕ) (octets lefts rest : List ℕ) (at : ℕ) (e : Element) (after : List ℕ) → front_of at rest ≡ Some (e, after) → 0 < get_or lefts (slot e.kind e.instance) 0
    → Indexes base octets lefts rest at → Indexes base octets lefts after (at + (4 + length e.body))
index_known base octets lefts rest at e after found known so_far =
    let next = is_next base octets lefts rest at e after so_far found in
    let ahead = elements_of (at + (4 + length e.body)) after in
    record {
      stop = next.stop;
      place = next.place;
      passed = next.passed;
      count = so_far.count;
      room = so_far.room;
      slots =
          λ s few. by_slot s ahead (subst (λ r. SlotIs base octets r s (get_or lefts s 0)) next.on (so_far.slots s few)) (slot e.kind e.instance == s) refl;
    }
  where
    by_slot : (s : ℕ) (r : Result (List Element) ℕ) → SlotIs base octets (and_then_more e r) s (get_or lefts s 0) → (b : Bool)
        → (slot e.kind e.instance == s) ≡ b → SlotIs base octets r s (get_or lefts s 0)
    by_slot s r was false other = slot_passed base octets e r s (get_or lefts s 0) other was
    by_slot s r was true here = slot_known base octets (and_then_more e r) r s (get_or lefts s 0) (subst (λ t. 0 < get_or lefts t 0) (eqb-true (slot e.kind e.instance) s here) known) was

-- its slot was not known, and is noted
pub index_noted : (base : ℕ) (octets lefts rest : List ℕ) (at : ℕ) (e : Element) (after : List ℕ) → front_of at rest ≡ Some (e, after) → slot e.kind e.instance < 22
    → get_or lefts (slot e.kind e.instance) 0 ≡ 0
    → Indexes base octets lefts rest at → Indexes base octets (set lefts (slot e.kind e.instance) (length rest)) after (at + (4 + length e.body))
index_noted base octets lefts rest at e after found range none so_far =
    let next = is_next base octets lefts rest at e after so_far found in
    let ahead = elements_of (at + (4 + length e.body)) after in
    record {
      stop = next.stop;
      place = next.place;
      passed = next.passed;
      count = length-set lefts (slot e.kind e.instance) (length rest) ∙ so_far.count;
      room = λ s. room_by s next.few (slot e.kind e.instance == s) refl;
      slots = λ s few. by_slot s ahead next.some next.ahead (subst (λ r. SlotIs base octets r s (get_or lefts s 0)) next.on (so_far.slots s few)) (slot e.kind e.instance == s) refl;
    }
  where
    here_is : (s : ℕ) → (slot e.kind e.instance == s) ≡ true → get_or (set lefts (slot e.kind e.instance) (length rest)) s 0 ≡ length rest
    here_is s here =
        subst (λ t. get_or (set lefts (slot e.kind e.instance) (length rest)) t 0 ≡ length rest) (eqb-true (slot e.kind e.instance) s here)
        (get_or-set_same lefts (slot e.kind e.instance) (length rest) 0 (omega (arith, so_far.count)))

    other_is : (s : ℕ) → (slot e.kind e.instance == s) ≡ false → get_or (set lefts (slot e.kind e.instance) (length rest)) s 0 ≡ get_or lefts s 0
    other_is s other = get_or-set_other lefts (slot e.kind e.instance) s (length rest) 0 (λ same. eqb-false (slot e.kind e.instance) s other (sym same))

    room_by : (s : ℕ) → length rest ≤ length octets → (b : Bool) → (slot e.kind e.instance == s) ≡ b → get_or (set lefts (slot e.kind e.instance) (length rest)) s 0 ≤ length octets
    room_by s few true here = omega (arith, here_is s here)
    room_by s few false other = omega (arith, other_is s other, so_far.room s)

    by_slot : (s : ℕ) (r : Result (List Element) ℕ) → 0 < length rest → elements_left base octets (length rest) ≡ and_then_more e r → SlotIs base octets (and_then_more e r) s (get_or lefts s 0)
        → (b : Bool) → (slot e.kind e.instance == s) ≡ b → SlotIs base octets r s (get_or (set lefts (slot e.kind e.instance) (length rest)) s 0)
    by_slot s r some left was true here =
        subst (SlotIs base octets r s) (sym (here_is s here)) (slot_found base octets e r r s (length rest) here some left
        (subst (SlotIs base octets (and_then_more e r) s) (subst (λ t. get_or lefts t 0 ≡ 0) (eqb-true (slot e.kind e.instance) s here) none) was))
    by_slot s r some left was false other = subst (SlotIs base octets r s) (sym (other_is s other)) (slot_passed base octets e r s (get_or lefts s 0) other was)

-- after the last element the index is whole
pub index_last : (base : ℕ) (octets lefts rest : List ℕ) (at : ℕ) → base + length octets < 2 ^ 64 → length rest ≡ 0 → Indexes base octets lefts rest at → IsIndexed base octets lefts
index_last base octets lefts rest at place none so_far =
    record { whole = record { whole = sym so_far.stop ∙ ap stop_of (walk_ends at rest none); place = place }; room = so_far.room; slots = λ s few. by_left s (get_or lefts s 0) (so_far.slots s few) }
  where
    by_left : (s left : ℕ) → SlotIs base octets (elements_of at rest) s left → elements_left base octets left ≡ walk_from_slot s (elements_of base octets)
    by_left s zero was =
        walk_ends (base + (length octets - 0)) (drop (length octets - 0) octets) (omega (arith, length-drop (length octets - 0) octets)) ∙ sym (ap (walk_from_slot s) (walk_ends at rest none)) ∙ was
    by_left s (suc left) was = was
