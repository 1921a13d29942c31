-- The bits of a set of places.
use Rattle.std.proofs.Common.{◌≡◌, ◌≢◌, ◌++◌, ◌∙◌, ℕ, ◌+◌, ◌*◌, ◌/◌, ◌%◌, ◌<◌, ◌≤◌, ◌^◌, inl, inr, None, List, length, take, Bool, true, false, cond, not, nat_eq, refl, sym, ap, arith}
use Rattle.std.specs.Prelude.{◌==◌, ◌&&◌, nat_lt, replicate, slice_index, slice_set}
use Rattle.std.proofs.Math.ListN.{length-set}
use Rattle.std.specs.Int.{w64, bit_at, trailing_zeros}
use Rattle.std.proofs.lemmas.Bool.{cases_eq, cases_lt, eq-eqb, ne_eqb, eqb-true, eqb-false}
use Rattle.std.proofs.lemmas.List.{take-append-le, take_all, get_or-set_same, get_or-set_other, get_or_past, get_or-replicate, length-replicate}
use Rattle.std.proofs.lemmas.Bool.Decides.{nat_tests}
use Rattle.std.proofs.Math.Bool.{and-true}
use Rattle.std.proofs.lemmas.Nat.Bits.{bit_at-zero, bit_at-trailing_zeros}
use Rattle.gtp_tables.specs.Lowest.{IsLowest, IsFirstFree, is_marked}
use Rattle.gtp_tables.specs.PlaceCounts.{AreFree}
use Rattle.gtp_tables.specs.PlaceSet.{has_place, is_empty, AreSummed, IsWritten}

-- the bit of a place in another word, or in a word with the same bit
same_bit : (words now : List ℕ) (p : ℕ) → bit_at (slice_index now (p / 64)) (p % 64) ≡ bit_at (slice_index words (p / 64)) (p % 64) → has_place now p ≡ has_place words p
same_bit words now p same = ap (λ (n : ℕ). n == 1) same

-- a word is written in which at most the bit of one place changes
rewritten : (words : List ℕ) (place x : ℕ) (became : Bool) → place < 64 * length words → (bit_at x (place % 64) == 1) ≡ became
    → ((i : ℕ) → i < 64 → i ≢ place % 64 → bit_at x i ≡ bit_at (slice_index words (place / 64)) i) → (p : ℕ)
    → has_place (slice_set words (place / 64) x) p ≡ cond (nat_eq p place) became (has_place words p)
rewritten words place x became within there others p = elim (cases_eq (p / 64) (place / 64)) [
  | inl word ↦ elim (cases_eq (p % 64) (place % 64)) [
    | inl bit ↦
        let is : p ≡ place = omega (arith, word, bit) in
        ap (λ (n : ℕ). n == 1) (at_word word (p % 64)) ∙ (ap (λ (i : ℕ). bit_at x i == 1) bit ∙ there) ∙ sym (ap (λ (b : Bool). cond b became (has_place words p)) (eq-eqb p place is))
    | inr bit ↦
        same_bit words (slice_set words (place / 64) x) p (at_word word (p % 64) ∙ (others (p % 64) (omega arith) bit ∙ ap (λ (w : ℕ). bit_at (slice_index words w) (p % 64)) (sym word)))
        ∙ elsewhere (λ is. bit (ap (λ (k : ℕ). k % 64) is))
  ]
  | inr word ↦ same_bit words (slice_set words (place / 64) x) p
      (ap (λ (n : ℕ). bit_at n (p % 64)) (get_or-set_other words (place / 64) (p / 64) x 0 word)) ∙ elsewhere (λ is. word (ap (λ (k : ℕ). k / 64) is))
]
  where
    at_word : p / 64 ≡ place / 64 → (i : ℕ) → bit_at (slice_index (slice_set words (place / 64) x) (p / 64)) i ≡ bit_at x i
    at_word word i = ap (λ (n : ℕ). bit_at n i) (ap (slice_index (slice_set words (place / 64) x)) word ∙ get_or-set_same words (place / 64) x 0 (omega (arith, within)))

    elsewhere : (p ≡ place → ⊥) → has_place words p ≡ cond (nat_eq p place) became (has_place words p)
    elsewhere ne = sym (ap (λ (b : Bool). cond b became (has_place words p)) (ne_eqb p place ne))

pub written : (words : List ℕ) (place x : ℕ) (bit : Bool) → place < 64 * length words → (bit_at x (place % 64) == 1) ≡ bit
    → ((i : ℕ) → i < 64 → i ≢ place % 64 → bit_at x i ≡ bit_at (slice_index words (place / 64)) i)
    → IsWritten words place bit (slice_set words (place / 64) x)
written words place x bit within there others = record {
  room = length-set words (place / 64) x;
  places = rewritten words place x bit within there others;
  others = λ w other. get_or-set_other words (place / 64) w x 0 (eqb-false w (place / 64) other);
}

-- a word with a place is not empty
pub not_empty : (words : List ℕ) (place : ℕ) → has_place words place ≡ true → not (is_empty words (place / 64)) ≡ true
not_empty words place has = elim (cases_eq (slice_index words (place / 64)) 0) [
  | inl zero ↦ let no : false ≡ true = sym (ap (λ (n : ℕ). n == 1) (ap (λ (n : ℕ). bit_at n (place % 64)) zero ∙ bit_at-zero (place % 64))) ∙ has in cc
  | inr some ↦ ap not (ne_eqb (slice_index words (place / 64)) 0 some)
]

-- an empty word has no place
pub no_place : (words : List ℕ) (place : ℕ) → is_empty words (place / 64) ≡ true → not (has_place words place) ≡ true
no_place words place zero = ap (λ (n : ℕ). not (n == 1)) (ap (λ (n : ℕ). bit_at n (place % 64)) (eqb-true (slice_index words (place / 64)) 0 zero) ∙ bit_at-zero (place % 64))

-- the lowest place is in the first word that is not empty
pub lowest_in : (words : List ℕ) (word : ℕ) → IsLowest (length words) (is_empty words) word → slice_index words word < 2 ^ 64
    → IsLowest (64 * length words) (λ p. not (has_place words p)) (word * 64 + trailing_zeros w64 (slice_index words word))
lowest_in words word first fits = record {
  within = omega (arith, zeros.0, first.within);
  free = ap (λ (n : ℕ). not (n == 1)) (ap (λ (w : ℕ). bit_at (slice_index words w) (at % 64)) (omega (arith, zeros.0)) ∙ (ap (bit_at n) (omega (arith, zeros.0)) ∙ zeros.1));
  lower = λ p lt. elim (cases_lt (p / 64) word) [
    | inl below ↦ no_place words p (first.lower (p / 64) below)
    | inr above ↦ ap (λ (n : ℕ). not (n == 1)) (ap (λ (w : ℕ). bit_at (slice_index words w) (p % 64)) (omega (arith, lt, above, zeros.0)) ∙ zeros.2 (p % 64) (omega (arith, lt, above, zeros.0)))
  ];
}
  where
    n : ℕ
    n = slice_index words word

    at : ℕ
    at = word * 64 + trailing_zeros w64 (slice_index words word)

    positive : 0 < slice_index words word
    positive = let some : slice_index words word ≢ 0 = eqb-false (slice_index words word) 0 first.free in omega arith

    zeros : (trailing_zeros w64 (slice_index words word) < 64) × (bit_at (slice_index words word) (trailing_zeros w64 (slice_index words word)) ≡ 1)
        × ((i : ℕ) → i < trailing_zeros w64 (slice_index words word) → bit_at (slice_index words word) i ≡ 0)
    zeros = bit_at-trailing_zeros w64 (slice_index words word) positive fits

-- where all words are empty, there is no place
pub none_in : (words : List ℕ) → ((w : ℕ) → w < length words → is_empty words w ≡ true) → IsFirstFree (64 * length words) (λ p. not (has_place words p)) None
none_in words empty p lt = no_place words p (empty (p / 64) (omega (arith, lt)))

-- ---- the summary

-- a word is written, and the summary says whether it is empty now
summed_again : (words summary now summed : List ℕ) (place : ℕ) (bit : Bool) → AreSummed words summary → IsWritten words place bit now
    → length summed ≡ length summary
    → ((w : ℕ) → has_place summed w ≡ cond (nat_eq w (place / 64)) (not (is_empty now (place / 64))) (has_place summary w)) → AreSummed now summed
summed_again words summary now summed place bit old written room tells = record {
  few = omega (arith, old.few, written.room);
  few_summed = omega (arith, old.few_summed, room);
  within = omega (arith, old.within, written.room, room);
  summed = λ w. by w (nat_eq w (place / 64)) refl;
}
  where
    by : (w : ℕ) (b : Bool) → nat_eq w (place / 64) ≡ b → has_place summed w ≡ not (is_empty now w)
    by w true is = tells w ∙ (ap (λ (b : Bool). cond b (not (is_empty now (place / 64))) (has_place summary w)) is ∙ ap (λ (v : ℕ). not (is_empty now v)) (sym (eqb-true w (place / 64) is)))
    by w false is = tells w ∙ (ap (λ (b : Bool). cond b (not (is_empty now (place / 64))) (has_place summary w)) is ∙ (old.summed w ∙ ap (λ (n : ℕ). not (n == 0)) (sym (written.others w is))))

at_place : (words now : List ℕ) (place : ℕ) (bit : Bool) → IsWritten words place bit now → has_place now place ≡ bit
at_place words now place bit written = written.places place ∙ ap (λ (b : Bool). cond b bit (has_place words place)) (eq-eqb place place refl)

pub inserted : (words summary now summed : List ℕ) (place : ℕ) → AreSummed words summary → IsWritten words place true now → IsWritten summary (place / 64) true summed → AreSummed now summed
inserted words summary now summed place old written told =
    summed_again words summary now summed place true old written told.room (λ w. told.places w
    ∙ ap (λ (b : Bool). cond (nat_eq w (place / 64)) b (has_place summary w)) (sym (not_empty now place (at_place words now place true written))))

-- the last place of a word is removed
pub removed_last : (words summary now summed : List ℕ) (place : ℕ) → AreSummed words summary → IsWritten words place false now → is_empty now (place / 64) ≡ true
    → IsWritten summary (place / 64) false summed → AreSummed now summed
removed_last words summary now summed place old written empty told =
    summed_again words summary now summed place false old written told.room
    (λ w. told.places w ∙ ap (λ (b : Bool). cond (nat_eq w (place / 64)) (not b) (has_place summary w)) (sym empty))

-- a place is removed, and its word has others
pub removed_one : (words summary now : List ℕ) (place : ℕ) → AreSummed words summary → has_place words place ≡ true → IsWritten words place false now
    → is_empty now (place / 64) ≡ false → AreSummed now summary
removed_one words summary now place old has written more = summed_again words summary now summary place false old written refl (λ w. by w (nat_eq w (place / 64)) refl)
  where
    by : (w : ℕ) (b : Bool) → nat_eq w (place / 64) ≡ b → has_place summary w ≡ cond b (not (is_empty now (place / 64))) (has_place summary w)
    by w true is = ap (has_place summary) (eqb-true w (place / 64) is) ∙ (old.summed (place / 64) ∙ (not_empty words place has ∙ ap not (sym more)))
    by w false is = refl

-- the first place of the summary is the first word that is not empty
pub first_word : (words summary : List ℕ) → AreSummed words summary → (word : ℕ) → IsLowest (64 * length summary) (λ w. not (has_place summary w)) word → IsLowest (length words) (is_empty words) word
first_word words summary old word first = record {
  within = elim (cases_lt word (length words)) [
    | inl lt ↦ lt
    | inr past ↦ let no : true ≡ false = sym (ap (λ (n : ℕ). n == 0) (get_or_past words word 0 past)) ∙ full in cc
  ];
  free = full;
  lower = λ w lt. twice w ∙ first.lower w lt;
}
  where
    twice : (w : ℕ) → is_empty words w ≡ not (has_place summary w)
    twice w = by (is_empty words w) (has_place summary w) (old.summed w)
      where
        by : (a b : Bool) → b ≡ not a → a ≡ not b
        by true b is = ap not (sym is)
        by false b is = ap not (sym is)

    full : is_empty words word ≡ false
    full = twice word ∙ first.free

pub no_word : (words summary : List ℕ) → AreSummed words summary → IsFirstFree (64 * length summary) (λ w. not (has_place summary w)) None → (w : ℕ) → w < length words → is_empty words w ≡ true
no_word words summary old none w lt = twice (is_empty words w) (has_place summary w) (old.summed w) ∙ none w (omega (arith, lt, old.within))
  where
    twice : (a b : Bool) → b ≡ not a → a ≡ not b
    twice true b is = ap not (sym is)
    twice false b is = ap not (sym is)

-- what a vector contains after its slice was written
pub written_back : (now rest : List ℕ) (n : ℕ) → n ≡ length now → take n (now ++ rest) ≡ now
written_back now rest n all = take-append-le n now rest (omega (arith, all)) ∙ take_all n now (omega (arith, all))

-- ---- the places that no session has

-- one more place is free
pub one_more : (p place : ℕ) → cond (nat_eq p place) true (nat_lt p place) ≡ nat_lt p (place + 1)
one_more p place = grind (arith, nat_tests)

-- no place is marked
unmarked : (count p : ℕ) → is_marked (replicate count 0) p ≡ false
unmarked count p = elim (cases_lt p count) [
  | inl below ↦ ap (λ (n : ℕ). not (n == 0)) (get_or-replicate count p 0 0 below)
  | inr past ↦ ap (λ (n : ℕ). not (n == 0)) (get_or_past (replicate count 0) p 0 (omega (arith, length-replicate {A = ℕ} count 0, past)))
]

pub all_free : (count : ℕ) (free : List ℕ) → count ≤ 65536 → length free ≡ count / 64 + 1 → ((p : ℕ) → has_place free p ≡ nat_lt p count) → AreFree (replicate count 0) free
all_free count free few room places = record {
  few = omega (arith, few, long);
  within = omega (arith, room, long);
  told = λ p. places p ∙ (ap (nat_lt p) (sym long) ∙ sym (ap (λ (b : Bool). nat_lt p (length none) && not b) (unmarked count p) ∙ and-true (nat_lt p (length none))));
}
  where
    none : List ℕ
    none = replicate count 0

    long : length none ≡ count
    long = length-replicate {A = ℕ} count 0
