-- Slots after a change: which requests they have, and where each number stands.
use Rattle.std.proofs.Common.{◌≡◌, ℕ, zero, suc, ◌+◌, ◌%◌, ◌^◌, ◌<◌, ◌≤◌, Bool, true, false, cond, List, [], ◌∷◌, ◌++◌, length, length-append, take}
use Rattle.std.proofs.Common.{drop, get_or, set, add-one, subst, Option, Some, None, refl, sym, ap, ◌∙◌, arith}
use Rattle.std.specs.Prelude.{◌==◌, nat_eq, not, filter, is_some}
use Rattle.std.specs.Map.{lookup}
use Rattle.std.proofs.lemmas.List.{set-get_or, get_or_default}
use Rattle.gtp_values.proofs.Tests.{turned, itself, same_number}
use Rattle.gtp_reliable.specs.Index.{after}
use Rattle.gtp_reliable.specs.Rows.{Sent, row_of, without, others_of, rows_of, number_where, is_other, has_gap, slot_of, AreNamed, AreApart}
use Rattle.gtp_reliable.proofs.Lists.{none_of, not_both, either_order}

-- ---- the request of a number

-- a number has a slot where there is a request of it
slot_by : {P : Type 0} (b : Bool) (first : ℕ) (r : Sent P) (o : Option ℕ) (p : Option (Sent P)) → is_some o ≡ is_some p → is_some (cond b (Some first) o) ≡ is_some (cond b (Some r) p)
slot_by true first r o p h = refl
slot_by false first r o p h = h

pub slot_is : {P : Type 0} (n first : ℕ) (slots : List (Option (Sent P))) → is_some (slot_of n first slots) ≡ is_some (row_of n (rows_of slots))
unfolding slot_of row_of
slot_is n first [] = refl
slot_is n first (None ∷ slots) = slot_is n ((first + 1) % 2 ^ 64) slots
slot_is n first (Some r ∷ slots) = slot_by (r.seq == n) first r (slot_of n ((first + 1) % 2 ^ 64) slots) (row_of n (rows_of slots)) (slot_is n ((first + 1) % 2 ^ 64) slots)

pub no_slot : {P : Type 0} (n first : ℕ) (slots : List (Option (Sent P))) → row_of n (rows_of slots) ≡ None → slot_of n first slots ≡ None
no_slot n first slots h = none_of (slot_of n first slots) (slot_is n first slots ∙ ap (λ (o : Option _). is_some o) h)

pub row_none : {P : Type 0} (n first : ℕ) (slots : List (Option (Sent P))) → slot_of n first slots ≡ None → row_of n (rows_of slots) ≡ None
row_none n first slots h = none_of (row_of n (rows_of slots)) (sym (slot_is n first slots) ∙ ap (λ (o : Option _). is_some o) h)

-- where the slot of a number is
pub record IsAt {P : Type 0} (n first p : ℕ) (slots : List (Option (Sent P))) : Type 0 where
  pub small : p < 2 ^ 64
  pub within : after first p < length slots
  pub request : Sent P
  pub is : get_or slots (after first p) None ≡ Some request
  pub row : row_of n (rows_of slots) ≡ Some request
  pub number : request.seq ≡ n

next_at : (first p n : ℕ) → first < 2 ^ 64 → p < 2 ^ 64 → after ((first + 1) % 2 ^ 64) p < n → n < 2 ^ 63 → after first p ≡ suc (after ((first + 1) % 2 ^ 64) p)
next_at first p n small other lt few = omega arith

row_cons : {P : Type 0} (n : ℕ) (r : Sent P) (rs : List (Sent P)) → row_of n (r ∷ rs) ≡ cond (r.seq == n) (Some r) (row_of n rs)
unfolding row_of
row_cons n r rs = refl

slot_at_by : {P : Type 0} (n first p : ℕ) (r : Sent P) (slots : List (Option (Sent P))) → first < 2 ^ 64 → length slots + 1 < 2 ^ 63 → (b : Bool)
    → (r.seq == n) ≡ b → cond b (Some first) (slot_of n ((first + 1) % 2 ^ 64) slots) ≡ Some p
    → (slot_of n ((first + 1) % 2 ^ 64) slots ≡ Some p → IsAt n ((first + 1) % 2 ^ 64) p slots) → IsAt n first p (Some r ∷ slots)
slot_at_by n first p r slots small few true e g rest =
    let here : first ≡ p = cc in
    let front : after first p ≡ 0 = omega (arith, here, small) in
    record {
      small = omega (arith, here, small);
      within = omega (arith, front);
      request = r;
      is = ap (λ (i : ℕ). get_or (Some r ∷ slots) i None) front;
      row = row_cons n r (rows_of slots) ∙ ap (λ (c : Bool). cond c (Some r) (row_of n (rows_of slots))) e;
      number = same_number r.seq n e;
    }
slot_at_by n first p r slots small few false e g rest =
    let k = rest g in
    let step = next_at first p (length slots) small k.small k.within (omega arith) in
    record {
      small = k.small;
      within = omega (arith, step, k.within);
      request = k.request;
      is = ap (λ (i : ℕ). get_or (Some r ∷ slots) i None) step ∙ k.is;
      row = row_cons n r (rows_of slots) ∙ (ap (λ (c : Bool). cond c (Some r) (row_of n (rows_of slots))) e ∙ k.row);
      number = k.number;
    }

pub slot_at : {P : Type 0} (n first p : ℕ) (slots : List (Option (Sent P))) → first < 2 ^ 64 → length slots < 2 ^ 63 → slot_of n first slots ≡ Some p → IsAt n first p slots
unfolding slot_of row_of
slot_at n first p [] small few h = absurd cc
slot_at {P} n first p (None ∷ slots) small few h =
    let k = slot_at n ((first + 1) % 2 ^ 64) p slots (omega arith) (omega arith) h in
    let step = next_at first p (length slots) small k.small k.within (omega arith) in
    record {
      small = k.small;
      within = omega (arith, step, k.within);
      request = k.request;
      is = ap (λ (i : ℕ). get_or {A = Option (Sent P)} (None ∷ slots) i None) step ∙ k.is;
      row = k.row;
      number = k.number;
    }
slot_at n first p (Some r ∷ slots) small few h =
    slot_at_by n first p r slots small (omega arith) (r.seq == n) refl h
    (λ (g : slot_of n ((first + 1) % 2 ^ 64) slots ≡ Some p). slot_at n ((first + 1) % 2 ^ 64) p slots (omega arith) (omega arith) g)

-- ---- a request of another number

pub record AreNone {P : Type 0} (b : Bool) (o : Option (Sent P)) : Type 0 where
  pub test : b ≡ false
  pub rest : o ≡ None

pub none_parts : {P : Type 0} (b : Bool) (r : Sent P) (o : Option (Sent P)) → cond b (Some r) o ≡ None → AreNone b o
none_parts true r o h = absurd cc
none_parts false r o h = record { test = refl; rest = h }

-- a number that no request of some slots has
differs : {P : Type 0} (n : ℕ) (slots : List (Option (Sent P))) (i : ℕ) (r : Sent P) → row_of n (rows_of slots) ≡ None → get_or slots i None ≡ Some r → (r.seq == n) ≡ false
unfolding row_of
differs n [] i r none is = absurd cc
differs n (None ∷ slots) zero r none is = absurd cc
differs n (None ∷ slots) (suc i) r none is = differs n slots i r none is
differs n (Some q ∷ slots) zero r none is =
    let same : q ≡ r = cc in
    ap (λ (x : Sent _). x.seq == n) (sym same) ∙ (none_parts (q.seq == n) q (row_of n (rows_of slots)) none).test
differs n (Some q ∷ slots) (suc i) r none is = differs n slots i r (none_parts (q.seq == n) q (row_of n (rows_of slots)) none).rest is

-- ---- one more behind all others

pub rows_push : {P : Type 0} (slots : List (Option (Sent P))) (r : Sent P) → rows_of (slots ++ Some r ∷ []) ≡ rows_of slots ++ r ∷ []
rows_push [] r = refl
rows_push (None ∷ slots) r = rows_push slots r
rows_push (Some q ∷ slots) r = ap (λ (l : List _). q ∷ l) (rows_push slots r)

pub slot_push : {P : Type 0} (n first : ℕ) (slots : List (Option (Sent P))) (r : Sent P) → first < 2 ^ 64 → row_of r.seq (rows_of slots) ≡ None
    → slot_of n first (slots ++ Some r ∷ []) ≡ cond (nat_eq r.seq n) (Some ((first + length slots) % 2 ^ 64)) (slot_of n first slots)
unfolding slot_of row_of
slot_push n first [] r small none = ap (λ (k : ℕ). cond (r.seq == n) (Some k) None) (omega arith)
slot_push n first (None ∷ slots) r small none =
    slot_push n ((first + 1) % 2 ^ 64) slots r (omega arith) none
    ∙ ap (λ (k : ℕ). cond (r.seq == n) (Some k) (slot_of n ((first + 1) % 2 ^ 64) slots)) (omega arith)
slot_push n first (Some q ∷ slots) r small none =
    let parts = none_parts (q.seq == r.seq) q (row_of r.seq (rows_of slots)) none in
    either_order first (Some ((first + suc (length slots)) % 2 ^ 64)) (slot_of n ((first + 1) % 2 ^ 64) (slots ++ Some r ∷ []))
    (slot_of n ((first + 1) % 2 ^ 64) slots) (q.seq == n) (r.seq == n) (not_both q.seq r.seq n parts.test)
    (slot_push n ((first + 1) % 2 ^ 64) slots r (omega arith) parts.rest ∙ ap (λ (k : ℕ). cond (r.seq == n) (Some k) (slot_of n ((first + 1) % 2 ^ 64) slots)) (omega arith))

none_push : {P : Type 0} (n : ℕ) (rs : List (Sent P)) (r : Sent P) → row_of n rs ≡ None → (r.seq == n) ≡ false → row_of n (rs ++ r ∷ []) ≡ None
unfolding row_of
none_push n [] r none d = ap (λ (b : Bool). cond b (Some r) None) d
none_push n (q ∷ rs) r none d =
    let parts = none_parts (q.seq == n) q (row_of n rs) none in
    ap (λ (b : Bool). cond b (Some q) (row_of n (rs ++ r ∷ []))) parts.test ∙ none_push n rs r parts.rest d

pub apart_push : {P : Type 0} (rs : List (Sent P)) (r : Sent P) → AreApart rs → row_of r.seq rs ≡ None → AreApart (rs ++ r ∷ [])
unfolding row_of
apart_push [] r a none = (refl, tt)
apart_push (q ∷ rs) r a none =
    let parts = none_parts (q.seq == r.seq) q (row_of r.seq rs) none in
    (none_push q.seq rs r a.0 (turned r.seq q.seq ∙ parts.test), apart_push rs r a.1 parts.rest)

-- ---- some of them

none_cons : {P : Type 0} (n : ℕ) (q : Sent P) (rs : List (Sent P)) (b : Bool) → (q.seq == n) ≡ false → row_of n rs ≡ None → row_of n (cond b (q ∷ rs) rs) ≡ None
unfolding row_of
none_cons n q rs true d none = ap (λ (b : Bool). cond b (Some q) (row_of n rs)) d ∙ none
none_cons n q rs false d none = none

none_filter : {P : Type 0} (n : ℕ) (p : Sent P → Bool) (rs : List (Sent P)) → row_of n rs ≡ None → row_of n (filter p rs) ≡ None
unfolding row_of
none_filter n p [] none = refl
none_filter n p (q ∷ rs) none =
    let parts = none_parts (q.seq == n) q (row_of n rs) none in
    none_cons n q (filter p rs) (p q) parts.test (none_filter n p rs parts.rest)

apart_cons : {P : Type 0} (q : Sent P) (rs : List (Sent P)) (b : Bool) → row_of q.seq rs ≡ None → AreApart rs → AreApart (cond b (q ∷ rs) rs)
apart_cons q rs true none a = (none, a)
apart_cons q rs false none a = a

pub apart_filter : {P : Type 0} (p : Sent P → Bool) (rs : List (Sent P)) → AreApart rs → AreApart (filter p rs)
apart_filter p [] a = tt
apart_filter p (q ∷ rs) a = apart_cons q (filter p rs) (p q) (none_filter q.seq p rs a.0) (apart_filter p rs a.1)

pub without_none : {P : Type 0} (n : ℕ) (rs : List (Sent P)) → row_of n rs ≡ None → without n rs ≡ rs
unfolding row_of
without_none n [] none = refl
without_none n (q ∷ rs) none =
    let parts = none_parts (q.seq == n) q (row_of n rs) none in
    ap (λ (b : Bool). cond (not b) (q ∷ without n rs) (without n rs)) parts.test ∙ ap (λ (l : List _). q ∷ l) (without_none n rs parts.rest)

-- ---- a gap where a request was

pub gap_rows : {P : Type 0} (slots : List (Option (Sent P))) (i : ℕ) (r : Sent P) → AreApart (rows_of slots) → get_or slots i None ≡ Some r → rows_of (set slots i None) ≡ without r.seq (rows_of slots)
gap_rows [] i r a is = absurd cc
gap_rows (None ∷ slots) zero r a is = absurd cc
gap_rows (None ∷ slots) (suc i) r a is = gap_rows slots i r a is
gap_rows (Some q ∷ slots) zero r a is =
    let same : q ≡ r = cc in
    let here : (q.seq == r.seq) ≡ true = ap (λ (x : Sent _). q.seq == x.seq) (sym same) ∙ itself q.seq in
    let none : row_of r.seq (rows_of slots) ≡ None = ap (λ (x : Sent _). row_of x.seq (rows_of slots)) (sym same) ∙ a.0 in
    sym (ap (λ (b : Bool). cond (not b) (q ∷ without r.seq (rows_of slots)) (without r.seq (rows_of slots))) here ∙ without_none r.seq (rows_of slots) none)
gap_rows (Some q ∷ slots) (suc i) r a is =
    let other : (q.seq == r.seq) ≡ false = turned q.seq r.seq ∙ differs q.seq slots i r a.0 is in
    ap (λ (l : List _). q ∷ l) (gap_rows slots i r a.1 is)
    ∙ sym (ap (λ (b : Bool). cond (not b) (q ∷ without r.seq (rows_of slots)) (without r.seq (rows_of slots))) other)

gap_front_by : (first : ℕ) (o : Option ℕ) (a b : Bool) → a ≡ b → (b ≡ true → o ≡ None) → o ≡ cond b None (cond a (Some first) o)
gap_front_by first o a true same none = none refl
gap_front_by first o true false same none = absurd cc
gap_front_by first o false false same none = refl

pub gap_slot : {P : Type 0} (n first : ℕ) (slots : List (Option (Sent P))) (i : ℕ) (r : Sent P) → AreApart (rows_of slots) → get_or slots i None ≡ Some r
    → slot_of n first (set slots i None) ≡ cond (nat_eq r.seq n) None (slot_of n first slots)
unfolding slot_of
gap_slot n first [] i r a is = absurd cc
gap_slot n first (None ∷ slots) zero r a is = absurd cc
gap_slot n first (None ∷ slots) (suc i) r a is = gap_slot n ((first + 1) % 2 ^ 64) slots i r a is
gap_slot n first (Some q ∷ slots) zero r a is =
    let same : q ≡ r = cc in
    gap_front_by first (slot_of n ((first + 1) % 2 ^ 64) slots) (q.seq == n) (r.seq == n) (ap (λ (x : Sent _). x.seq == n) same)
    (λ e. no_slot n ((first + 1) % 2 ^ 64) slots (ap (λ (k : ℕ). row_of k (rows_of slots)) (sym (same_number r.seq n e) ∙ ap (λ (x : Sent _). x.seq) (sym same)) ∙ a.0))
gap_slot n first (Some q ∷ slots) (suc i) r a is =
    either_order first None (slot_of n ((first + 1) % 2 ^ 64) (set slots i None)) (slot_of n ((first + 1) % 2 ^ 64) slots) (q.seq == n) (r.seq == n)
    (not_both q.seq r.seq n (turned q.seq r.seq ∙ differs q.seq slots i r a.0 is)) (gap_slot n ((first + 1) % 2 ^ 64) slots i r a.1 is)

pub gap_count : {P : Type 0} (slots : List (Option (Sent P))) (i : ℕ) (r : Sent P) → get_or slots i None ≡ Some r → suc (length (rows_of (set slots i None))) ≡ length (rows_of slots)
gap_count [] i r is = absurd cc
gap_count (None ∷ slots) zero r is = absurd cc
gap_count (None ∷ slots) (suc i) r is = gap_count slots i r is
gap_count (Some q ∷ slots) zero r is = refl
gap_count (Some q ∷ slots) (suc i) r is = ap (λ (k : ℕ). suc k) (gap_count slots i r is)

-- ---- gaps where a purpose meets a test

abbrev cut : {P : Type 0} → (P → Bool) → Option (Sent P) → Option (Sent P)
cut meets slot = cond (is_some (number_where meets slot)) None slot

-- so many slots from the front
unfoldable pub cut_first : {P : Type 0} → (P → Bool) → ℕ → List (Option (Sent P)) → List (Option (Sent P))
cut_first meets zero slots = slots
cut_first meets (suc k) [] = []
cut_first meets (suc k) (slot ∷ slots) = cut meets slot ∷ cut_first meets k slots

pub cut_at : {P : Type 0} (meets : P → Bool) (k : ℕ) (slots : List (Option (Sent P))) (d : Option (Sent P)) → get_or (cut_first meets k slots) k d ≡ get_or slots k d
unfolding cut_first
cut_at meets zero slots d = refl
cut_at meets (suc k) [] d = refl
cut_at meets (suc k) (slot ∷ slots) d = cut_at meets k slots d

pub cut_length : {P : Type 0} (meets : P → Bool) (k : ℕ) (slots : List (Option (Sent P))) → length (cut_first meets k slots) ≡ length slots
unfolding cut_first
cut_length meets zero slots = refl
cut_length meets (suc k) [] = refl
cut_length meets (suc k) (slot ∷ slots) = ap (λ (n : ℕ). suc n) (cut_length meets k slots)

-- one more, at which the test is met or not
cut_next : {P : Type 0} (meets : P → Bool) (k : ℕ) (slots : List (Option (Sent P))) (d : Option (Sent P)) → k < length slots
    → cut_first meets (suc k) slots ≡ set (cut_first meets k slots) k (cut meets (get_or slots k d))
unfolding cut_first
cut_next meets k [] d lt = absurd (omega arith)
cut_next meets zero (slot ∷ slots) d lt = refl
cut_next meets (suc k) (slot ∷ slots) d lt = ap (λ (l : List _). cut meets slot ∷ l) (cut_next meets k slots d (omega arith))

pub cut_one : {P : Type 0} (meets : P → Bool) (k : ℕ) (slots : List (Option (Sent P))) (slot : Option (Sent P)) (n : ℕ) → k < length slots
    → slot ≡ get_or slots k slot → number_where meets slot ≡ Some n → cut_first meets (k + 1) slots ≡ set (cut_first meets k slots) k None
cut_one meets k slots slot n lt is met =
    ap (λ (i : ℕ). cut_first meets i slots) (add-one k)
    ∙ (cut_next meets k slots slot lt
    ∙ ap (λ (s : Option _). set (cut_first meets k slots) k s) (ap (cut meets) (sym is) ∙ ap (λ (o : Option ℕ). cond (is_some o) None slot) met))

pub cut_none : {P : Type 0} (meets : P → Bool) (k : ℕ) (slots : List (Option (Sent P))) (slot : Option (Sent P)) → k < length slots → slot ≡ get_or slots k slot
    → number_where meets slot ≡ None → cut_first meets (k + 1) slots ≡ cut_first meets k slots
cut_none meets k slots slot lt is other =
    ap (λ (i : ℕ). cut_first meets i slots) (add-one k)
    ∙ (cut_next meets k slots slot lt
    ∙ (ap (λ (s : Option _). set (cut_first meets k slots) k s) (ap (cut meets) (sym is) ∙ (ap (λ (o : Option ℕ). cond (is_some o) None slot) other ∙ (is ∙ sym (cut_at meets k slots slot))))
    ∙ set-get_or (cut_first meets k slots) k slot))

cut_other : {P : Type 0} (meets : P → Bool) (r : Sent P) (slots : List (Option (Sent P))) (rs : List (Sent P)) → rows_of slots ≡ others_of meets rs
    → (b : Bool) → meets r.purpose ≡ b
    → rows_of (cond (is_some (cond b (Some r.seq) None)) None (Some r) ∷ slots) ≡ cond (not b) (r ∷ others_of meets rs) (others_of meets rs)
cut_other meets r slots rs h true e = h
cut_other meets r slots rs h false e = ap (λ (l : List _). r ∷ l) h

pub cut_all : {P : Type 0} (meets : P → Bool) (k : ℕ) (slots : List (Option (Sent P))) → length slots ≤ k → rows_of (cut_first meets k slots) ≡ others_of meets (rows_of slots)
unfolding cut_first
cut_all meets zero [] le = refl
cut_all meets zero (slot ∷ slots) le = absurd (omega arith)
cut_all meets (suc k) [] le = refl
cut_all meets (suc k) (None ∷ slots) le = cut_all meets k slots (omega arith)
cut_all meets (suc k) (Some r ∷ slots) le = cut_other meets r (cut_first meets k slots) (rows_of slots) (cut_all meets k slots (omega arith)) (meets r.purpose) refl

-- ---- how many do not meet a test

others_next : {P : Type 0} (meets : P → Bool) (k : ℕ) (slots : List (Option (Sent P))) (d : Option (Sent P)) → k < length slots
    → length (others_of meets (rows_of (take (suc k) slots)))
    ≡ cond (is_other meets (get_or slots k d)) (suc (length (others_of meets (rows_of (take k slots)))))
    (length (others_of meets (rows_of (take k slots))))
others_next meets k [] d lt = absurd (omega arith)
others_next meets zero (None ∷ slots) d lt = refl
others_next meets zero (Some r ∷ slots) d lt = by (not (meets r.purpose))
  where
    by : (b : Bool) → length (cond b (r ∷ []) []) ≡ cond b 1 0
    by true = refl
    by false = refl
others_next meets (suc k) (None ∷ slots) d lt = others_next meets k slots d (omega arith)
others_next {P} meets (suc k) (Some r ∷ slots) d lt = by (not (meets r.purpose)) (is_other meets (get_or slots k d)) (others_next meets k slots d (omega arith))
  where
    by : (b o : Bool) → length (others_of meets (rows_of (take (suc k) slots)))
        ≡ cond o (suc (length (others_of meets (rows_of (take k slots))))) (length (others_of meets (rows_of (take k slots))))
        → length (cond b (r ∷ others_of meets (rows_of (take (suc k) slots))) (others_of meets (rows_of (take (suc k) slots))))
        ≡ cond o (suc (length (cond b (r ∷ others_of meets (rows_of (take k slots))) (others_of meets (rows_of (take k slots))))))
        (length (cond b (r ∷ others_of meets (rows_of (take k slots))) (others_of meets (rows_of (take k slots)))))
    by false o h = h
    by true true h = ap (λ (n : ℕ). suc n) h
    by true false h = ap (λ (n : ℕ). suc n) h

pub others_more : {P : Type 0} (meets : P → Bool) (k : ℕ) (slots : List (Option (Sent P))) (slot : Option (Sent P)) (b : Bool) → k < length slots
    → slot ≡ get_or slots k slot → is_other meets slot ≡ b → length (others_of meets (rows_of (take (k + 1) slots)))
    ≡ cond b (suc (length (others_of meets (rows_of (take k slots))))) (length (others_of meets (rows_of (take k slots))))
others_more meets k slots slot b lt is e =
    ap (λ (i : ℕ). length (others_of meets (rows_of (take i slots)))) (add-one k)
    ∙ (others_next meets k slots slot lt
    ∙ ap (λ (c : Bool). cond c (suc (length (others_of meets (rows_of (take k slots))))) (length (others_of meets (rows_of (take k slots))))) (ap (is_other meets) (sym is) ∙ e))

pub slot_nil : (P : Type 0) (n first : ℕ) → slot_of {P = P} n first [] ≡ None
unfolding slot_of
slot_nil P n first = refl

pub gap_push : {P : Type 0} (slots : List (Option (Sent P))) (r : Sent P) → has_gap slots ≡ false → has_gap (slots ++ Some r ∷ []) ≡ false
gap_push [] r h = refl
gap_push (None ∷ slots) r h = h
gap_push (Some q ∷ slots) r h = refl

-- ---- gaps in front

pub gap_rest_rows : {P : Type 0} (slots : List (Option (Sent P))) → has_gap slots ≡ true → rows_of (drop 1 slots) ≡ rows_of slots
gap_rest_rows [] h = absurd cc
gap_rest_rows (None ∷ slots) h = refl
gap_rest_rows (Some r ∷ slots) h = absurd cc

pub gap_rest_slot : {P : Type 0} (n first : ℕ) (slots : List (Option (Sent P))) → has_gap slots ≡ true → slot_of n ((first + 1) % 2 ^ 64) (drop 1 slots) ≡ slot_of n first slots
unfolding slot_of
gap_rest_slot n first [] h = absurd cc
gap_rest_slot n first (None ∷ slots) h = refl
gap_rest_slot n first (Some r ∷ slots) h = absurd cc

-- ---- the front request behind all others

back_by : (b : Bool) (first new : ℕ) (o : Option ℕ) → cond b (Some new) (cond b (Some first) o) ≡ cond b (Some new) o
back_by true first new o = refl
back_by false first new o = refl

pub back_slot : {P : Type 0} (n first : ℕ) (rest : List (Option (Sent P))) (r b : Sent P) → AreApart (rows_of (Some r ∷ rest)) → b.seq ≡ r.seq
    → cond (nat_eq r.seq n) (Some (((first + 1) % 2 ^ 64 + length rest) % 2 ^ 64)) (slot_of n first (Some r ∷ rest))
    ≡ slot_of n ((first + 1) % 2 ^ 64) (rest ++ Some b ∷ [])
unfolding slot_of
back_slot n first rest r b apart same =
    back_by (r.seq == n) first (((first + 1) % 2 ^ 64 + length rest) % 2 ^ 64) (slot_of n ((first + 1) % 2 ^ 64) rest)
    ∙ (ap (λ (k : ℕ). cond (nat_eq k n) (Some (((first + 1) % 2 ^ 64 + length rest) % 2 ^ 64)) (slot_of n ((first + 1) % 2 ^ 64) rest)) (sym same)
    ∙ sym (slot_push n ((first + 1) % 2 ^ 64) rest b (omega arith) (ap (λ (k : ℕ). row_of k (rows_of rest)) same ∙ apart.0)))

pub back_apart : {P : Type 0} (rest : List (Option (Sent P))) (r b : Sent P) → AreApart (rows_of (Some r ∷ rest)) → b.seq ≡ r.seq → AreApart (rows_of (rest ++ Some b ∷ []))
back_apart rest r b apart same = subst AreApart (sym (rows_push rest b)) (apart_push (rows_of rest) b apart.1 (ap (λ (k : ℕ). row_of k (rows_of rest)) same ∙ apart.0))

pub back_count : {P : Type 0} (rest : List (Option (Sent P))) (b : Sent P) → length (rows_of (rest ++ Some b ∷ [])) ≡ suc (length (rows_of rest))
back_count rest b = omega (arith, ap length (rows_push rest b), length-append (rows_of rest) (b ∷ []))

-- ---- a request that ends

pub cut_names : {P : Type 0} (names new : List (ℕ × ℕ)) (first : ℕ) (slots : List (Option (Sent P))) (i : ℕ) (r : Sent P) → AreNamed names first slots
    → AreApart (rows_of slots) → get_or slots i None ≡ Some r
    → ((n : ℕ) → lookup (nat_eq n) new ≡ cond (nat_eq r.seq n) None (lookup (nat_eq n) names)) → AreNamed new first (set slots i None)
cut_names names new first slots i r named apart is taken = λ n. taken n ∙ (ap (λ (o : Option ℕ). cond (nat_eq r.seq n) None o) (named n) ∙ sym (gap_slot n first slots i r apart is))

pub cut_apart : {P : Type 0} (slots : List (Option (Sent P))) (i : ℕ) (r : Sent P) → AreApart (rows_of slots) → get_or slots i None ≡ Some r → AreApart (rows_of (set slots i None))
cut_apart slots i r apart is = subst AreApart (sym (gap_rows slots i r apart is)) (apart_filter (λ q. not (q.seq == r.seq)) (rows_of slots) apart)

-- a slot whose request meets the test
pub record IsMet {P : Type 0} (slot : Option (Sent P)) (n : ℕ) : Type 0 where
  pub request : Sent P
  pub is : slot ≡ Some request
  pub number : request.seq ≡ n

pub met : {P : Type 0} (meets : P → Bool) (slot : Option (Sent P)) (n : ℕ) → number_where meets slot ≡ Some n → IsMet slot n
met meets None n h = absurd cc
met meets (Some r) n h = by (meets r.purpose) h
  where
    by : (b : Bool) → cond b (Some r.seq) None ≡ Some n → IsMet (Some r) n
    by true e = record { request = r; is = refl; number = cc }
    by false e = absurd cc

pub cut_none_first : {P : Type 0} (meets : P → Bool) (slots : List (Option (Sent P))) → slots ≡ cut_first meets 0 slots
unfolding cut_first
cut_none_first meets slots = refl

pub front_slot : {P : Type 0} (first : ℕ) (r : Sent P) (rest : List (Option (Sent P))) → slot_of r.seq first (Some r ∷ rest) ≡ Some first
unfolding slot_of
front_slot first r rest = ap (λ (b : Bool). cond b (Some first) (slot_of r.seq ((first + 1) % 2 ^ 64) rest)) (itself r.seq)

present : {P : Type 0} (slots : List (Option (Sent P))) (i : ℕ) (r : Sent P) → get_or slots i None ≡ Some r → is_some (row_of r.seq (rows_of slots)) ≡ true
unfolding row_of
present [] i r is = absurd cc
present (None ∷ slots) zero r is = absurd cc
present (None ∷ slots) (suc i) r is = present slots i r is
present (Some q ∷ slots) zero r is =
    let same : q ≡ r = cc in
    let here : (q.seq == r.seq) ≡ true = ap (λ (x : Sent _). q.seq == x.seq) (sym same) ∙ itself q.seq in
    ap (λ (b : Bool). is_some (cond b (Some q) (row_of r.seq (rows_of slots)))) here
present (Some q ∷ slots) (suc i) r is = by (q.seq == r.seq) (present slots i r is)
  where
    by : (b : Bool) → is_some (row_of r.seq (rows_of slots)) ≡ true → is_some (cond b (Some q) (row_of r.seq (rows_of slots))) ≡ true
    by true h = refl
    by false h = h

-- the slots and their names, cut as far as a place
pub record AreCut {P : Type 0} (meets : P → Bool) (k : ℕ) (all : List (Option (Sent P))) (names : List (ℕ × ℕ)) (first : ℕ) (slots : List (Option (Sent P))) : Type 0 where
  pub is_cut : slots ≡ cut_first meets k all
  pub named : AreNamed names first slots
  pub apart : AreApart (rows_of slots)
  pub count : length names ≡ length (rows_of slots)

pub cut_step : {P : Type 0} (meets : P → Bool) (k : ℕ) (all slots : List (Option (Sent P))) (names new : List (ℕ × ℕ)) (first : ℕ) (slot : Option (Sent P))
    (n : ℕ) (o : Option ℕ) → AreCut meets k all names first slots → k < length all → slot ≡ get_or slots k slot → number_where meets slot ≡ Some n
    → o ≡ lookup (nat_eq n) names → ((q : ℕ) → lookup (nat_eq q) new ≡ cond (nat_eq n q) None (lookup (nat_eq q) names))
    → length new + cond (is_some o) 1 0 ≡ length names → AreCut meets (k + 1) all new first (set slots k None)
cut_step meets k all slots names new first slot n o before lt is goes was taken fewer =
    let m = met meets slot n goes in
    let within : k < length slots = omega (arith, ap length before.is_cut, cut_length meets k all) in
    let here : get_or slots k None ≡ Some m.request = get_or_default slots k None slot within ∙ (sym is ∙ m.is) in
    let there : is_some o ≡ true =
    ap (λ (x : Option ℕ). is_some x) was
    ∙ (ap (λ (x : Option ℕ). is_some x) (before.named n)
    ∙ (slot_is n first slots
    ∙ (ap (λ (i : ℕ). is_some (row_of i (rows_of slots))) (sym m.number) ∙ present slots k m.request here))) in
    let one : ◌≡◌ {A = ℕ} (cond (is_some o) 1 0) 1 = ap (λ (b : Bool). cond {A = ℕ} b 1 0) there in
    record {
      is_cut =
          ap (λ l. set l k None) before.is_cut
          ∙ sym (cut_one meets k all slot n lt (is ∙ (ap (λ l. get_or l k slot) before.is_cut ∙ cut_at meets k all slot)) goes);
      named = cut_names names new first slots k m.request before.named before.apart here (λ q. taken q ∙ ap (λ (i : ℕ). cond (nat_eq i q) None (lookup (nat_eq q) names)) (sym m.number));
      apart = cut_apart slots k m.request before.apart here;
      count = omega (arith, fewer, one, before.count, gap_count slots k m.request here);
    }
