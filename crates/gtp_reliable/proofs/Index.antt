-- The index after a pair is kept, and after the front one is given up.
use Rattle.std.proofs.Common.{◌≡◌, ℕ, zero, suc, ◌+◌, ◌<◌, ◌≤◌, ◌%◌, ◌^◌, List, [], ◌∷◌, ◌++◌, get_or, insert, remove, drop, length, length-append, refl, sym, ap, ◌∙◌, arith, ◌⊎◌, inl, inr}
use Rattle.std.specs.declared.cmp.Ordering.TheVariants.{Less, Equal, Greater}
use Rattle.std.proofs.Math.Nat.{eq-or-lt_of_le}
use Rattle.std.proofs.lemmas.Cmp.{tied_itself}
use Rattle.std.proofs.lemmas.List.Edits.{length-insert, length-remove, get_or-insert_at, get_or-insert_below, get_or-insert_above, get_or-remove_below, get_or-remove_above}
use Rattle.std.proofs.lemmas.List.{get_or_default}
use Rattle.gtp_reliable.specs.Held.{Question}
use Rattle.gtp_reliable.specs.Order.{question_cmp}
use Rattle.gtp_reliable.specs.Index.{after, nobody, question_at, named_at, AreNames, AreAscending, IsGap, IsIndex, Names}
use Rattle.gtp_reliable.proofs.Order.{question_total, reversed}

-- ---- numbers of keeping, modulo 2^64

pub after_back : (first len : ℕ) → first < 2 ^ 64 → len < 2 ^ 64 → after first ((first + len) % 2 ^ 64) ≡ len
after_back first len f l = omega arith

pub after_next : (first n : ℕ) → first < 2 ^ 64 → 0 < after first n → after ((first + 1) % 2 ^ 64) n + 1 ≡ after first n
after_next first n f pos = omega arith

-- ---- a pair more

data Side (i j : ℕ) : Type 0 where
  Below : j < i → Side i j
  At : j ≡ i → Side i j
  Above : (k : ℕ) → i ≤ k → j ≡ k + 1 → Side i j

side : (i j : ℕ) → Side i j
side zero zero = At refl
side zero (suc j) = Above j (omega arith) (omega arith)
side (suc i) zero = Below (omega arith)
side (suc i) (suc j) = next (side i j)
  where
    next : Side i j → Side (suc i) (suc j)
    next (Below h) = Below (omega (arith, h))
    next (At e) = At (omega (arith, e))
    next (Above k le e) = Above (suc k) (omega (arith, le)) (omega (arith, e))

questions_push : (ps : List Question) (p : Question) (k : ℕ) → k < length ps → get_or (ps ++ p ∷ []) k nobody ≡ get_or ps k nobody
questions_push [] p k h = absurd (omega arith)
questions_push (q ∷ qs) p zero h = refl
questions_push (q ∷ qs) p (suc k) h = questions_push qs p k (omega arith)

questions_last : (ps : List Question) (p : Question) → get_or (ps ++ p ∷ []) (length ps) nobody ≡ p
questions_last [] p = refl
questions_last (q ∷ qs) p = questions_last qs p

module _ (first : ℕ) (index : List ℕ) (ps : List Question) (is : IsIndex first index ps) (p : Question) (i n : ℕ) (gap : IsGap first index ps p i) (back : after first n ≡ length ps) where
  abbrev more : List ℕ
  more = insert index i n

  key_below : (j : ℕ) → j < i → named_at first more (ps ++ p ∷ []) j ≡ named_at first index ps j
  key_below j h =
      let lt : j < length index = omega (arith, h, gap.within) in
      ap (λ (m : ℕ). get_or (ps ++ p ∷ []) (after first m) nobody) (get_or-insert_below index i n 0 j h gap.within) ∙ questions_push ps p (after first (get_or index j 0)) (is.names j 0 lt)

  key_here : named_at first more (ps ++ p ∷ []) i ≡ p
  key_here = ap (λ (m : ℕ). get_or (ps ++ p ∷ []) (after first m) nobody) (get_or-insert_at index i n 0 gap.within) ∙ (ap (λ (k : ℕ). get_or (ps ++ p ∷ []) k nobody) back ∙ questions_last ps p)

  key_above : (j : ℕ) → i ≤ j → j < length index → named_at first more (ps ++ p ∷ []) (j + 1) ≡ named_at first index ps j
  key_above j h lt =
      ap (λ (m : ℕ). get_or (ps ++ p ∷ []) (after first m) nobody) (get_or-insert_above index i n 0 j h gap.within)
      ∙ questions_push ps p (after first (get_or index j 0)) (is.names j 0 lt)

  less : (a b : ℕ) (x y : Question) → named_at first more (ps ++ p ∷ []) a ≡ x → named_at first more (ps ++ p ∷ []) b ≡ y → question_cmp x y ≡ Less
      → question_cmp (named_at first more (ps ++ p ∷ []) a) (named_at first more (ps ++ p ∷ []) b) ≡ Less
  less a b x y e f h = (λ t. question_cmp (e t) (f t)) ∙ h

  len : length more ≡ length index + 1
  len = length-insert index i n gap.within

  pushed_order : AreAscending first more (ps ++ p ∷ [])
  pushed_order a b lt within = by (side i a) (side i b)
    where
      by : Side i a → Side i b → question_cmp (named_at first more (ps ++ p ∷ []) a) (named_at first more (ps ++ p ∷ []) b) ≡ Less
      by (Below h) (Below k) = less a b _ _ (key_below a h) (key_below b k) (is.order a b lt (omega (arith, k, gap.within)))
      by (Below h) (At f) = less a b _ _ (key_below a h) (ap (λ (j : ℕ). named_at first more (ps ++ p ∷ []) j) f ∙ key_here) (gap.lower a h)
      by (Below h) (Above k le f) =
          let ltk : k < length index = omega (arith, f, within, len) in
          less a b _ _ (key_below a h) (ap (λ (j : ℕ). named_at first more (ps ++ p ∷ []) j) f ∙ key_above k le ltk) (is.order a k (omega (arith, h, le)) ltk)
      by (At e) (Below k) = absurd (omega (arith, e, k, lt))
      by (At e) (At f) = absurd (omega (arith, e, f, lt))
      by (At e) (Above k le f) =
          let ltk : k < length index = omega (arith, f, within, len) in
          less a b _ _ (ap (λ (j : ℕ). named_at first more (ps ++ p ∷ []) j) e ∙ key_here)
          (ap (λ (j : ℕ). named_at first more (ps ++ p ∷ []) j) f ∙ key_above k le ltk)
          (reversed p (named_at first index ps k) Greater (gap.higher k le ltk))
      by (Above j lj e) (Below k) = absurd (omega (arith, lj, e, k, lt))
      by (Above j lj e) (At f) = absurd (omega (arith, lj, e, f, lt))
      by (Above j lj e) (Above k le f) =
          let ltk : k < length index = omega (arith, f, within, len) in
          less a b _ _ (ap (λ (m : ℕ). named_at first more (ps ++ p ∷ []) m) e ∙ key_above j lj (omega (arith, e, f, lt, ltk)))
          (ap (λ (m : ℕ). named_at first more (ps ++ p ∷ []) m) f ∙ key_above k le ltk) (is.order j k (omega (arith, e, f, lt)) ltk)

  longer : length (ps ++ p ∷ []) ≡ length ps + 1
  longer = length-append ps (p ∷ [])

  pushed_names : AreNames first more (ps ++ p ∷ [])
  pushed_names k d lt = by (side i k)
    where
      by : Side i k → after first (get_or more k d) < length (ps ++ p ∷ [])
      by (Below h) = rw (get_or-insert_below index i n d k h gap.within) (omega (arith, longer, is.names k d (omega (arith, h, gap.within))))
      by (At e) = rw (e, get_or-insert_at index i n d gap.within) (omega (arith, longer, back))
      by (Above j le e) = rw (e, get_or-insert_above index i n d j le gap.within) (omega (arith, longer, is.names j d (omega (arith, e, lt, len))))

  pushed_covers : (k : ℕ) → k < length (ps ++ p ∷ []) → Names first more k
  pushed_covers k lt = by (eq-or-lt_of_le (omega (arith, longer, lt)))
    where
      moved : (c : Names first index k) → Side i c.at → Names first more k
      moved c (Below h) = record { at = c.at; within = omega (arith, len, c.within); is = ap (after first) (get_or-insert_below index i n 0 c.at h gap.within) ∙ c.is }
      moved c (At e) = record { at = c.at + 1; within = omega (arith, len, c.within); is = ap (after first) (get_or-insert_above index i n 0 c.at (omega (arith, e)) gap.within) ∙ c.is }
      moved c (Above j le e) = record { at = c.at + 1; within = omega (arith, len, c.within); is = ap (after first) (get_or-insert_above index i n 0 c.at (omega (arith, le, e)) gap.within) ∙ c.is }

      by : (k ≡ length ps) ⊎ (k < length ps) → Names first more k
      by (inl e) = record { at = i; within = omega (arith, len, gap.within); is = ap (after first) (get_or-insert_at index i n 0 gap.within) ∙ (back ∙ sym e) }
      by (inr h) = let c = is.covers k h in moved c (side i c.at)

  pub pushed : IsIndex first (insert index i n) (ps ++ p ∷ [])
  pushed = record { names = pushed_names; order = pushed_order; covers = pushed_covers; count = omega (arith, len, longer, is.count) }

-- ---- what isn't found isn't held

pub not_held : (first : ℕ) (index : List ℕ) (ps : List Question) (request : Question) (i : ℕ) → IsIndex first index ps → IsGap first index ps request i → (k : ℕ)
    → k < length ps → get_or ps k nobody ≡ request → ⊥
not_held first index ps request i is gap k lt e = let c = is.covers k lt in by c (side i c.at)
  where
    same : (c : Names first index k) → question_cmp (named_at first index ps c.at) request ≡ Equal
    same c = ap (λ (x : Question). question_cmp x request) (ap (λ (j : ℕ). get_or ps j nobody) c.is ∙ e) ∙ tied_itself question_total request

    higher : (c : Names first index k) → i ≤ c.at → ⊥
    higher c le = let x : Equal ≡ Greater = sym (same c) ∙ gap.higher c.at le c.within in absurd cc

    by : (c : Names first index k) → Side i c.at → ⊥
    by c (Below h) = let x : Equal ≡ Less = sym (same c) ∙ gap.lower c.at h in absurd cc
    by c (At f) = higher c (omega (arith, f))
    by c (Above j le f) = higher c (omega (arith, le, f))

-- ---- the front pair goes

module _ (first : ℕ) (index : List ℕ) (p : Question) (qs : List Question) (is : IsIndex first index (p ∷ qs)) (low : first < 2 ^ 64) (i : ℕ)
    (within : i < length index) (found : named_at first index (p ∷ qs) i ≡ p) where
  abbrev fewer : List ℕ
  fewer = remove index i

  abbrev next : ℕ
  next = (first + 1) % 2 ^ 64

  -- two entries whose requests are alike are one
  alike : (a b : ℕ) → a < length index → b < length index → named_at first index (p ∷ qs) a ≡ named_at first index (p ∷ qs) b → a ≡ b
  alike a b la lb e = by (side a b)
    where
      unless : (x y : ℕ) → x < y → y < length index → named_at first index (p ∷ qs) x ≡ named_at first index (p ∷ qs) y → ⊥
      unless x y lt ly h =
          let c : Equal ≡ Less = sym (tied_itself question_total (named_at first index (p ∷ qs) y)) ∙
          (ap (λ (r : Question). question_cmp r (named_at first index (p ∷ qs) y)) (sym h) ∙ is.order x y lt ly) in
          absurd cc

      by : Side a b → a ≡ b
      by (Below h) = absurd (unless b a h la (sym e))
      by (At f) = sym f
      by (Above k le f) = absurd (unless a b (omega (arith, le, f)) lb e)

  front : after first (get_or index i 0) ≡ 0
  front =
      let c = is.covers 0 (omega arith) in
      let same : c.at ≡ i = alike c.at i c.within within (ap (λ (k : ℕ). get_or (p ∷ qs) k nobody) c.is ∙ sym found) in
      ap (λ (j : ℕ). after first (get_or index j 0)) (sym same) ∙ c.is

  -- the others are after the front
  later : (j : ℕ) → j < length index → (j ≡ i → ⊥) → 0 < after first (get_or index j 0)
  later j lt other = by (after first (get_or index j 0)) refl
    where
      by : (k : ℕ) → after first (get_or index j 0) ≡ k → 0 < k
      by zero e = absurd (other (alike j i lt within (ap (λ (k : ℕ). get_or (p ∷ qs) k nobody) (e ∙ sym front))))
      by (suc k) e = omega arith

  shifted : (j : ℕ) → j < length index → (j ≡ i → ⊥) → after next (get_or index j 0) + 1 ≡ after first (get_or index j 0)
  shifted j lt other = after_next first (get_or index j 0) low (later j lt other)

  key_shifted : (m : ℕ) (k : ℕ) → k + 1 ≡ after first m → get_or qs k nobody ≡ get_or (p ∷ qs) (after first m) nobody
  key_shifted m k e = by (after first m) e
    where
      by : (x : ℕ) → k + 1 ≡ x → get_or qs k nobody ≡ get_or (p ∷ qs) x nobody
      by zero h = absurd (omega (arith, h))
      by (suc x) h = let f : k ≡ x = omega (arith, h) in ap (λ (n : ℕ). get_or qs n nobody) f

  -- where an entry of what is left stood
  data From (j : ℕ) : Type 0 where
    Stood : (at : ℕ) → at < length index → (at ≡ i → ⊥) → get_or (remove index i) j 0 ≡ get_or index at 0 → ((i ≤ j) × (at ≡ j + 1)) ⊎ ((j < i) × (at ≡ j)) → From j

  left : length (remove index i) + 1 ≡ length index
  left = length-remove index i within

  from : (j : ℕ) → j < length (remove index i) → From j
  from j lt = by (side i j)
    where
      by : Side i j → From j
      by (Below h) = Stood j (omega (arith, lt, left)) (λ e. omega (arith, e, h)) (get_or-remove_below index i 0 j h within) (inr (h, refl))
      by (At e) = Stood (j + 1) (omega (arith, lt, left)) (λ f. omega (arith, e, f)) (get_or-remove_above index i 0 j (omega (arith, e)) within) (inl (omega (arith, e), refl))
      by (Above k le e) = Stood (j + 1) (omega (arith, lt, left)) (λ f. omega (arith, e, le, f)) (get_or-remove_above index i 0 j (omega (arith, le, e)) within) (inl (omega (arith, le, e), refl))

  key_from : (j at : ℕ) → at < length index → (at ≡ i → ⊥) → get_or (remove index i) j 0 ≡ get_or index at 0 → named_at next (remove index i) qs j ≡ named_at first index (p ∷ qs) at
  key_from j at lt other e = ap (λ (m : ℕ). get_or qs (after next m) nobody) e ∙ key_shifted (get_or index at 0) (after next (get_or index at 0)) (shifted at lt other)

  popped_order : AreAscending next (remove index i) qs
  popped_order a b lt lb = by (from a (omega (arith, lt, lb))) (from b lb)
    where
      rises : (x y : ℕ) → ((i ≤ a) × (x ≡ a + 1)) ⊎ ((a < i) × (x ≡ a)) → ((i ≤ b) × (y ≡ b + 1)) ⊎ ((b < i) × (y ≡ b)) → x < y
      rises x y (inl h) (inl k) = omega (arith, h.1, k.1, lt)
      rises x y (inl h) (inr k) = absurd (omega (arith, h.0, k.0, lt))
      rises x y (inr h) (inl k) = omega (arith, h.1, k.1, lt)
      rises x y (inr h) (inr k) = omega (arith, h.1, k.1, lt)

      by : From a → From b → question_cmp (named_at next (remove index i) qs a) (named_at next (remove index i) qs b) ≡ Less
      by (Stood x lx nx ex wx) (Stood y ly ny ey wy) = (λ t. question_cmp (key_from a x lx nx ex t) (key_from b y ly ny ey t)) ∙ is.order x y (rises x y wx wy) ly

  popped_names : AreNames next (remove index i) qs
  popped_names k d lt = by (from k lt)
    where
      any : get_or (remove index i) k d ≡ get_or (remove index i) k 0
      any = get_or_default (remove index i) k d 0 lt

      by : From k → after next (get_or (remove index i) k d) < length qs
      by (Stood x lx nx ex wx) = rw (any, ex) (omega (arith, shifted x lx nx, is.names x 0 lx))

  popped_covers : (k : ℕ) → k < length qs → Names next (remove index i) k
  popped_covers k lt = let c = is.covers (k + 1) (omega (arith, lt)) in by c (side i c.at)
    where
      other : (c : Names first index (k + 1)) → c.at ≡ i → ⊥
      other c e = omega (arith, sym (ap (λ (j : ℕ). after first (get_or index j 0)) e) ∙ c.is, front)

      at : (c : Names first index (k + 1)) → after next (get_or index c.at 0) ≡ k
      at c = omega (arith, shifted c.at c.within (other c), c.is)

      by : (c : Names first index (k + 1)) → Side i c.at → Names next (remove index i) k
      by c (Below h) = record { at = c.at; within = omega (arith, h, within, left); is = ap (after next) (get_or-remove_below index i 0 c.at h within) ∙ at c }
      by c (At e) = absurd (other c e)
      by c (Above j le e) =
          record {
            at = j;
            within = omega (arith, c.within, left, e);
            is = ap (after next) (get_or-remove_above index i 0 j le within ∙ ap (λ (m : ℕ). get_or index m 0) (sym e)) ∙ at c;
          }

  pub popped : IsIndex ((first + 1) % 2 ^ 64) (remove index i) qs
  popped = record { names = popped_names; order = popped_order; covers = popped_covers; count = omega (arith, left, is.count) }

pub popped_front : (first : ℕ) (index : List ℕ) (ps : List Question) → 0 < length ps → IsIndex first index ps → first < 2 ^ 64 → (i : ℕ) → i < length index
    → named_at first index ps i ≡ question_at ps 0 → IsIndex ((first + 1) % 2 ^ 64) (remove index i) (drop 1 ps)
popped_front first index [] some is low i within found = absurd (omega arith)
popped_front first index (p ∷ qs) some is low i within found = popped first index p qs is low i within found
