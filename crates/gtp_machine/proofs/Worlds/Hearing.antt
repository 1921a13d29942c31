-- What is known of the peer is the latest counter that was heard.
use Rattle.std.proofs.Common.{◌≡◌, inl, inr, ℕ, ◌+◌, ◌%◌, ◌≤◌, List, ◌∷◌, Option, Some, None, refl, sym, ◌∙◌, ap, subst, arith}
use Rattle.gtp_values.specs.FiniteMap.{Among}
use Rattle.gtp_values.specs.Counter.{age_of}
use Rattle.gtp_values.specs.declared.counter.Age.{Age}
use Rattle.gtp_values.specs.declared.counter.Age.TheVariants.{Same, Later, Earlier}
use Rattle.gtp_machine.specs.World.{Side, with_heard}
use Rattle.gtp_machine.specs.Laws.{IsOfStart}
use Rattle.gtp_machine.proofs.Basics.Ages.{same_start, later_start, earlier_start}
use Rattle.gtp_machine.proofs.Changes.After.{KnownBy, KnownAfter}

-- a counter of the peer, of no later start than this one
pub record IsByStart (peer : Side) (latest counter : ℕ) : Type 0 where
  pub start : ℕ
  pub no_later : start ≤ latest
  pub is : counter ≡ (peer.first + start) % 256

-- the latest of the counters that were heard
pub record IsLatest (peer : Side) (seen : List ℕ) (counter : ℕ) : Type 0 where
  pub start : ℕ
  pub by_now : start ≤ peer.restarts
  pub is : counter ≡ (peer.first + start) % 256
  pub heard : Among counter seen
  pub others : (r : ℕ) → Among r seen → IsByStart peer start r

-- what is known is the latest counter heard, and nothing is where none was heard
pub record Hearing (peer : Side) (known : Option ℕ) (seen : List ℕ) : Type 0 where
  pub none : known ≡ None → (r : ℕ) → Among r seen → ⊥
  pub latest : (k : ℕ) → known ≡ Some k → IsLatest peer seen k

module _ (peer : Side) (few : peer.restarts ≤ 127) where
  pub same_counter : (seen : List ℕ) (k c : ℕ) → IsLatest peer seen k → IsOfStart peer c → age_of k c ≡ Same → k ≡ c
  same_counter seen k c l o e =
      let starts = same_start peer.first l.start o.start k c (omega (arith, l.by_now)) (omega (arith, o.by_now)) l.is o.is e in
      l.is ∙ ap (λ n. (peer.first + n) % 256) (sym starts) ∙ sym o.is

  -- one more counter that was heard, of no later start
  by_start : (seen : List ℕ) (c latest start : ℕ) → start ≤ latest → c ≡ (peer.first + start) % 256 → ((r : ℕ) → Among r seen → IsByStart peer latest r)
      → (r : ℕ) → Among r (c ∷ seen) → IsByStart peer latest r
  by_start seen c latest start no_later is before r (inl same) = record { start = start; no_later = no_later; is = same ∙ is }
  by_start seen c latest start no_later is before r (inr there) = before r there

  -- what was known stays so
  known_stays : (seen : List ℕ) (k c : ℕ) (l : IsLatest peer seen k) (start : ℕ) → start ≤ l.start → c ≡ (peer.first + start) % 256 → IsLatest peer (c ∷ seen) k
  known_stays seen k c l start no_later is = record { start = l.start; by_now = l.by_now; is = l.is; heard = inr l.heard; others = by_start seen c l.start start no_later is l.others }

  -- a counter is known, and is the latest
  Hearing-some : (seen : List ℕ) (k : ℕ) (new : Option ℕ) → new ≡ Some k → IsLatest peer seen k → Hearing peer new seen
  Hearing-some seen k new is l =
      subst (λ n. Hearing peer n seen) (sym is)
      (record { none = λ none. absurd (cc none); latest = λ j some. subst (IsLatest peer seen) (let same : k ≡ j = cc some in same) l })

  -- it is heard now, and those before are of no later start
  heard_now : (seen : List ℕ) (c : ℕ) (new : Option ℕ) → new ≡ Some c → (o : IsOfStart peer c) → ((r : ℕ) → Among r seen → IsByStart peer o.start r) → Hearing peer new (c ∷ seen)
  heard_now seen c new is o before =
      Hearing-some (c ∷ seen) c new is
      (record { start = o.start; by_now = o.by_now; is = o.is; heard = inl refl; others = by_start seen c o.start o.start (omega arith) o.is before })

  by_age : (seen : List ℕ) (k c : ℕ) (new : Option ℕ) → Hearing peer (Some k) seen → IsOfStart peer c → (a : Age) → age_of k c ≡ a → KnownBy a k c new → Hearing peer new (c ∷ seen)
  by_age seen k c new h o Same e is =
      let l = h.latest k refl in
      let starts = same_start peer.first l.start o.start k c (omega (arith, l.by_now)) (omega (arith, o.by_now)) l.is o.is e in
      Hearing-some (c ∷ seen) k new is (known_stays seen k c l o.start (omega (arith, starts)) o.is)
  by_age seen k c new h o Earlier e is =
      let l = h.latest k refl in
      let starts = earlier_start peer.first l.start o.start k c (omega (arith, l.by_now)) (omega (arith, o.by_now)) l.is o.is e in
      Hearing-some (c ∷ seen) k new is (known_stays seen k c l o.start (omega (arith, starts)) o.is)
  by_age seen k c new h o Later e is =
      let l = h.latest k refl in
      let starts = later_start peer.first l.start o.start k c (omega (arith, l.by_now)) (omega (arith, o.by_now)) l.is o.is e in
      heard_now seen c new is o (λ r there. let b = l.others r there in record { start = b.start; no_later = omega (arith, b.no_later, starts); is = b.is })

  pub Hearing-step : (known heard new : Option ℕ) (seen : List ℕ) → Hearing peer known seen → KnownAfter known heard new
      → ((c : ℕ) → heard ≡ Some c → IsOfStart peer c) → Hearing peer new (with_heard heard seen)
  Hearing-step known None new seen h is told = subst (λ n. Hearing peer n seen) (sym is) h
  Hearing-step None (Some c) new seen h is told = heard_now seen c new is (told c refl) (λ r there. absurd (h.none refl r there))
  Hearing-step (Some k) (Some c) new seen h is told = by_age seen k c new h (told c refl) (age_of k c) refl is

  -- nothing that was heard is later than what is known
  pub none_later : (seen : List ℕ) (k r : ℕ) → IsLatest peer seen k → Among r seen → age_of k r ≡ Later → ⊥
  none_later seen k r l among e =
      let b = l.others r among in
      let after = later_start peer.first l.start b.start k r (omega (arith, l.by_now)) (omega (arith, l.by_now, b.no_later)) l.is b.is e in
      omega (arith, after, b.no_later)

-- a peer that has started again is the same peer
pub Hearing-peer : (peer again : Side) → again.first ≡ peer.first → peer.restarts ≤ again.restarts → (known : Option ℕ) (seen : List ℕ) → Hearing peer known seen → Hearing again known seen
Hearing-peer peer again first more known seen h = record { none = h.none; latest = λ k is. latest k (h.latest k is) }
  where
    at : (c s : ℕ) → c ≡ (peer.first + s) % 256 → c ≡ (again.first + s) % 256
    at c s is = is ∙ ap (λ f. (f + s) % 256) (sym first)

    latest : (k : ℕ) → IsLatest peer seen k → IsLatest again seen k
    latest k l =
        record {
          start = l.start;
          by_now = omega (arith, l.by_now, more);
          is = at k l.start l.is;
          heard = l.heard;
          others = λ r among. let b = l.others r among in record { start = b.start; no_later = b.no_later; is = at r b.start b.is };
        }
