-- Tables that ask alike of each type judge alike.
use Rattle.std.proofs.Common.{◌≡◌, ℕ, ◌+◌, ◌-◌, ◌*◌, ◌/◌, Bool, true, false, cond, map, List, [], ◌∷◌, length, take, drop, Option, Some, None, Result, Ok, Err, refl, ap, sym, ◌∙◌}
use Rattle.std.specs.Prelude.{◌==◌, nat_le, option_map, IfOk, IfErr}
use Rattle.gtp_values.specs.Steps.{◌>>=◌}
use Rattle.gtp_values.proofs.Outcomes.{err_same}
use Rattle.gtp_v2.specs.declared.asked.Asked.{Asked}
use Rattle.gtp_v2.specs.declared.asked.Others.{Others}
use Rattle.gtp_v2.specs.declared.asked.Others.TheVariants as others
use Rattle.gtp_v2.specs.declared.asked.Tables.{Tables}
use Rattle.gtp_v2.specs.declared.fault.V2Fault.{V2Fault}
use Rattle.gtp_v2.specs.declared.fault.V2Fault.TheVariants as faults
use Rattle.gtp_v2.specs.Table.{Table}
use Rattle.gtp_v2.specs.Tables.{tables, table_among}
use Rattle.gtp_v2.specs.Asks.{Asks, asks_in, asks_of}
use Rattle.gtp_v2.specs.Asked.{asked_or, first_asked, asked_by}
use Rattle.gtp_v2.specs.Headed.{Headed}
use Rattle.gtp_v2.specs.Message.{Fields, with_content}
use Rattle.gtp_v2.specs.Pair.{DatagramValue, alone, both, moved, IsDatagramBy, IsDatagramFaultBy, IsDatagram, IsDatagramFault}
use Rattle.gtp_v2.specs.reading.Checked.{forgotten}
use Rattle.gtp_v2.specs.reading.Headed.{header_at}
use Rattle.gtp_v2.specs.reading.Lines.{checked, asked_in, asked_kept}
use Rattle.gtp_v2.specs.reading.Message.{typed_by, content_by, message_by}
use Rattle.gtp_v2.specs.reading.Pair.{placed, second_by, pair_by, announced_by, alone_by, datagram_by}
use Rattle.gtp_v2.proofs.Checks.{was_read, was_fault, forgotten_as, forget_map}
use Rattle.gtp_v2.proofs.CheckedLines.{typed_checked}
use Rattle.gtp_v2.proofs.Pairs.{opened, datagram_by_decided}

-- two readings of what follows a header read alike
abbrev pub Alike : (ℕ → Option Asks) → (ℕ → Option Asks) → Type 0
Alike a b = (h : Headed) → forgotten (content_by (a h.kind) h) ≡ forgotten (content_by (b h.kind) h)

-- two steps, of each of which nothing is kept
both_alike : {X Y Z E : Type 0} (r q : Result X E) (s t : Result Y E) (k : X → Y → Z) → forgotten r ≡ forgotten q → forgotten s ≡ forgotten t
    → forgotten (r >>= λ x. s >>= λ y. Ok (k x y)) ≡ forgotten (q >>= λ x. t >>= λ y. Ok (k x y))
both_alike (Ok x) (Ok z) s t k same others = forget_map s (k x) ∙ others ∙ sym (forget_map t (k z))
both_alike (Ok x) (Err g) s t k same others = absurd cc
both_alike (Err f) (Ok z) s t k same others = absurd cc
both_alike {E = E} (Err f) (Err g) s t k same others = ap (λ (e : E). Err e) (err_same (Unit {0}) f g same)

module _ (a b : ℕ → Option Asks) (alike : Alike a b) where
  message_alike : (octets : List ℕ) → forgotten (message_by a octets) ≡ forgotten (message_by b octets)
  unfolding message_by
  message_alike octets = by_header (header_at octets) where
    by_header : (r : Result Headed V2Fault)
        → forgotten (r >>= λ h. content_by (a h.kind) h >>= λ content. Ok (with_content h content))
        ≡ forgotten (r >>= λ h. content_by (b h.kind) h >>= λ content. Ok (with_content h content))
    by_header (Ok h) = forget_map (content_by (a h.kind) h) (with_content h) ∙ alike h ∙ sym (forget_map (content_by (b h.kind) h) (with_content h))
    by_header (Err f) = refl

  second_alike : (place : ℕ) (octets : List ℕ) → forgotten (second_by a place octets) ≡ forgotten (second_by b place octets)
  unfolding second_by
  second_alike place [] = refl
  second_alike place (x ∷ xs) =
      forgotten_as (moved place) (message_by a (x ∷ xs)) ∙ ap (placed place) (message_alike (x ∷ xs)) ∙ sym (forgotten_as (moved place) (message_by b (x ∷ xs)))

  pair_alike : (front : List ℕ) (place : ℕ) (back : List ℕ) → forgotten (pair_by a front place back) ≡ forgotten (pair_by b front place back)
  unfolding pair_by
  pair_alike front place back = both_alike (message_by a front) (message_by b front) (second_by a place back) (second_by b place back) both (message_alike front) (second_alike place back)

  announced_alike : (first kind high low : ℕ) (held : List ℕ) → forgotten (announced_by a first kind high low held) ≡ forgotten (announced_by b first kind high low held)
  unfolding announced_by
  announced_alike first kind high low held = by_length (nat_le (256 * high + low) (length held)) where
    by_length : (enough : Bool)
        → forgotten (cond enough (pair_by a (opened (first - 16) kind high low (take (256 * high + low) held)) (4 + (256 * high + low)) (drop (256 * high + low) held))
        (Err (faults.Length (256 * high + low) (length held))))
        ≡ forgotten (cond enough (pair_by b (opened (first - 16) kind high low (take (256 * high + low) held)) (4 + (256 * high + low)) (drop (256 * high + low) held))
        (Err (faults.Length (256 * high + low) (length held))))
    by_length true = pair_alike (opened (first - 16) kind high low (take (256 * high + low) held)) (4 + (256 * high + low)) (drop (256 * high + low) held)
    by_length false = refl

  alone_alike : (octets : List ℕ) → forgotten (alone_by a octets) ≡ forgotten (alone_by b octets)
  unfolding alone_by
  alone_alike octets = forget_map (message_by a octets) alone ∙ message_alike octets ∙ sym (forget_map (message_by b octets) alone)

  datagram_alike : (octets : List ℕ) → forgotten (datagram_by a octets) ≡ forgotten (datagram_by b octets)
  unfolding datagram_by
  datagram_alike [] = alone_alike []
  datagram_alike (x ∷ []) = alone_alike (x ∷ [])
  datagram_alike (x ∷ y ∷ []) = alone_alike (x ∷ y ∷ [])
  datagram_alike (x ∷ y ∷ z ∷ []) = alone_alike (x ∷ y ∷ z ∷ [])
  datagram_alike (first ∷ kind ∷ high ∷ low ∷ held) = by_announcement (first / 16 == 5) where
    by_announcement : (two : Bool)
        → forgotten (cond two (announced_by a first kind high low held) (alone_by a (opened first kind high low held)))
        ≡ forgotten (cond two (announced_by b first kind high low held) (alone_by b (opened first kind high low held)))
    by_announcement true = announced_alike first kind high low held
    by_announcement false = alone_alike (opened first kind high low held)

  -- a first fault by the ones is one by the others
  pub fault_alike : (octets : List ℕ) (f : V2Fault) → IsDatagramFaultBy a octets f → IsDatagramFaultBy b octets f
  fault_alike octets f is =
      (datagram_by_decided b octets).err f
      (was_fault (datagram_by b octets) f (sym (datagram_alike octets) ∙ ap forgotten ((datagram_by_decided a octets).fails f is)))

  -- and messages by the ones are messages by the others, with what is asked there
  pub passes_alike : (octets : List ℕ) (d : DatagramValue) → IsDatagramBy a octets d → (e : DatagramValue) × IsDatagramBy b octets e
  passes_alike octets d is =
      let r = was_read (datagram_by b octets) (sym (datagram_alike octets) ∙ ap forgotten ((datagram_by_decided a octets).is d is)) in
      (r.0, (datagram_by_decided b octets).ok r.0 r.1)

-- ---- the tables of S5/S8

-- what is checked is asked alike
checked_alike : (asks : Option Asks) (h : Headed) → forgotten (content_by (option_map checked asks) h) ≡ forgotten (content_by asks h)
checked_alike None h = refl
checked_alike (Some asks) h =
    forget_map (typed_by asks.has_teid (checked asks).lines h) (λ fields. Fields fields) ∙ typed_checked asks.has_teid asks.lines h
    ∙ sym (forget_map (typed_by asks.has_teid asks.lines h) (λ fields. Fields fields))

first_same : (kind : ℕ) (asked : List Asked) (own : List Table) → map asked_kept asked ≡ map asked_in own
    → asked_or others.Octets (first_asked kind asked) ≡ option_map checked (asks_in (table_among kind own))
first_same kind [] [] same = refl
first_same kind [] (t ∷ own) same = absurd cc
first_same kind (a ∷ asked) [] same = absurd cc
first_same kind (a ∷ asked) (t ∷ own) same =
    let one : asked_kept a ≡ asked_in t = cc same in
    let tail : map asked_kept asked ≡ map asked_in own = cc same in
    by_kind (kind == a.kind) (kind == t.kind) (ap (λ (p : ℕ × Asks). kind == p.0) one) (ap (λ (p : ℕ × Asks). Some p.1) one) (first_same kind asked own tail)
  where
    by_kind : (b c : Bool) → b ≡ c → asked_or others.Octets (Some a) ≡ option_map checked (asks_in (Some t))
        → asked_or others.Octets (first_asked kind asked) ≡ option_map checked (asks_in (table_among kind own))
        → asked_or others.Octets (cond b (Some a) (first_asked kind asked)) ≡ option_map checked (asks_in (cond c (Some t) (table_among kind own)))
    by_kind true true is one tail = one
    by_kind true false is one tail = absurd cc
    by_kind false true is one tail = absurd cc
    by_kind false false is one tail = tail

pub s5s8_alike : (given : Tables) → map asked_kept given.tables.now ≡ map asked_in tables → given.others ≡ others.Octets → Alike (asked_by given) asks_of
s5s8_alike given same other h =
    ap (λ (asks : Option Asks). forgotten (content_by asks h))
    (ap (λ (o : Others). asked_or o (first_asked h.kind given.tables.now)) other ∙ first_same h.kind given.tables.now tables same)
    ∙ checked_alike (asks_of h.kind) h

back : (a b : ℕ → Option Asks) → Alike a b → Alike b a
back a b alike h = sym (alike h)

module _ (given : Tables) (alike : Alike (asked_by given) asks_of) (octets : List ℕ) (r : Result (Unit {0}) V2Fault) where
  pub s5s8_found : IfOk r (λ u. (d : DatagramValue) × IsDatagramBy (asked_by given) octets d) → IfOk r (λ u. (d : DatagramValue) × IsDatagram octets d)
  s5s8_found found = by_outcome r found where
    by_outcome : (o : Result (Unit {0}) V2Fault) → IfOk o (λ u. (d : DatagramValue) × IsDatagramBy (asked_by given) octets d) → IfOk o (λ u. (d : DatagramValue) × IsDatagram octets d)
    by_outcome (Ok u) found = passes_alike (asked_by given) asks_of alike octets found.0 found.1
    by_outcome (Err f) found = tt

  pub s5s8_only : ((d : DatagramValue) → IsDatagramBy (asked_by given) octets d → r ≡ Ok tt) → (d : DatagramValue) → IsDatagram octets d → r ≡ Ok tt
  s5s8_only only d is = let e = passes_alike asks_of (asked_by given) (back (asked_by given) asks_of alike) octets d is in only e.0 e.1

  pub s5s8_first : ((f : V2Fault) → IsDatagramFaultBy (asked_by given) octets f → r ≡ Err f) → (f : V2Fault) → IsDatagramFault octets f → r ≡ Err f
  s5s8_first first f is = first f (fault_alike asks_of (asked_by given) (back (asked_by given) asks_of alike) octets f is)

  pub s5s8_fault : IfErr r (λ f. IsDatagramFaultBy (asked_by given) octets f) → IfErr r (λ f. IsDatagramFault octets f)
  s5s8_fault fault = by_outcome r fault where
    by_outcome : (o : Result (Unit {0}) V2Fault) → IfErr o (λ f. IsDatagramFaultBy (asked_by given) octets f) → IfErr o (λ f. IsDatagramFault octets f)
    by_outcome (Ok u) fault = tt
    by_outcome (Err f) fault = fault_alike (asked_by given) asks_of alike octets f fault
