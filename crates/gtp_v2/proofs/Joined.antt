-- Two messages in one datagram: they are read again, and a proper prefix is at fault.
use Rattle.std.proofs.Common.{◌≡◌, ℕ, zero, suc, ◌+◌, ◌-◌, ◌*◌, ◌%◌, ◌<◌, ◌≤◌, Bool, true, false, List, [], ◌∷◌, ◌++◌, length, take, Result, Ok, Err, inl, inr, refl, sym, ap, subst, ◌∙◌, arith}
use Rattle.std.specs.Prelude.{◌==◌, nat_lt, ◌↔◌, IfOk}
use Rattle.std.specs.Global.{Vec}
use Rattle.std.proofs.lemmas.Bool.Decides.{nat_tests}
use Rattle.std.proofs.lemmas.List.{length-take-le, length-append}
use Rattle.std.proofs.Math.Seq.{take-append-add}
use Rattle.std.proofs.lemmas.Bool.{cases_lt}
use Rattle.gtp_v2.specs.declared.fault.V2Fault.{V2Fault}
use Rattle.gtp_v2.specs.declared.fault.V2Fault.TheVariants as faults
use Rattle.gtp_v2.specs.Header.{Opens}
use Rattle.gtp_v2.specs.Message.{MessageValue}
use Rattle.gtp_v2.specs.Datagram.{IsMessage}
use Rattle.gtp_v2.specs.Marks.{MeetsMarks}
use Rattle.gtp_v2.specs.Pair.{both, paired, moved, IsUnannounced, Announces, IsDatagram, SecondFails, IsDatagramFault}
use Rattle.gtp_v2.specs.Prefixes.{prefix_fault, pair_prefix_fault}
use Rattle.gtp_v2.proofs.Answered.{datagram_marked}
use Rattle.gtp_v2.proofs.Pairs.{opened, few_unannounced}
use Rattle.gtp_v2.proofs.Prefixes.{prefixes_fail}

-- ---- they are read again

opens_pair : (front back following : List ℕ) (flags kind : ℕ) → Opens front flags kind following → Announces (paired front back) front back
opens_pair front back following flags kind (high, low, small, text, long) =
    let raised : (64 + flags + 16) % 256 ≡ 80 + flags = omega (arith, small) in
    (flags, kind, high, low, following, (small, ap (λ xs. paired xs back) text ∙ ap (λ n. opened n kind high low (following ++ back)) raised), long, text)

pub announces : (front back : List ℕ) (a : MessageValue) → IsMessage front a → Announces (paired front back) front back
announces front back m (h, inl (flags, a, b, c, spare, lt, opens, is), content) = opens_pair front back (a ∷ b ∷ c ∷ spare ∷ h.rest) flags h.kind opens
announces front back m (h, inr (flags, a, b, c, d, e, f, g, last, lt, opens, is), content) = opens_pair front back (a ∷ b ∷ c ∷ d ∷ e ∷ f ∷ g ∷ last ∷ h.rest) (8 + flags) h.kind opens

pub read_again : (front back : List ℕ) (a b : MessageValue) → IsMessage front a → IsMessage back b → IsDatagram (paired front back) (both a b)
read_again front back a b first second = inr (front, back, announces front back a first, (a, first, (b, second, refl)))

-- ---- a proper prefix of one message

-- it announces no other
opened_unannounced : (octets following : List ℕ) (flags kind n : ℕ) → Opens octets flags kind following → IsUnannounced (take n octets)
opened_unannounced octets following flags kind zero opens f k h l held (lt, text) = absurd (omega (arith, ap length text))
opened_unannounced octets following flags kind (suc n) (high, low, small, is, long) f k h l held (lt, text) =
    let same : opened (64 + flags) kind high low following ≡ octets = sym is in
    let first : 64 + flags ≡ 80 + f = cc (ap (take (suc n)) same ∙ text) in
    absurd (omega (arith, small, first))

prefix_unannounced : (octets : List ℕ) (m : MessageValue) (n : ℕ) → IsMessage octets m → IsUnannounced (take n octets)
prefix_unannounced octets m n (h, inl (flags, a, b, c, spare, lt, opens, is), content) = opened_unannounced octets (a ∷ b ∷ c ∷ spare ∷ h.rest) flags h.kind n opens
prefix_unannounced octets m n (h, inr (flags, a, b, c, d, e, f, g, last, lt, opens, is), content) = opened_unannounced octets (a ∷ b ∷ c ∷ d ∷ e ∷ f ∷ g ∷ last ∷ h.rest) (8 + flags) h.kind n opens

pub alone_prefixes_fail : (octets : List ℕ) (m : MessageValue) (n : ℕ) → IsMessage octets m → n < length octets → IsDatagramFault (take n octets) (prefix_fault n (length octets))
alone_prefixes_fail octets m n is lt = inl (prefix_unannounced octets m n is, prefixes_fail octets m n is lt)

-- ---- a proper prefix of two

-- a prefix of the first message
short_of_first : (held front back : ℕ) → held < front → prefix_fault held front ≡ pair_prefix_fault held front back
short_of_first held front back lt = let t : nat_lt held front ≡ true = grind (arith, nat_tests) in rw (t) refl

at_its_end : (held front back : ℕ) → held ≡ front → faults.BadPiggyback front ≡ pair_prefix_fault held front back
at_its_end held front back is =
    let t : nat_lt held front ≡ false = grind (arith, nat_tests) in
    let e : (held == front) ≡ true = grind (arith, nat_tests) in
    rw (t, e) refl

after_it : (held front more back : ℕ) → held ≡ front + more → 0 < more → prefix_fault more back ≡ pair_prefix_fault held front back
after_it held front more back is some =
    let t : nat_lt held front ≡ false = grind (arith, nat_tests) in
    let e : (held == front) ≡ false = grind (arith, nat_tests) in
    let n : held - front ≡ more = omega (arith, is) in
    rw (t, e, n) refl

-- the fault of a prefix tells no place
not_moved : (place held whole : ℕ) → prefix_fault held whole ≡ moved place (prefix_fault held whole)
not_moved place held whole = by_few (nat_lt held 4) refl where
  by_few : (b : Bool) → nat_lt held 4 ≡ b → prefix_fault held whole ≡ moved place (prefix_fault held whole)
  by_few true t = rw (t) refl
  by_few false t = rw (t) refl

few_octets : (octets : List ℕ) (front back : ℕ) → length octets < 4 → 4 ≤ front → IsDatagramFault octets (pair_prefix_fault (length octets) front back)
few_octets octets front back few enough =
    let t : nat_lt (length octets) 4 ≡ true = grind (arith, nat_tests) in
    let is : faults.Short (length octets) ≡ prefix_fault (length octets) front = rw (t) refl in
    subst (IsDatagramFault octets) (is ∙ short_of_first (length octets) front back (omega (arith, few, enough))) (inl (few_unannounced octets few, inl (inl (few, refl))))

module _ (flags kind high low : ℕ) (following back : List ℕ) (small : flags < 16) (long : 256 * high + low ≡ length following) where
  abbrev whole_first : List ℕ
  whole_first = opened (64 + flags) kind high low following

  in_first : (k : ℕ) → k < length following → IsDatagramFault (opened (80 + flags) kind high low (take k (following ++ back))) (pair_prefix_fault (4 + k) (length whole_first) (length back))
  in_first k lt =
      let len : length (take k (following ++ back)) ≡ k = length-take-le k (following ++ back) (omega (arith, lt, length-append following back)) in
      let not_few : nat_lt (4 + k) 4 ≡ false = grind (arith, nat_tests) in
      let w : length whole_first - 4 ≡ 256 * high + low = omega (arith, long) in
      let h : (4 + k) - 4 ≡ length (take k (following ++ back)) = omega (arith, len) in
      let is : faults.Length (256 * high + low) (length (take k (following ++ back))) ≡ prefix_fault (4 + k) (length whole_first) = rw (not_few, w, h) refl in
      subst (IsDatagramFault (opened (80 + flags) kind high low (take k (following ++ back)))) (is ∙ short_of_first (4 + k) (length whole_first) (length back) (omega (arith, lt)))
      (inr (inl (flags, kind, high, low, take k (following ++ back), (small, refl), omega (arith, lt, len, long), refl)))

  second_fails : (b : MessageValue) (j : ℕ) → IsMessage back b → j < length back
      → SecondFails (length whole_first) (take j back) (pair_prefix_fault (length whole_first + j) (length whole_first) (length back))
  second_fails b zero is lt = inl (refl, sym (at_its_end (length whole_first + 0) (length whole_first) (length back) (omega arith)))
  second_fails b (suc j) is lt =
      inr (
        omega (arith, lt, length-take-le (suc j) back (omega (arith, lt))),
        (
          prefix_fault (suc j) (length back),
          prefixes_fail back b (suc j) is lt,
          sym (after_it (length whole_first + suc j) (length whole_first) (suc j) (length back) refl (omega arith)) ∙ not_moved (length whole_first) (suc j) (length back),
        ),
      )

  in_second : (a b : MessageValue) (j : ℕ) → IsMessage whole_first a → IsMessage back b → j < length back
      → IsDatagramFault (opened (80 + flags) kind high low (take (length following + j) (following ++ back))) (pair_prefix_fault (length whole_first + j) (length whole_first) (length back))
  in_second a b j first second lt =
      inr (inr (
        whole_first,
        take j back,
        (flags, kind, high, low, following, (small, ap (opened (80 + flags) kind high low) (take-append-add following back j)), long, refl),
        inr (a, first, second_fails b j second lt),
      ))

  after_four : (a b : MessageValue) (k : ℕ) → IsMessage whole_first a → IsMessage back b → k < length (following ++ back)
      → IsDatagramFault (opened (80 + flags) kind high low (take k (following ++ back))) (pair_prefix_fault (4 + k) (length whole_first) (length back))
  after_four a b k first second lt = elim (cases_lt k (length following)) [
    | inl less ↦ in_first k less
    | inr over ↦
        let j : length following + (k - length following) ≡ k = omega (arith, over) in
        let n : length whole_first + (k - length following) ≡ 4 + k = omega (arith, over) in
        subst (λ n. IsDatagramFault (opened (80 + flags) kind high low (take k (following ++ back))) (pair_prefix_fault n (length whole_first) (length back))) n
        (subst (λ i. IsDatagramFault (opened (80 + flags) kind high low (take i (following ++ back)))
        (pair_prefix_fault (length whole_first + (k - length following)) (length whole_first) (length back))) j
        (in_second a b (k - length following) first second (omega (arith, over, lt, length-append following back))))
  ]

  cut_at : (a b : MessageValue) (n : ℕ) → IsMessage whole_first a → IsMessage back b → n < length (opened (80 + flags) kind high low (following ++ back))
      → IsDatagramFault (take n (opened (80 + flags) kind high low (following ++ back))) (pair_prefix_fault n (length whole_first) (length back))
  cut_at a b zero first second lt = few_octets [] (length whole_first) (length back) (omega arith) (omega arith)
  cut_at a b (suc zero) first second lt = few_octets ((80 + flags) ∷ []) (length whole_first) (length back) (omega arith) (omega arith)
  cut_at a b (suc (suc zero)) first second lt = few_octets ((80 + flags) ∷ kind ∷ []) (length whole_first) (length back) (omega arith) (omega arith)
  cut_at a b (suc (suc (suc zero))) first second lt = few_octets ((80 + flags) ∷ kind ∷ high ∷ []) (length whole_first) (length back) (omega arith) (omega arith)
  cut_at a b (suc (suc (suc (suc k)))) first second lt =
      let n : 4 + k ≡ suc (suc (suc (suc k))) = omega arith in
      subst
      (λ n. IsDatagramFault (opened (80 + flags) kind high low (take k (following ++ back))) (pair_prefix_fault n (length whole_first) (length back)))
      n (after_four a b k first second (omega (arith, lt)))

pub pair_prefixes_fail :
    (octets front back : List ℕ) (a b : MessageValue) (n : ℕ) → Announces octets front back → IsMessage front a → IsMessage back b → n < length octets
    → IsDatagramFault (take n octets) (pair_prefix_fault n (length front) (length back))
pair_prefixes_fail octets front back a b n (flags, kind, high, low, following, (small, text), long, is) first second lt =
    subst (λ xs. IsDatagramFault (take n xs) (pair_prefix_fault n (length front) (length back))) (sym text)
    (subst (λ xs. IsDatagramFault (take n (opened (80 + flags) kind high low (following ++ back))) (pair_prefix_fault n (length xs) (length back))) (sym is)
    (cut_at flags kind high low following back small long a b n (subst (λ xs. IsMessage xs a) is first) second (omega (arith, lt, ap length text))))

-- ---- what is read of two messages has the marks of each

pub both_again : (a b : MessageValue) (r : Result (Vec ℕ) V2Fault) → IfOk r (λ octets. MeetsMarks a → MeetsMarks b → IsDatagram octets.items (both a b))
    → IfOk r (λ octets. (MeetsMarks a × MeetsMarks b) ↔ IsDatagram octets.items (both a b))
both_again a b (Err f) again = tt
both_again a b (Ok octets) again = ((λ m. again m.0 m.1), datagram_marked octets.items (both a b))
