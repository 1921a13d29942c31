-- Reading a datagram decides which messages it is: one, or two.
use Rattle.std.proofs.Common.{◌≡◌, ℕ, ◌+◌, ◌-◌, ◌*◌, ◌/◌, ◌<◌, ◌≤◌, Bool, true, false, cond, List, [], ◌∷◌, ◌++◌, length, take, drop, Option, Result, Ok, Err, inl, inr, refl, sym, ap, subst, ◌∙◌, arith}
use Rattle.std.specs.Prelude.{◌==◌, nat_le}
use Rattle.std.proofs.lemmas.Bool.Decides.{nat_tests}
use Rattle.std.proofs.lemmas.List.{take-append-drop, take_at, drop_at, length-take-le, length-append}
use Rattle.gtp_values.specs.Steps.{◌>>=◌}
use Rattle.gtp_values.specs.Decides.{Decides, First_or_later}
use Rattle.gtp_values.proofs.Tests.{same_number}
use Rattle.gtp_values.proofs.Outcomes.{apart}
use Rattle.gtp_values.proofs.Decided.{bind_at_err, decide_bind, decide_map, decide_as, known_err}
use Rattle.gtp_v2.specs.declared.fault.V2Fault.{V2Fault}
use Rattle.gtp_v2.specs.declared.fault.V2Fault.TheVariants as faults
use Rattle.gtp_v2.specs.Message.{MessageValue, with_content}
use Rattle.gtp_v2.specs.Asks.{Asks, asks_of}
use Rattle.gtp_v2.specs.Datagram.{IsMessageBy, IsFaultBy}
use Rattle.gtp_v2.specs.Pair.{DatagramValue, alone, both, IsUnannounced, Announces, AnnouncesMore, IsDatagramBy, moved, SecondFailsBy, IsDatagramFaultBy, IsDatagram, IsDatagramFault}
use Rattle.gtp_v2.specs.reading.Headed.{header_at}
use Rattle.gtp_v2.specs.reading.Message.{content_by, message_by}
use Rattle.gtp_v2.specs.reading.Pair.{placed, second_at, pair_at, announced_at, alone_at, datagram_at, second_by, pair_by, announced_by, alone_by, datagram_by}
use Rattle.gtp_v2.proofs.Headers.{at_second}
use Rattle.gtp_v2.proofs.Decided.{fault_as_decided}
use Rattle.gtp_v2.proofs.Told.{message_by_decided, message_same}

-- ---- the second message

no_octets : (asked : ℕ → Option Asks) (m : MessageValue) → IsMessageBy asked [] m → ⊥
unfolding message_by
no_octets asked m is = apart m (faults.Short 0) (sym ((message_by_decided asked []).is m is))

second_decided : (asked : ℕ → Option Asks) (place : ℕ) (back : List ℕ) → Decides (second_by asked place back) (IsMessageBy asked back) (SecondFailsBy asked place back)
unfolding second_by
second_decided asked place [] = known_err (faults.BadPiggyback place) (IsMessageBy asked []) (SecondFailsBy asked place []) (inl (refl, refl)) (no_octets asked) only where
  only : (f : V2Fault) → SecondFailsBy asked place [] f → f ≡ faults.BadPiggyback place
  only f (inl p) = p.1
  only f (inr p) = absurd (omega (arith, p.0))
second_decided asked place (x ∷ xs) =
    decide_as (placed place (message_by asked (x ∷ xs))) (IsMessageBy asked (x ∷ xs)) (IsMessageBy asked (x ∷ xs))
    (λ f. (g : V2Fault) × IsFaultBy asked (x ∷ xs) g × (f ≡ moved place g)) (SecondFailsBy asked place (x ∷ xs)) (λ m p. p) (λ m p. p) (λ f q. inr (omega arith, q)) some
    (fault_as_decided (moved place) (message_by asked (x ∷ xs)) (IsMessageBy asked (x ∷ xs)) (IsFaultBy asked (x ∷ xs)) (message_by_decided asked (x ∷ xs)))
  where
    some : (f : V2Fault) → SecondFailsBy asked place (x ∷ xs) f → (g : V2Fault) × IsFaultBy asked (x ∷ xs) g × (f ≡ moved place g)
    some f (inl p) = absurd (omega (arith, ap length p.0))
    some f (inr p) = p.1

-- ---- two messages

abbrev AreBoth : (ℕ → Option Asks) → List ℕ → List ℕ → DatagramValue → Type 0
AreBoth asked front back d = (a : MessageValue) × IsMessageBy asked front a × ((b : MessageValue) × IsMessageBy asked back b × (d ≡ both a b))

abbrev OneFails : (ℕ → Option Asks) → List ℕ → ℕ → List ℕ → V2Fault → Type 0
OneFails asked front place back = First_or_later (IsMessageBy asked front) (IsFaultBy asked front) (λ a. SecondFailsBy asked place back)

pair_decided : (asked : ℕ → Option Asks) (front : List ℕ) (place : ℕ) (back : List ℕ) → Decides (pair_by asked front place back) (AreBoth asked front back) (OneFails asked front place back)
unfolding pair_by
pair_decided asked front place back =
    decide_bind (message_by asked front) (λ a. second_by asked place back >>= λ b. Ok (both a b)) (IsMessageBy asked front) (IsFaultBy asked front)
    (λ a d. (b : MessageValue) × IsMessageBy asked back b × (d ≡ both a b)) (λ a. SecondFailsBy asked place back)
    (message_by_decided asked front) (λ a. decide_map (second_by asked place back) (both a) (IsMessageBy asked back) (SecondFailsBy asked place back) (second_decided asked place back))

-- ---- one message alone

alone_decided : (asked : ℕ → Option Asks) (octets : List ℕ) → IsUnannounced octets → Decides (alone_by asked octets) (IsDatagramBy asked octets) (IsDatagramFaultBy asked octets)
unfolding alone_by
alone_decided asked octets none =
    decide_as (message_by asked octets >>= λ m. Ok (alone m)) (λ d. (m : MessageValue) × IsMessageBy asked octets m × (d ≡ alone m)) (IsDatagramBy asked octets)
    (IsFaultBy asked octets) (IsDatagramFaultBy asked octets) (λ d p. inl p) to_one (λ f q. inl (none, q)) to_fault
    (decide_map (message_by asked octets) alone (IsMessageBy asked octets) (IsFaultBy asked octets) (message_by_decided asked octets))
  where
    to_one : (d : DatagramValue) → IsDatagramBy asked octets d → (m : MessageValue) × IsMessageBy asked octets m × (d ≡ alone m)
    to_one d (inl p) = p
    to_one d (inr (front, back, (flags, kind, high, low, following, begins, long, is), are)) = absurd (none flags kind high low (following ++ back) begins)

    to_fault : (f : V2Fault) → IsDatagramFaultBy asked octets f → IsFaultBy asked octets f
    to_fault f (inl p) = p.1
    to_fault f (inr (inl (flags, kind, high, low, held, begins, more, is))) = absurd (none flags kind high low held begins)
    to_fault f (inr (inr (front, back, (flags, kind, high, low, following, begins, long, is), fails))) = absurd (none flags kind high low (following ++ back) begins)

-- ---- a first message that announces another

-- too few octets are held
abbrev cut_off : ℕ → ℕ → Result DatagramValue V2Fault
cut_off stated held = Err (faults.Length stated held)

-- where octets begin
abbrev pub opened : ℕ → ℕ → ℕ → ℕ → List ℕ → List ℕ
opened first kind high low held = first ∷ kind ∷ high ∷ low ∷ held

-- two ways in which octets begin are one
record Alike (flags kind high low : ℕ) (held : List ℕ) (others k h l : ℕ) (xs : List ℕ) : Type 0 where
  flags_same : flags ≡ others
  kind_same : kind ≡ k
  high_same : high ≡ h
  low_same : low ≡ l
  held_same : held ≡ xs

alike : (flags kind high low : ℕ) (held : List ℕ) (others k h l : ℕ) (xs : List ℕ)
    → opened (80 + flags) kind high low held ≡ opened (80 + others) k h l xs → Alike flags kind high low held others k h l xs
alike flags kind high low held others k h l xs text =
    let first : 80 + flags ≡ 80 + others = cc text in
    record { flags_same = omega (arith, first); kind_same = cc text; high_same = cc text; low_same = cc text; held_same = cc text }

module _ (flags kind high low : ℕ) (held : List ℕ) (small : flags < 16) where
  -- it is no message by itself
  not_alone : (asked : ℕ → Option Asks) (m : MessageValue) → IsMessageBy asked (opened (80 + flags) kind high low held) m → ⊥
  unfolding message_by
  not_alone asked m is =
      apart m (faults.BadPiggyback 0) (sym ((message_by_decided asked (opened (80 + flags) kind high low held)).is m is)
      ∙ bind_at_err (header_at (opened (80 + flags) kind high low held)) (λ h. content_by (asked h.kind) h >>= λ content. Ok (with_content h content))
      (faults.BadPiggyback 0) (at_second flags kind high low held small))

  announced : IsUnannounced (opened (80 + flags) kind high low held) → ⊥
  announced none = none flags kind high low held (small, refl)

  -- the octets after the first four are as many as stated, or more
  enough : (front back : List ℕ) → Announces (opened (80 + flags) kind high low held) front back → 256 * high + low ≤ length held
  enough front back (others, k, h, l, following, (lt, text), long, is) =
      let a = alike flags kind high low held others k h l (following ++ back) text in
      omega (arith, long, a.high_same, a.low_same, ap length a.held_same, length-append following back)

  -- the two parts are these
  front_is : (front back : List ℕ) → Announces (opened (80 + flags) kind high low held) front back → front ≡ opened (64 + flags) kind high low (take (256 * high + low) held)
  front_is front back (others, k, h, l, following, (lt, text), long, is) =
      let a = alike flags kind high low held others k h l (following ++ back) text in
      let n : length following ≡ 256 * high + low = omega (arith, long, a.high_same, a.low_same) in
      let taken : take (256 * high + low) held ≡ following = ap (take (256 * high + low)) a.held_same ∙ take_at following back (256 * high + low) n in
      is ∙ (λ i. opened (64 + sym a.flags_same i) (sym a.kind_same i) (sym a.high_same i) (sym a.low_same i) (sym taken i))

  back_is : (front back : List ℕ) → Announces (opened (80 + flags) kind high low held) front back → back ≡ drop (256 * high + low) held
  back_is front back (others, k, h, l, following, (lt, text), long, is) =
      let a = alike flags kind high low held others k h l (following ++ back) text in
      let n : length following ≡ 256 * high + low = omega (arith, long, a.high_same, a.low_same) in
      sym (ap (drop (256 * high + low)) a.held_same ∙ drop_at following back (256 * high + low) n)

  -- and so they are announced
  pub parts : 256 * high + low ≤ length held → Announces (opened (80 + flags) kind high low held) (opened (64 + flags) kind high low (take (256 * high + low) held)) (drop (256 * high + low) held)
  parts le = (
    flags,
    kind,
    high,
    low,
    take (256 * high + low) held,
    (small, ap (opened (80 + flags) kind high low) (sym (take-append-drop (256 * high + low) held))),
    sym (length-take-le (256 * high + low) held le),
    refl,
  )

  not_more : 256 * high + low ≤ length held → (f : V2Fault) → AnnouncesMore (opened (80 + flags) kind high low held) f → ⊥
  not_more le f (others, k, h, l, xs, (lt, text), more, is) =
      let a = alike flags kind high low held others k h l xs text in
      absurd (omega (arith, le, more, a.high_same, a.low_same, ap length a.held_same))

  more_is : (f : V2Fault) → AnnouncesMore (opened (80 + flags) kind high low held) f → f ≡ faults.Length (256 * high + low) (length held)
  more_is f (others, k, h, l, xs, (lt, text), more, is) =
      let a = alike flags kind high low held others k h l xs text in
      is ∙ (λ i. faults.Length (256 * sym a.high_same i + sym a.low_same i) (length (sym a.held_same i)))

  whole_pair : (asked : ℕ → Option Asks) → 256 * high + low ≤ length held
      → Decides (pair_by asked (opened (64 + flags) kind high low (take (256 * high + low) held)) (4 + (256 * high + low)) (drop (256 * high + low) held))
      (IsDatagramBy asked (opened (80 + flags) kind high low held)) (IsDatagramFaultBy asked (opened (80 + flags) kind high low held))
  whole_pair asked le =
      let front = opened (64 + flags) kind high low (take (256 * high + low) held) in
      let back = drop (256 * high + low) held in
      decide_as (pair_by asked front (4 + (256 * high + low)) back) (AreBoth asked front back) (IsDatagramBy asked (opened (80 + flags) kind high low held))
      (OneFails asked front (4 + (256 * high + low)) back) (IsDatagramFaultBy asked (opened (80 + flags) kind high low held))
      (λ d p. inr (front, back, parts le, p)) to_both (λ f q. inr (inr (front, back, parts le, subst (λ k. OneFails asked front k back f) here q))) to_fault
      (pair_decided asked front (4 + (256 * high + low)) back)
    where
      here : 4 + (256 * high + low) ≡ length (opened (64 + flags) kind high low (take (256 * high + low) held))
      here = omega (arith, length-take-le (256 * high + low) held le)

      to_both : (d : DatagramValue) → IsDatagramBy asked (opened (80 + flags) kind high low held) d
          → AreBoth asked (opened (64 + flags) kind high low (take (256 * high + low) held)) (drop (256 * high + low) held) d
      to_both d (inl p) = absurd (not_alone asked p.0 p.1)
      to_both d (inr (front, back, announces, are)) =
          subst (λ xs. AreBoth asked xs (drop (256 * high + low) held) d) (front_is front back announces)
          (subst (λ ys. AreBoth asked front ys d) (back_is front back announces) are)

      to_fault : (f : V2Fault) → IsDatagramFaultBy asked (opened (80 + flags) kind high low held) f
          → OneFails asked (opened (64 + flags) kind high low (take (256 * high + low) held)) (4 + (256 * high + low)) (drop (256 * high + low) held) f
      to_fault f (inl p) = absurd (announced p.0)
      to_fault f (inr (inl more)) = absurd (not_more le f more)
      to_fault f (inr (inr (front, back, announces, fails))) =
          subst (λ k. OneFails asked (opened (64 + flags) kind high low (take (256 * high + low) held)) k (drop (256 * high + low) held) f) (sym here)
          (subst (λ xs. OneFails asked xs (length xs) (drop (256 * high + low) held) f) (front_is front back announces)
          (subst (λ ys. OneFails asked front (length front) ys f) (back_is front back announces) fails))

  cut_pair : (asked : ℕ → Option Asks) → length held < 256 * high + low
      → Decides (cut_off (256 * high + low) (length held)) (IsDatagramBy asked (opened (80 + flags) kind high low held)) (IsDatagramFaultBy asked (opened (80 + flags) kind high low held))
  cut_pair asked less =
      known_err (faults.Length (256 * high + low) (length held)) (IsDatagramBy asked (opened (80 + flags) kind high low held))
      (IsDatagramFaultBy asked (opened (80 + flags) kind high low held)) (inr (inl (flags, kind, high, low, held, (small, refl), less, refl))) none one
    where
      none : (d : DatagramValue) → IsDatagramBy asked (opened (80 + flags) kind high low held) d → ⊥
      none d (inl p) = not_alone asked p.0 p.1
      none d (inr (front, back, announces, are)) = let le = enough front back announces in omega (arith, le, less)

      one : (f : V2Fault) → IsDatagramFaultBy asked (opened (80 + flags) kind high low held) f → f ≡ faults.Length (256 * high + low) (length held)
      one f (inl p) = absurd (announced p.0)
      one f (inr (inl more)) = more_is f more
      one f (inr (inr (front, back, announces, fails))) = let le = enough front back announces in absurd (omega (arith, le, less))

  announced_decided : (asked : ℕ → Option Asks)
      → Decides (announced_by asked (80 + flags) kind high low held) (IsDatagramBy asked (opened (80 + flags) kind high low held)) (IsDatagramFaultBy asked (opened (80 + flags) kind high low held))
  unfolding announced_by
  announced_decided asked = by_length (nat_le (256 * high + low) (length held)) refl where
    by_length : (b : Bool) → nat_le (256 * high + low) (length held) ≡ b
        → Decides (cond b
        (pair_by asked (opened ((80 + flags) - 16) kind high low (take (256 * high + low) held)) (4 + (256 * high + low)) (drop (256 * high + low) held))
        (cut_off (256 * high + low) (length held))) (IsDatagramBy asked (opened (80 + flags) kind high low held))
        (IsDatagramFaultBy asked (opened (80 + flags) kind high low held))
    by_length true t =
        let le : 256 * high + low ≤ length held = grind (arith, nat_tests) in
        let first : 64 + flags ≡ (80 + flags) - 16 = omega arith in
        subst (λ n. Decides (pair_by asked (opened n kind high low (take (256 * high + low) held)) (4 + (256 * high + low)) (drop (256 * high + low) held))
        (IsDatagramBy asked (opened (80 + flags) kind high low held)) (IsDatagramFaultBy asked (opened (80 + flags) kind high low held))) first (whole_pair asked le)
    by_length false t = let less : length held < 256 * high + low = grind (arith, nat_tests) in cut_pair asked less

-- ---- any octets

pub few_unannounced : (octets : List ℕ) → length octets < 4 → IsUnannounced octets
few_unannounced octets few flags kind high low held (lt, text) = omega (arith, few, ap length text)

pub other_unannounced : (first kind high low : ℕ) (held : List ℕ) → (first / 16 == 5) ≡ false → IsUnannounced (opened first kind high low held)
other_unannounced first kind high low held else_not flags k h l xs (lt, text) =
    let same : first ≡ 80 + flags = cc text in
    let yes : (first / 16 == 5) ≡ true = grind (arith, nat_tests) in
    absurd (cc (else_not, yes))

pub datagram_by_decided : (asked : ℕ → Option Asks) (octets : List ℕ) → Decides (datagram_by asked octets) (IsDatagramBy asked octets) (IsDatagramFaultBy asked octets)
unfolding datagram_by
datagram_by_decided asked [] = alone_decided asked [] (few_unannounced [] (omega arith))
datagram_by_decided asked (a ∷ []) = alone_decided asked (a ∷ []) (few_unannounced (a ∷ []) (omega arith))
datagram_by_decided asked (a ∷ b ∷ []) = alone_decided asked (a ∷ b ∷ []) (few_unannounced (a ∷ b ∷ []) (omega arith))
datagram_by_decided asked (a ∷ b ∷ c ∷ []) = alone_decided asked (a ∷ b ∷ c ∷ []) (few_unannounced (a ∷ b ∷ c ∷ []) (omega arith))
datagram_by_decided asked (first ∷ kind ∷ high ∷ low ∷ held) = by_announcement (first / 16 == 5) refl where
  by_announcement : (b : Bool) → (first / 16 == 5) ≡ b
      → Decides (cond b (announced_by asked first kind high low held) (alone_by asked (opened first kind high low held)))
      (IsDatagramBy asked (opened first kind high low held)) (IsDatagramFaultBy asked (opened first kind high low held))
  by_announcement true t =
      let five : first / 16 ≡ 5 = same_number (first / 16) 5 t in
      let is : 80 + (first - 80) ≡ first = omega (arith, five) in
      let small : first - 80 < 16 = omega (arith, five) in
      subst
      (λ n. Decides (announced_by asked n kind high low held) (IsDatagramBy asked (opened n kind high low held)) (IsDatagramFaultBy asked (opened n kind high low held))) is
      (announced_decided (first - 80) kind high low held small asked)
  by_announcement false t = alone_decided asked (opened first kind high low held) (other_unannounced first kind high low held t)

-- ---- by the tables here

second_same : (place : ℕ) (back : List ℕ) → second_at place back ≡ second_by asks_of place back
unfolding second_at second_by
second_same place [] = refl
second_same place (x ∷ xs) = ap (placed place) (message_same (x ∷ xs))

pair_same : (front : List ℕ) (place : ℕ) (back : List ℕ) → pair_at front place back ≡ pair_by asks_of front place back
unfolding pair_at pair_by
pair_same front place back = λ i. message_same front i >>= λ a. second_same place back i >>= λ b. Ok (both a b)

announced_same : (first kind high low : ℕ) (held : List ℕ) → announced_at first kind high low held ≡ announced_by asks_of first kind high low held
unfolding announced_at announced_by
announced_same first kind high low held =
    ap (λ (r : Result DatagramValue V2Fault). cond (nat_le (256 * high + low) (length held)) r (Err (faults.Length (256 * high + low) (length held))))
    (pair_same (opened (first - 16) kind high low (take (256 * high + low) held)) (4 + (256 * high + low)) (drop (256 * high + low) held))

alone_same : (octets : List ℕ) → alone_at octets ≡ alone_by asks_of octets
unfolding alone_at alone_by
alone_same octets = λ i. message_same octets i >>= λ m. Ok (alone m)

pub datagram_same : (octets : List ℕ) → datagram_at octets ≡ datagram_by asks_of octets
unfolding datagram_at datagram_by
datagram_same [] = alone_same []
datagram_same (a ∷ []) = alone_same (a ∷ [])
datagram_same (a ∷ b ∷ []) = alone_same (a ∷ b ∷ [])
datagram_same (a ∷ b ∷ c ∷ []) = alone_same (a ∷ b ∷ c ∷ [])
datagram_same (first ∷ kind ∷ high ∷ low ∷ held) = λ i. cond (first / 16 == 5) (announced_same first kind high low held i) (alone_same (opened first kind high low held) i)

pub datagram_decided : (octets : List ℕ) → Decides (datagram_at octets) (IsDatagram octets) (IsDatagramFault octets)
datagram_decided octets =
    subst (λ (r : Result DatagramValue V2Fault). Decides r (IsDatagram octets) (IsDatagramFault octets)) (sym (datagram_same octets)) (datagram_by_decided asks_of octets)
