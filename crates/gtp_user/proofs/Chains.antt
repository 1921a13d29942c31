-- Reading a chain of extension headers decides which headers it has.
use Rattle.std.proofs.Common.{◌≡◌, ℕ, zero, suc, ◌+◌, ◌-◌, ◌*◌, ◌/◌, ◌<◌, ◌≤◌, Bool, true, false, cond, List, [], ◌∷◌, ◌++◌, length, take, drop, Some}
use Rattle.std.proofs.Common.{Result, Ok, Err, ◌⊎◌, inl, inr, refl, sym, ap, subst, ◌∙◌, arith, append_assoc, add-one}
use Rattle.std.specs.Prelude.{◌≢◌, ◌==◌, ◌||◌, nat_lt, nat_le, slice_index}
use Rattle.std.proofs.lemmas.Bool.Decides.{nat_tests}
use Rattle.std.proofs.lemmas.List.{length-take, length-append, take_at, append-nil}
use Rattle.std.proofs.lemmas.Option.{same_Some}
use Rattle.gtp_user.specs.declared.fault.UserFault.{UserFault}
use Rattle.gtp_user.specs.declared.fault.UserFault.TheVariants as faults
use Rattle.gtp_values.specs.Steps.{◌>>=◌}
use Rattle.gtp_values.specs.Decides.{Decides, First_or_later}
use Rattle.gtp_user.specs.Chain.{Extension, IsTaken, IsNeeded, BeginsExtensionBy, LeadsBy, IsChainBy, ExtensionFailsBy, ChainFailsBy, BeginsExtension, Leads, IsChain, ExtensionFails, ChainFails, WholeChainFails, first_kind, chain_encoding, AreExtensions}
use Rattle.gtp_user.specs.reading.Walk.{Front, front_at, Chained, with_front, is_understood, front_by, walk, chain_by, chain_at, headers_of, rest_of, with_no_rest, whole_at}
use Rattle.gtp_values.proofs.Outcomes.{ok_same, err_same, apart, decided_by}
use Rattle.gtp_values.proofs.Tests.{same_number, unequal}
use Rattle.gtp_values.proofs.Decided.{decide_bind, decide_map, decide_as, known_ok, known_err}

-- the header that a front is
abbrev header : ℕ → Front → Extension
header kind front = record { kind = kind; content = front.content }

-- a front of this type
abbrev IsFront : ℕ → List ℕ → Front → Type 0
IsFront kind octets front = BeginsExtension octets (header kind front) front.next front.rest

abbrev front : List ℕ → ℕ → List ℕ → Front
front content next rest = record { content = content; next = next; rest = rest }

-- ---- one header

abbrev read : Front → Result Front UserFault
read f = Ok f

abbrev refused : UserFault → Result Front UserFault
refused f = Err f

-- octets that are long enough, in parts
three_parts_by : (size : ℕ) (octets : List ℕ) → size < length octets → octets ≡ take size octets ++ slice_index octets size ∷ drop (suc size) octets
three_parts_by zero [] lt = absurd (omega arith)
three_parts_by zero (x ∷ xs) lt = refl
three_parts_by (suc n) [] lt = absurd (omega arith)
three_parts_by (suc n) (x ∷ xs) lt = ap (λ (ys : List ℕ). x ∷ ys) (three_parts_by n xs (omega arith))

three_parts : (size : ℕ) (octets : List ℕ) → size < length octets → octets ≡ take size octets ++ slice_index octets size ∷ drop (size + 1) octets
three_parts size octets lt = three_parts_by size octets lt ∙ ap (λ (n : ℕ). take size octets ++ slice_index octets size ∷ drop n octets) (sym (add-one size))

parts_by : (content : List ℕ) (next : ℕ) (rest : List ℕ) (size : ℕ) → length content ≡ size
    → front (take size (content ++ next ∷ rest)) (slice_index (content ++ next ∷ rest) size) (drop (suc size) (content ++ next ∷ rest)) ≡ front content next rest
parts_by [] next rest zero h = refl
parts_by [] next rest (suc n) h = absurd (omega arith)
parts_by (x ∷ xs) next rest zero h = absurd (omega arith)
parts_by (x ∷ xs) next rest (suc n) h = ap (λ (f : Front). front (x ∷ f.content) f.next f.rest) (parts_by xs next rest n (omega arith))

parts_at : (content : List ℕ) (next : ℕ) (rest : List ℕ) (size : ℕ) → length content ≡ size
    → front (take size (content ++ next ∷ rest)) (slice_index (content ++ next ∷ rest) size) (drop (size + 1) (content ++ next ∷ rest)) ≡ front content next rest
parts_at content next rest size h =
    ap (λ (n : ℕ). front (take size (content ++ next ∷ rest)) (slice_index (content ++ next ∷ rest) size) (drop n (content ++ next ∷ rest))) (add-one size) ∙ parts_by content next rest size h

-- each header is read as itself
front_is : (end kind : ℕ) (octets : List ℕ) (f : Front) → IsFront kind octets f → front_at end kind octets ≡ Ok f
front_is end kind octets f (units, encoding, size, some, small) =
    let n : ℕ = 4 * units - 2 in
    let length_is : length f.content ≡ 4 * units - 2 = omega arith in
    let not_zero : (units == 0) ≡ false = grind (arith, nat_tests) in
    let enough : nat_le (length (f.content ++ f.next ∷ f.rest)) (4 * units - 2) ≡ false =
    long_enough (length (f.content ++ f.next ∷ f.rest)) (4 * units - 2) (omega (arith, length-append f.content (f.next ∷ f.rest))) in
    let known : nat_lt kind 128 ≡ true = grind (arith, nat_tests) in
    ap (front_at end kind) encoding ∙ rw (not_zero, enough, known) (ap read (parts_at f.content f.next f.rest (4 * units - 2) length_is))
  where
    long_enough : (a b : ℕ) → b < a → nat_le a b ≡ false
    long_enough a b h = grind (arith, nat_tests)

-- and each fault as itself
fault_is : (end kind : ℕ) (octets : List ℕ) (f : UserFault) → ExtensionFails end kind octets f → front_at end kind octets ≡ Err f
fault_is end kind octets f (inl (encoding, e)) = ap (front_at end kind) encoding ∙ ap refused (sym e)
fault_is end kind octets f (inr (inl (rest, encoding, e))) = ap (front_at end kind) encoding ∙ ap refused (ap (λ (xs : List ℕ). faults.ExtensionZero (end - length xs)) (sym encoding) ∙ sym e)
fault_is end kind octets f (inr (inr (inl (units, rest, encoding, some, lt, e)))) =
    let not_zero : (units == 0) ≡ false = grind (arith, nat_tests) in
    let short : nat_le (length rest) (4 * units - 2) ≡ true = too_short (length rest) units (omega (arith, ap length encoding)) in
    ap (front_at end kind) encoding ∙ rw (not_zero, short) (ap refused (ap (λ (xs : List ℕ). faults.ExtensionPast (end - length xs)) (sym encoding) ∙ sym e))
  where
    too_short : (n units : ℕ) → n + 1 < 4 * units → nat_le n (4 * units - 2) ≡ true
    too_short n units h = grind (arith, nat_tests)
fault_is end kind octets f (inr (inr (inr (units, rest, encoding, some, le, high, e)))) =
    let not_zero : (units == 0) ≡ false = grind (arith, nat_tests) in
    let enough : nat_le (length rest) (4 * units - 2) ≡ false = long_enough (length rest) units (omega (arith, ap length encoding)) some in
    let unknown : nat_lt kind 128 ≡ false = grind (arith, nat_tests) in
    ap (front_at end kind) encoding ∙ rw (not_zero, enough, unknown) (ap refused (ap (λ (xs : List ℕ). faults.ExtensionNeeded kind (end - length xs)) (sym encoding) ∙ sym e))
  where
    long_enough : (n units : ℕ) → 4 * units ≤ n + 1 → 0 < units → nat_le n (4 * units - 2) ≡ false
    long_enough n units h s = grind (arith, nat_tests)

-- all octets begin with a header of this type, or have a fault
abbrev Sorted : ℕ → ℕ → List ℕ → Type 0
Sorted end kind octets = ((f : Front) × IsFront kind octets f) ⊎ ((f : UserFault) × ExtensionFails end kind octets f)

by_kind : (end kind units : ℕ) (rest : List ℕ) → 0 < kind → 0 < units → 4 * units ≤ length (units ∷ rest) → (b : Bool) → nat_lt kind 128 ≡ b → Sorted end kind (units ∷ rest)
by_kind end kind units rest k some le true t =
    let parts = three_parts (4 * units - 2) rest (omega arith) in
    inl (
      front (take (4 * units - 2) rest) (slice_index rest (4 * units - 2)) (drop (4 * units - 2 + 1) rest),
      (units, ap (λ (xs : List ℕ). units ∷ xs) parts, omega (arith, length-take (4 * units - 2) rest), k, grind (arith, nat_tests)),
    )
by_kind end kind units rest k some le false t = inr (faults.ExtensionNeeded kind (end - length (units ∷ rest)), inr (inr (inr (units, rest, refl, some, le, grind (arith, nat_tests), refl))))

by_length : (end kind units : ℕ) (rest : List ℕ) → 0 < kind → 0 < units → (b : Bool) → nat_lt (length (units ∷ rest)) (4 * units) ≡ b → Sorted end kind (units ∷ rest)
by_length end kind units rest k some true t = inr (faults.ExtensionPast (end - length (units ∷ rest)), inr (inr (inl (units, rest, refl, some, grind (arith, nat_tests), refl))))
by_length end kind units rest k some false t = by_kind end kind units rest k some (grind (arith, nat_tests)) (nat_lt kind 128) refl

sorted : (end kind : ℕ) (octets : List ℕ) → 0 < kind → Sorted end kind octets
sorted end kind [] k = inr (faults.ExtensionPast end, inl (refl, refl))
sorted end kind (zero ∷ rest) k = inr (faults.ExtensionZero (end - length (zero ∷ rest)), inr (inl (rest, refl, refl)))
sorted end kind (suc n ∷ rest) k = by_length end kind (suc n) rest k (omega arith) (nat_lt (length (suc n ∷ rest)) (4 * suc n)) refl

front_decided : (end kind : ℕ) (octets : List ℕ) → 0 < kind → Decides (front_at end kind octets) (IsFront kind octets) (ExtensionFails end kind octets)
front_decided end kind octets k =
    decided_by (front_at end kind octets) (IsFront kind octets) (ExtensionFails end kind octets) (sorted end kind octets k) (front_is end kind octets)
    (fault_is end kind octets)

-- ---- where further types are understood

-- a front of this type
abbrev IsFrontBy : List ℕ → ℕ → List ℕ → Front → Type 0
IsFrontBy understood kind octets front = BeginsExtensionBy understood octets (header kind front) front.next front.rest

known_taken : (understood : List ℕ) (kind : ℕ) → is_understood understood kind ≡ true → IsTaken understood kind
known_taken [] kind t = absurd cc
known_taken (known ∷ understood) kind t = by_test (kind == known) refl t (known_taken understood kind) where
  by_test : (b : Bool) → (kind == known) ≡ b → (b || is_understood understood kind) ≡ true → (is_understood understood kind ≡ true → IsTaken understood kind) → IsTaken (known ∷ understood) kind
  by_test true same t others = inl (same_number kind known same)
  by_test false same t others = inr (others t)

known_not_needed : (understood : List ℕ) (kind : ℕ) → is_understood understood kind ≡ true → IsNeeded understood kind → ⊥
known_not_needed [] kind t needed = absurd cc
known_not_needed (known ∷ understood) kind t needed = by_test (kind == known) refl t (known_not_needed understood kind) where
  by_test : (b : Bool) → (kind == known) ≡ b → (b || is_understood understood kind) ≡ true → (is_understood understood kind ≡ true → IsNeeded understood kind → ⊥) → ⊥
  by_test true same t others = needed.0 (same_number kind known same)
  by_test false same t others = others t needed.1

-- a type that is none of these
record IsUnknown (understood : List ℕ) (kind : ℕ) : Type 0 where
  taken : kind < 128 → IsTaken understood kind
  low : IsTaken understood kind → kind < 128
  needed : 128 ≤ kind → IsNeeded understood kind
  high : IsNeeded understood kind → 128 ≤ kind

is_unknown : (understood : List ℕ) (kind : ℕ) → is_understood understood kind ≡ false → IsUnknown understood kind
is_unknown [] kind t = record { taken = λ h. h; low = λ h. h; needed = λ h. h; high = λ h. h }
is_unknown (known ∷ understood) kind t = by_test (kind == known) refl t (is_unknown understood kind) where
  by_test : (b : Bool) → (kind == known) ≡ b → (b || is_understood understood kind) ≡ false → (is_understood understood kind ≡ false → IsUnknown understood kind)
      → IsUnknown (known ∷ understood) kind
  by_test true same t others = absurd cc
  by_test false same t others =
      let other : kind ≢ known = unequal kind known same in
      let u = others t in
      record { taken = λ h. inr (u.taken h); low = λ h. elim h [ inl p ↦ absurd (other p) | inr p ↦ u.low p ]; needed = λ h. (other, u.needed h); high = λ h. u.high h.1 }

front_by_decided : (understood : List ℕ) (end kind : ℕ) (octets : List ℕ) → 0 < kind
    → Decides (front_by understood end kind octets) (IsFrontBy understood kind octets) (ExtensionFailsBy understood end kind octets)
front_by_decided understood end kind octets some = by_known (is_understood understood kind) refl where
  by_known : (b : Bool) → is_understood understood kind ≡ b
      → Decides (front_at end (cond b 1 kind) octets) (IsFrontBy understood kind octets) (ExtensionFailsBy understood end kind octets)
  by_known true t =
      decide_as (front_at end 1 octets) (IsFront 1 octets) (IsFrontBy understood kind octets) (ExtensionFails end 1 octets) (ExtensionFailsBy understood end kind octets)
      (λ f p. (p.0, p.1, p.2, some, known_taken understood kind t)) (λ f p. (p.0, p.1, p.2, omega arith, omega arith)) to_fails from_fails
      (front_decided end 1 octets (omega arith))
    where
      to_fails : (f : UserFault) → ExtensionFails end 1 octets f → ExtensionFailsBy understood end kind octets f
      to_fails f (inl p) = inl p
      to_fails f (inr (inl p)) = inr (inl p)
      to_fails f (inr (inr (inl p))) = inr (inr (inl p))
      to_fails f (inr (inr (inr p))) = absurd (omega (arith, p.5))

      from_fails : (f : UserFault) → ExtensionFailsBy understood end kind octets f → ExtensionFails end 1 octets f
      from_fails f (inl p) = inl p
      from_fails f (inr (inl p)) = inr (inl p)
      from_fails f (inr (inr (inl p))) = inr (inr (inl p))
      from_fails f (inr (inr (inr p))) = absurd (known_not_needed understood kind t p.5)
  by_known false t =
      let u = is_unknown understood kind t in
      decide_as (front_at end kind octets) (IsFront kind octets) (IsFrontBy understood kind octets) (ExtensionFails end kind octets) (ExtensionFailsBy understood end kind octets)
      (λ f p. (p.0, p.1, p.2, p.3, u.taken p.4)) (λ f p. (p.0, p.1, p.2, p.3, u.low p.4)) to_fails from_fails
      (front_decided end kind octets some)
    where
      to_fails : (f : UserFault) → ExtensionFails end kind octets f → ExtensionFailsBy understood end kind octets f
      to_fails f (inl p) = inl p
      to_fails f (inr (inl p)) = inr (inl p)
      to_fails f (inr (inr (inl p))) = inr (inr (inl p))
      to_fails f (inr (inr (inr p))) = inr (inr (inr (p.0, p.1, p.2, p.3, p.4, (is_unknown understood kind t).needed p.5, p.6)))

      from_fails : (f : UserFault) → ExtensionFailsBy understood end kind octets f → ExtensionFails end kind octets f
      from_fails f (inl p) = inl p
      from_fails f (inr (inl p)) = inr (inl p)
      from_fails f (inr (inr (inl p))) = inr (inr (inl p))
      from_fails f (inr (inr (inr p))) = inr (inr (inr (p.0, p.1, p.2, p.3, p.4, (is_unknown understood kind t).high p.5, p.6)))

front_shorter : (understood : List ℕ) (kind : ℕ) (octets : List ℕ) (f : Front) → IsFrontBy understood kind octets f → length f.rest < length octets
front_shorter understood kind octets f (units, encoding, size, some, taken) = omega (arith, ap length encoding, length-append f.content (f.next ∷ f.rest))

-- ---- a chain

-- a whole chain, as it is read
abbrev pub IsChainedBy : List ℕ → ℕ → List ℕ → Chained → Type 0
IsChainedBy understood kind octets c = IsChainBy understood kind octets c.headers c.rest

abbrev pub IsChained : ℕ → List ℕ → Chained → Type 0
IsChained = IsChainedBy []

abbrev pub chained : List Extension → List ℕ → Chained
chained headers rest = record { headers = headers; rest = rest }

abbrev no_chain : UserFault → Result Chained UserFault
no_chain g = Err g

abbrev no_headers : List ℕ → Result Chained UserFault
no_headers octets = Ok (chained [] octets)

not_zero : (k : ℕ) → false ≡ (suc k == 0)
not_zero k = grind (arith, nat_tests)

module _ (understood : List ℕ) where
  -- each header is read as itself, and each fault
  front_taken : (end kind : ℕ) (octets : List ℕ) (f : Front) → IsFrontBy understood kind octets f → front_by understood end kind octets ≡ Ok f
  front_taken end kind octets f is = (front_by_decided understood end kind octets is.3).is f is

  fault_told : (end kind : ℕ) (octets : List ℕ) (g : UserFault) → 0 < kind → ExtensionFailsBy understood end kind octets g → front_by understood end kind octets ≡ Err g
  fault_told end kind octets g some fails = (front_by_decided understood end kind octets some).fails g fails

  -- type 0 ends it
  ended : (end : ℕ) (octets : List ℕ) → Decides {E = UserFault} (Ok (chained [] octets)) (IsChainedBy understood 0 octets) (ChainFailsBy understood end 0 octets)
  ended end octets = known_ok (chained [] octets) (IsChainedBy understood 0 octets) (ChainFailsBy understood end 0 octets) (refl, refl) only none where
    only : (c : Chained) → IsChainedBy understood 0 octets c → c ≡ chained [] octets
    only c h = by_headers c.headers c.rest h where
      by_headers : (es : List Extension) (rest : List ℕ) → IsChainBy understood 0 octets es rest → chained es rest ≡ chained [] octets
      by_headers [] rest h = ap (λ (xs : List ℕ). chained [] xs) (sym h.1)
      by_headers (e ∷ es) rest (follows, after, same, begins, others) = absurd (omega (arith, same, begins.3))

    none : (f : UserFault) → ChainFailsBy understood end 0 octets f → ⊥
    none f ([], next, rest, leads, some, fails) = omega (arith, leads.0)
    none f (e ∷ es, next, rest, (follows, after, same, begins, others), some, fails) = omega (arith, same, begins.3)

  -- the front that a header is
  as_front : (kind : ℕ) (octets : List ℕ) (e : Extension) (next : ℕ) (rest : List ℕ) → e.kind ≡ kind → BeginsExtensionBy understood octets e next rest
      → IsFrontBy understood kind octets (front e.content next rest)
  as_front kind octets e next rest same (units, encoding, size, some, taken) =
      (units, encoding, size, subst (λ (k : ℕ). 0 < k) same some, subst (λ (k : ℕ). IsTaken understood k) same taken)

  one_front : (end kind : ℕ) (octets : List ℕ) (f : Front) (e : Extension) (next : ℕ) (rest : List ℕ) → IsFrontBy understood kind octets f → e.kind ≡ kind
      → BeginsExtensionBy understood octets e next rest → front e.content next rest ≡ f
  one_front end kind octets f e next rest is same begins =
      ok_same UserFault (front e.content next rest) f
      (sym (front_taken end kind octets (front e.content next rest) (as_front kind octets e next rest same begins)) ∙ front_taken end kind octets f is)

  here_fails : (end kind next : ℕ) (octets rest : List ℕ) (g : UserFault) → kind ≡ next → octets ≡ rest → 0 < next → ExtensionFailsBy understood end next rest g → front_by understood end kind octets ≡ Err g
  here_fails end kind next octets rest g k o more fails = ap (λ (n : ℕ). front_by understood end n octets) k ∙ (ap (front_by understood end next) o ∙ fault_told end next rest g more fails)

  -- after a header the others decide
  after_front : (end kind : ℕ) (octets : List ℕ) (f : Front) (r : Result Chained UserFault) → 0 < kind → IsFrontBy understood kind octets f
      → Decides r (IsChainedBy understood f.next f.rest) (ChainFailsBy understood end f.next f.rest)
      → Decides (r >>= λ c. Ok (with_front kind f c)) (IsChainedBy understood kind octets) (ChainFailsBy understood end kind octets)
  after_front end kind octets f r some is d =
      decide_as (r >>= λ c. Ok (with_front kind f c)) (λ y. (c : Chained) × IsChainedBy understood f.next f.rest c × (y ≡ with_front kind f c))
      (IsChainedBy understood kind octets) (ChainFailsBy understood end f.next f.rest) (ChainFailsBy understood end kind octets)
      to_chain (λ y p. from_chain y.headers y.rest p) to_fails from_fails
      (decide_map r (with_front kind f) (IsChainedBy understood f.next f.rest) (ChainFailsBy understood end f.next f.rest) d)
    where
      to_chain : (y : Chained) → ((c : Chained) × IsChainedBy understood f.next f.rest c × (y ≡ with_front kind f c)) → IsChainedBy understood kind octets y
      to_chain y (c, p, e) = subst (IsChainedBy understood kind octets) (sym e) (f.next, f.rest, refl, is, p)

      from_chain : (es : List Extension) (rest : List ℕ) → IsChainBy understood kind octets es rest → (c : Chained) × IsChainedBy understood f.next f.rest c × (chained es rest ≡ with_front kind f c)
      from_chain [] rest p = absurd (omega (arith, p.0))
      from_chain (e ∷ es) rest (follows, after, same, begins, leads) =
          let one = one_front end kind octets f e follows after is same begins in (
            chained es rest,
            subst (λ (g : Front). LeadsBy understood g.next g.rest es 0 rest) one leads,
            ap (λ (k : ℕ). chained (record { kind = k; content = e.content } ∷ es) rest) same
                ∙ ap (λ (g : Front). with_front kind g (chained es rest)) one,
          )

      to_fails : (g : UserFault) → ChainFailsBy understood end f.next f.rest g → ChainFailsBy understood end kind octets g
      to_fails g (es, next, rest, leads, more, fails) = (header kind f ∷ es, next, rest, (f.next, f.rest, refl, is, leads), more, fails)

      from_fails : (g : UserFault) → ChainFailsBy understood end kind octets g → ChainFailsBy understood end f.next f.rest g
      from_fails g ([], next, rest, leads, more, fails) = absurd (apart f g (sym (front_taken end kind octets f is) ∙ here_fails end kind next octets rest g leads.0 leads.1 more fails))
      from_fails g (e ∷ es, next, rest, (follows, after, same, begins, leads), more, fails) =
          let one = one_front end kind octets f e follows after is same begins in
          (es, next, rest, subst (λ (h : Front). LeadsBy understood h.next h.rest es next rest) one leads, more, fails)

  -- a header at fault
  stopped : (end kind : ℕ) (octets : List ℕ) (g : UserFault) → 0 < kind → ExtensionFailsBy understood end kind octets g
      → Decides (no_chain g) (IsChainedBy understood kind octets) (ChainFailsBy understood end kind octets)
  stopped end kind octets g some fails =
      known_err g (IsChainedBy understood kind octets) (ChainFailsBy understood end kind octets) ([], kind, octets, (refl, refl), some, fails) (λ c p. none c.headers c.rest p) one
    where
      no_header : (e : Extension) (next : ℕ) (rest : List ℕ) → e.kind ≡ kind → BeginsExtensionBy understood octets e next rest → ⊥
      no_header e next rest same begins =
          apart (front e.content next rest) g
          (sym (front_taken end kind octets (front e.content next rest) (as_front kind octets e next rest same begins)) ∙ fault_told end kind octets g some fails)

      none : (es : List Extension) (rest : List ℕ) → IsChainBy understood kind octets es rest → ⊥
      none [] rest p = omega (arith, p.0)
      none (e ∷ es) rest (follows, after, same, begins, leads) = no_header e follows after same begins

      one : (h : UserFault) → ChainFailsBy understood end kind octets h → h ≡ g
      one h ([], next, rest, leads, more, other) = err_same Front h g (sym (here_fails end kind next octets rest h leads.0 leads.1 more other) ∙ fault_told end kind octets g some fails)
      one h (e ∷ es, next, rest, (follows, after, same, begins, leads), more, other) = absurd (no_header e follows after same begins)

  -- a header and then the others
  rest_decided : (end kind : ℕ) (octets : List ℕ) (k : Front → Result Chained UserFault) → 0 < kind
      → ((f : Front) → IsFrontBy understood kind octets f → Decides (k f) (IsChainedBy understood f.next f.rest) (ChainFailsBy understood end f.next f.rest))
      → Decides (front_by understood end kind octets >>= λ f. k f >>= λ c. Ok (with_front kind f c)) (IsChainedBy understood kind octets) (ChainFailsBy understood end kind octets)
  rest_decided end kind octets k some others = by_front (front_by understood end kind octets) refl where
    by_front : (r : Result Front UserFault) → front_by understood end kind octets ≡ r
        → Decides (r >>= λ f. k f >>= λ c. Ok (with_front kind f c)) (IsChainedBy understood kind octets) (ChainFailsBy understood end kind octets)
    by_front (Ok f) e = let is = (front_by_decided understood end kind octets some).ok f e in after_front end kind octets f (k f) some is (others f is)
    by_front (Err g) e = stopped end kind octets g some ((front_by_decided understood end kind octets some).err g e)

-- a walk of enough steps decides
walk_decided : (understood : List ℕ) (steps end kind : ℕ) (octets : List ℕ) → length octets ≤ steps
    → Decides (walk understood steps end kind octets) (IsChainedBy understood kind octets) (ChainFailsBy understood end kind octets)
unfolding walk
walk_decided understood steps end zero octets l = at_end steps where
  at_end : (steps : ℕ) → Decides (walk understood steps end 0 octets) (IsChainedBy understood 0 octets) (ChainFailsBy understood end 0 octets)
  at_end zero = ended understood end octets
  at_end (suc n) = ended understood end octets
walk_decided understood zero end (suc k) [] l =
    subst (λ (b : Bool). Decides (cond b (no_headers []) (no_chain (faults.ExtensionPast end))) (IsChainedBy understood (suc k) []) (ChainFailsBy understood end (suc k) []))
    (not_zero k) (stopped understood end (suc k) [] (faults.ExtensionPast end) (omega arith) (inl (refl, refl)))
walk_decided understood zero end (suc k) (x ∷ xs) l = absurd (omega arith)
walk_decided understood (suc steps) end (suc k) octets l =
    subst (λ (b : Bool).
    Decides (cond b (no_headers octets) (front_by understood end (suc k) octets >>= λ f. walk understood steps end f.next f.rest >>= λ c. Ok (with_front (suc k) f c)))
    (IsChainedBy understood (suc k) octets) (ChainFailsBy understood end (suc k) octets)) (not_zero k)
    (rest_decided understood end (suc k) octets (λ f. walk understood steps end f.next f.rest) (omega arith)
    (λ f is. walk_decided understood steps end f.next f.rest (omega (arith, front_shorter understood (suc k) octets f is))))

-- reading a chain decides which headers it has
pub chain_by_decided : (understood : List ℕ) (end kind : ℕ) (octets : List ℕ)
    → Decides (chain_by understood end kind octets) (IsChainedBy understood kind octets) (ChainFailsBy understood end kind octets)
unfolding chain_by
chain_by_decided understood end kind octets = walk_decided understood (length octets) end kind octets (omega arith)

pub chain_decided : (end kind : ℕ) (octets : List ℕ) → Decides (chain_at end kind octets) (IsChained kind octets) (ChainFails end kind octets)
chain_decided = chain_by_decided []

-- ---- the encoding of a chain

-- a chain with one more header
leads_on : (understood : List ℕ) (kind : ℕ) (octets : List ℕ) (es : List Extension) (next : ℕ) (rest : List ℕ) (e : Extension) (follows : ℕ) (after : List ℕ)
    → LeadsBy understood kind octets es next rest → e.kind ≡ next → BeginsExtensionBy understood rest e follows after
    → LeadsBy understood kind octets (es ++ e ∷ []) follows after
leads_on understood kind octets [] next rest e follows after leads same begins =
    (follows, after, same ∙ sym leads.0, subst (λ (xs : List ℕ). BeginsExtensionBy understood xs e follows after) (sym leads.1) begins, (refl, refl))
leads_on understood kind octets (d ∷ es) next rest e follows after (n, xs, k, b, leads) same begins =
    (n, xs, k, b, leads_on understood n xs es next rest e follows after leads same begins)

-- the octets of a chain are its encoding, and then the rest
pub record IsSpelled (kind : ℕ) (octets : List ℕ) (es : List Extension) (rest : List ℕ) : Type 0 where
  pub first : kind ≡ first_kind es
  pub encoding : octets ≡ chain_encoding es ++ rest

pub chain_spelled : (kind : ℕ) (octets : List ℕ) (es : List Extension) (rest : List ℕ) → IsChain kind octets es rest → IsSpelled kind octets es rest
chain_spelled kind octets [] rest h = record { first = h.0; encoding = h.1 }
chain_spelled kind octets (e ∷ es) rest (follows, after, same, (units, encoding, size, some, small), leads) =
    let others = chain_spelled follows after es rest leads in
    let units_is : units ≡ (2 + length e.content) / 4 = omega arith in
    record {
      first = sym same;
      encoding =
          encoding ∙ (ap (λ (n : ℕ). n ∷ (e.content ++ follows ∷ after)) units_is
          ∙ (ap (λ (n : ℕ). ((2 + length e.content) / 4) ∷ (e.content ++ n ∷ after)) others.first
          ∙ (ap (λ (xs : List ℕ). ((2 + length e.content) / 4) ∷ (e.content ++ first_kind es ∷ xs)) others.encoding
          ∙ ap (λ (xs : List ℕ). ((2 + length e.content) / 4) ∷ xs) (sym (append_assoc e.content (first_kind es ∷ chain_encoding es) rest)))));
    }

-- each of them can be written
pub chain_extensions : (kind : ℕ) (octets : List ℕ) (es : List Extension) (rest : List ℕ) → IsChain kind octets es rest → AreExtensions es
chain_extensions kind octets [] rest h = tt
chain_extensions kind octets (e ∷ es) rest (follows, after, same, (units, encoding, size, some, small), leads) = ((some, small, (units, size)), chain_extensions follows after es rest leads)

-- the encoding of headers is their chain
pub encoding_chained : (es : List Extension) (rest : List ℕ) → AreExtensions es → IsChain (first_kind es) (chain_encoding es ++ rest) es rest
encoding_chained [] rest h = (refl, refl)
encoding_chained (e ∷ es) rest ((some, small, (units, size)), others) = (
  first_kind es,
  chain_encoding es ++ rest,
  refl,
  (
    units,
    ap (λ (n : ℕ). n ∷ ((e.content ++ first_kind es ∷ chain_encoding es) ++ rest)) (omega arith)
        ∙ ap (λ (xs : List ℕ). units ∷ xs) (append_assoc e.content (first_kind es ∷ chain_encoding es) rest),
    size,
    some,
    small,
  ),
  encoding_chained es rest others,
)

-- ---- the loop

-- whole headers so far
abbrev pub SoFarBy : List ℕ → ℕ → List ℕ → ℕ → List ℕ → Type 0
SoFarBy understood first octets kind rest = (es : List Extension) × LeadsBy understood first octets es kind rest

pub record GoesOn (understood : List ℕ) (first : ℕ) (octets rest : List ℕ) (f : Front) : Type 0 where
  pub so_far : SoFarBy understood first octets f.next f.rest
  pub shorter : length f.rest < length rest

module _ (understood : List ℕ) (end first kind : ℕ) (octets rest : List ℕ) (so_far : SoFarBy understood first octets kind rest) where
  pub stops : (f : UserFault) → 0 < kind → front_by understood end kind rest ≡ Err f → chain_by understood end first octets ≡ Err f
  stops f some h = (chain_by_decided understood end first octets).fails f (so_far.0, kind, rest, so_far.1, some, (front_by_decided understood end kind rest some).err f h)

  pub goes_on : (f : Front) → 0 < kind → front_by understood end kind rest ≡ Ok f → GoesOn understood first octets rest f
  goes_on f some h =
      let is = (front_by_decided understood end kind rest some).ok f h in
      record {
        so_far = (so_far.0 ++ header kind f ∷ [], leads_on understood first octets so_far.0 kind rest (header kind f) f.next f.rest so_far.1 refl is);
        shorter = front_shorter understood kind rest f is;
      }

-- where no type from 128 on is understood
abbrev pub SoFar : ℕ → List ℕ → ℕ → List ℕ → Type 0
SoFar = SoFarBy []

pub so_far_stops : (end first kind : ℕ) (octets rest : List ℕ) (f : UserFault) → SoFar first octets kind rest → 0 < kind → front_at end kind rest ≡ Err f → chain_at end first octets ≡ Err f
so_far_stops end first kind octets rest f so_far some h = stops [] end first kind octets rest so_far f some h

pub so_far_goes_on : (end first kind : ℕ) (octets rest : List ℕ) (f : Front) → SoFar first octets kind rest → 0 < kind → front_at end kind rest ≡ Ok f → GoesOn [] first octets rest f
so_far_goes_on end first kind octets rest f so_far some h = goes_on [] end first kind octets rest so_far f some h

-- octets that are a whole chain
pub record AreChain (end first : ℕ) (octets encoding rest : List ℕ) : Type 0 where
  pub whole : rest_of (chain_at (length encoding) first encoding) ≡ Some []
  pub chain : chain_at end first octets ≡ Ok (chained (headers_of (chain_at (length encoding) first encoding)) rest)

pub so_far_ends : (end first : ℕ) (octets rest : List ℕ) → SoFar first octets 0 rest → AreChain end first octets (take (length octets - length rest) octets) rest
so_far_ends end first octets rest (es, chain) =
    let spelled = chain_spelled first octets es rest chain in
    let n : ℕ = length octets - length rest in
    let size : length (chain_encoding es) ≡ length octets - length rest = omega (arith, ap length spelled.encoding, length-append (chain_encoding es) rest) in
    let encoding_is : take (length octets - length rest) octets ≡ chain_encoding es =
    ap (take (length octets - length rest)) spelled.encoding ∙ take_at (chain_encoding es) rest (length octets - length rest) size in
    let again : IsChain first (chain_encoding es) es [] =
    subst (λ (k : ℕ). IsChain k (chain_encoding es) es []) (sym spelled.first)
    (subst (λ (xs : List ℕ). IsChain (first_kind es) xs es []) (append-nil (chain_encoding es))
    (encoding_chained es [] (chain_extensions first octets es rest chain))) in
    let read_again : chain_at (length (take (length octets - length rest) octets)) first (take (length octets - length rest) octets) ≡ Ok (chained es []) =
    (chain_decided (length (take (length octets - length rest) octets)) first (take (length octets - length rest) octets)).is (chained es [])
    (subst (λ (xs : List ℕ). IsChain first xs es []) (sym encoding_is) again) in
    record {
      whole = ap rest_of read_again;
      chain = (chain_decided end first octets).is (chained es rest) chain ∙ ap (λ (ds : List Extension). Ok (chained ds rest)) (sym (ap headers_of read_again));
    }

-- ---- a whole chain

-- what a whole chain's octets say of its headers
pub record IsWhole (first : ℕ) (octets : List ℕ) (es : List Extension) : Type 0 where
  pub first_is : first ≡ first_kind es
  pub encoding : octets ≡ chain_encoding es
  pub extensions : AreExtensions es

rest_is : (r : Result Chained UserFault) → rest_of r ≡ Some [] → r ≡ Ok (chained (headers_of r) [])
rest_is (Ok c) h = ap (λ (xs : List ℕ). Ok (chained c.headers xs)) (same_Some c.rest [] h)
rest_is (Err f) h = absurd cc

pub whole_chain : (first : ℕ) (octets : List ℕ) → rest_of (chain_at (length octets) first octets) ≡ Some [] → IsChain first octets (headers_of (chain_at (length octets) first octets)) []
whole_chain first octets h = (chain_decided (length octets) first octets).ok (chained (headers_of (chain_at (length octets) first octets)) []) (rest_is (chain_at (length octets) first octets) h)

pub whole_is : (first : ℕ) (octets : List ℕ) → rest_of (chain_at (length octets) first octets) ≡ Some [] → IsWhole first octets (headers_of (chain_at (length octets) first octets))
whole_is first octets h =
    let chain = whole_chain first octets h in
    let es = headers_of (chain_at (length octets) first octets) in
    let spelled = chain_spelled first octets es [] chain in
    record { first_is = spelled.first; encoding = spelled.encoding ∙ append-nil (chain_encoding es); extensions = chain_extensions first octets es [] chain }

-- no octets are no headers
pub none_chained : chain_at 0 0 [] ≡ no_headers []
unfolding chain_by walk
none_chained = refl

-- ---- one header after the other

-- type 0 is at the end
pub whole_end : (first : ℕ) (octets : List ℕ) → rest_of (chain_at (length octets) first octets) ≡ Some [] → first ≡ 0 → headers_of (chain_at (length octets) first octets) ≡ []
whole_end first octets h zero_is = by_headers (headers_of (chain_at (length octets) first octets)) (whole_chain first octets h) where
  by_headers : (es : List Extension) → IsChain first octets es [] → es ≡ []
  by_headers [] p = refl
  by_headers (e ∷ es) (follows, after, same, begins, leads) = absurd (omega (arith, same, zero_is, begins.3))

-- a header is at the front, and the others after it
pub record IsNext (first : ℕ) (octets : List ℕ) (f : Front) : Type 0 where
  pub headers : headers_of (chain_at (length octets) first octets) ≡ record { kind = first; content = f.content } ∷ headers_of (chain_at (length f.rest) f.next f.rest)
  pub others : rest_of (chain_at (length f.rest) f.next f.rest) ≡ Some []

pub whole_next : (first : ℕ) (octets : List ℕ) (f : Front) → rest_of (chain_at (length octets) first octets) ≡ Some [] → 0 < first
    → front_at (length octets) first octets ≡ Ok f → IsNext first octets f
whole_next first octets f h some found = by_headers (headers_of (chain_at (length octets) first octets)) refl (whole_chain first octets h) where
  is : IsFront first octets f
  is = (front_decided (length octets) first octets some).ok f found

  by_headers : (es : List Extension) → headers_of (chain_at (length octets) first octets) ≡ es → IsChain first octets es [] → IsNext first octets f
  by_headers [] e p = absurd (omega (arith, p.0))
  by_headers (e ∷ es) same_es (follows, after, same, begins, leads) =
      let one = one_front [] (length octets) first octets f e follows after is same begins in
      let others : IsChain f.next f.rest es [] = subst (λ (g : Front). Leads g.next g.rest es 0 []) one leads in
      let read_again : chain_at (length f.rest) f.next f.rest ≡ Ok (chained es []) = (chain_decided (length f.rest) f.next f.rest).is (chained es []) others in
      record {
        headers =
            same_es ∙ (ap (λ (k : ℕ). record { kind = k; content = e.content } ∷ es) same
            ∙ (ap (λ (g : Front). record { kind = first; content = g.content } ∷ es) one
            ∙ ap (λ (ds : List Extension). record { kind = first; content = f.content } ∷ ds) (sym (ap headers_of read_again))));
        others = ap rest_of read_again;
      }

-- and there is one
pub whole_begins : (first : ℕ) (octets : List ℕ) (g : UserFault) → rest_of (chain_at (length octets) first octets) ≡ Some [] → 0 < first → front_at (length octets) first octets ≡ Err g → ⊥
whole_begins first octets g h some found =
    apart (chained (headers_of (chain_at (length octets) first octets)) []) g
    (sym (rest_is (chain_at (length octets) first octets) h) ∙ (chain_decided (length octets) first octets).fails g
    ([], first, octets, (refl, refl), some, (front_decided (length octets) first octets some).err g found))

-- ---- a chain and nothing else

abbrev whole_read : List Extension → Result (List Extension) UserFault
whole_read es = Ok es

abbrev not_whole : UserFault → Result (List Extension) UserFault
not_whole f = Err f

no_rest_decided : (end : ℕ) (c : Chained) → Decides (with_no_rest end c) (λ es. (c.rest ≡ []) × (es ≡ c.headers)) (λ f. (0 < length c.rest) × (f ≡ faults.Length (end - length c.rest) end))
no_rest_decided end c = by_rest c.rest where
  by_rest : (rest : List ℕ) → Decides (with_no_rest end (chained c.headers rest)) (λ es. (rest ≡ []) × (es ≡ c.headers)) (λ f. (0 < length rest) × (f ≡ faults.Length (end - length rest) end))
  by_rest [] = known_ok c.headers (λ es. ([] ≡ []) × (es ≡ c.headers)) (λ f. (0 < 0) × (f ≡ faults.Length (end - 0) end)) (refl, refl) (λ es h. h.1) (λ f h. omega (arith, h.0))
  by_rest (x ∷ xs) =
      subst (λ (b : Bool).
      Decides (cond b (whole_read c.headers) (not_whole (faults.Length (end - length (x ∷ xs)) end))) (λ es. (x ∷ xs ≡ []) × (es ≡ c.headers))
      (λ f. (0 < length (x ∷ xs)) × (f ≡ faults.Length (end - length (x ∷ xs)) end))) (not_zero (length xs))
      (known_err (faults.Length (end - length (x ∷ xs)) end) (λ es. (x ∷ xs ≡ []) × (es ≡ c.headers))
      (λ f. (0 < length (x ∷ xs)) × (f ≡ faults.Length (end - length (x ∷ xs)) end)) (omega arith, refl) (λ es h. omega (arith, ap length h.0))
      (λ f h. h.1))

pub whole_decided : (first : ℕ) (octets : List ℕ) → Decides (whole_at first octets) (λ es. IsChain first octets es []) (WholeChainFails first octets)
unfolding whole_at
whole_decided first octets =
    decide_as (chain_at (length octets) first octets >>= λ c. with_no_rest (length octets) c)
    (λ es. (c : Chained) × IsChained first octets c × ((c.rest ≡ []) × (es ≡ c.headers))) (λ es. IsChain first octets es [])
    (First_or_later (IsChained first octets) (ChainFails (length octets) first octets)
    (λ c f. (0 < length c.rest) × (f ≡ faults.Length (length octets - length c.rest) (length octets)))) (WholeChainFails first octets)
    (λ es p. subst (λ (ds : List Extension). IsChain first octets ds []) (sym p.2.1) (subst (λ (xs : List ℕ). IsChain first octets p.0.headers xs) p.2.0 p.1))
    (λ es p. (chained es [], p, (refl, refl)))
    (λ f p. elim p [ inl q ↦ inl q | inr q ↦ inr (q.0.headers, q.0.rest, q.1, q.2.0, q.2.1) ])
    (λ f p. elim p [ inl q ↦ inl q | inr q ↦ inr (chained q.0 q.1, q.2, (q.3, q.4)) ])
    (decide_bind (chain_at (length octets) first octets) (with_no_rest (length octets)) (IsChained first octets)
    (ChainFails (length octets) first octets) (λ c es. (c.rest ≡ []) × (es ≡ c.headers))
    (λ c f. (0 < length c.rest) × (f ≡ faults.Length (length octets - length c.rest) (length octets))) (chain_decided (length octets) first octets)
    (no_rest_decided (length octets)))
