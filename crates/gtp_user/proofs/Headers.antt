-- Reading a header decides its form.
use Rattle.std.proofs.Common.{◌≡◌, ◌≢◌, ℕ, zero, suc, ◌+◌, ◌-◌, ◌*◌, ◌/◌, ◌%◌, ◌<◌, Bool, true, false, cond, List, [], ◌∷◌, length, Option, None}
use Rattle.std.proofs.Common.{Result, Ok, Err, ◌⊎◌, inl, inr, refl, sym, ap, subst, ◌∙◌, arith}
use Rattle.std.specs.Prelude.{◌==◌}
use Rattle.std.specs.Int.{w32, from_be_bytes}
use Rattle.std.proofs.lemmas.Bool.Decides.{nat_tests}
use Rattle.std.proofs.lemmas.Bool.{cases_lt, eqb-true}
use Rattle.gtp_user.specs.declared.fault.UserFault.{UserFault}
use Rattle.gtp_user.specs.declared.fault.UserFault.TheVariants as faults
use Rattle.gtp_values.specs.Decides.{Decides}
use Rattle.gtp_user.specs.Headed.{Headed, where_set}
use Rattle.gtp_user.specs.reading.Headed.{header_at, after_flags}
use Rattle.gtp_user.specs.Flags.{Flags, bits}
use Rattle.gtp_user.specs.Header.{Opens, HeadedPlain, HeadedByFlags, IsHeaded, HeaderFails}
use Rattle.gtp_values.specs.Bit.{bit}
use Rattle.gtp_values.proofs.Outcomes.{decided_by}
use Rattle.gtp_values.proofs.Tests.{unequal, at_most_one}

-- ---- bits

flag_is : (b : Bool) (n : ℕ) → n ≡ bit b → (n == 1) ≡ b
flag_is true n h = rw h refl
flag_is false n h = rw h refl

bit_is : (n : ℕ) → n < 2 → bit (n == 1) ≡ n
bit_is zero h = refl
bit_is (suc zero) h = refl
bit_is (suc (suc n)) h = absurd (omega arith)

-- what the flags of a first octet are
pub record AreFlags (first : ℕ) (flags : Flags) : Type 0 where
  version : first / 32 ≡ 1
  protocol : (first / 16) % 2 ≡ 1
  pub all : first % 8 ≡ bits flags
  pub chain : ((first / 4) % 2 == 1) ≡ flags.chain
  pub seq : ((first / 2) % 2 == 1) ≡ flags.seq
  pub npdu : (first % 2 == 1) ≡ flags.npdu

pub flags_are : (spare : ℕ) (flags : Flags) → spare < 2 → AreFlags (48 + 8 * spare + bits flags) flags
flags_are spare flags lt =
    let x = at_most_one flags.chain in
    let y = at_most_one flags.seq in
    let z = at_most_one flags.npdu in
    record {
      version = omega arith;
      protocol = omega arith;
      all = omega arith;
      chain = flag_is flags.chain _ (omega arith);
      seq = flag_is flags.seq _ (omega arith);
      npdu = flag_is flags.npdu _ (omega arith);
    }

-- the flags of an octet
abbrev flags_in : ℕ → Flags
flags_in first = record { chain = (first / 4) % 2 == 1; seq = (first / 2) % 2 == 1; npdu = first % 2 == 1 }

first_is : (flags : ℕ) → flags < 16 → 48 + flags ≡ 48 + 8 * (flags / 8) + bits (flags_in (48 + flags))
first_is flags lt =
    let a = bit_is (((48 + flags) / 4) % 2) (omega arith) in
    let b = bit_is (((48 + flags) / 2) % 2) (omega arith) in
    let c = bit_is ((48 + flags) % 2) (omega arith) in
    rw (a, b, c) (omega arith)

-- ---- each form is read as itself

test_is : (m n : ℕ) → m ≡ n → (m == n) ≡ true
test_is m n h = grind (arith, nat_tests)

pub test_not : (m n : ℕ) → m ≢ n → (m == n) ≡ false
test_not m n h = grind (arith, nat_tests)

abbrev begins : ℕ → ℕ → ℕ → ℕ → ℕ → ℕ → ℕ → ℕ → List ℕ → List ℕ
begins first kind high low a b c d tail = first ∷ kind ∷ high ∷ low ∷ a ∷ b ∷ c ∷ d ∷ tail

abbrev plain : ℕ → ℕ → List ℕ → Headed
plain kind teid rest = record { kind = kind; teid = teid; seq = None; npdu = None; first = 0; rest = rest }

abbrev pub headed : ℕ → ℕ → Option ℕ → Option ℕ → ℕ → List ℕ → Headed
headed kind teid seq npdu first rest = record { kind = kind; teid = teid; seq = seq; npdu = npdu; first = first; rest = rest }

abbrev header_read : Headed → Result Headed UserFault
header_read h = Ok h

-- no flag is set
pub at_plain : (first kind high low a b c d : ℕ) (tail : List ℕ) → first / 32 ≡ 1 → (first / 16) % 2 ≡ 1 → first % 8 ≡ 0 → 256 * high + low ≡ length tail
    → header_at (begins first kind high low a b c d tail) ≡ Ok (plain kind (from_be_bytes w32 (a ∷ b ∷ c ∷ d ∷ [])) tail)
at_plain first kind high low a b c d tail v p f l =
    let version : (first / 32 == 1) ≡ true = test_is _ _ v in
    let protocol : ((first / 16) % 2 == 0) ≡ false = test_not _ _ (λ e. omega (arith, e, p)) in
    let same : (256 * high + low == length tail) ≡ true = test_is _ _ l in
    let none : (first % 8 == 0) ≡ true = test_is _ _ f in
    rw (version, protocol, same, none) refl

-- a flag is set
pub at_flags : (first kind high low a b c d : ℕ) (tail : List ℕ) → first / 32 ≡ 1 → (first / 16) % 2 ≡ 1 → 0 < first % 8 → 256 * high + low ≡ length tail
    → header_at (begins first kind high low a b c d tail) ≡ after_flags first kind (from_be_bytes w32 (a ∷ b ∷ c ∷ d ∷ [])) tail
at_flags first kind high low a b c d tail v p f l =
    let version : (first / 32 == 1) ≡ true = test_is _ _ v in
    let protocol : ((first / 16) % 2 == 0) ≡ false = test_not _ _ (λ e. omega (arith, e, p)) in
    let same : (256 * high + low == length tail) ≡ true = test_is _ _ l in
    let some : (first % 8 == 0) ≡ false = test_not _ _ (λ e. omega (arith, e, f)) in
    rw (version, protocol, same, some) refl

headed_same : (h : Headed) (teid first : ℕ) (seq npdu : Option ℕ) → h.teid ≡ teid → h.seq ≡ seq → h.npdu ≡ npdu → h.first ≡ first → header_read (headed h.kind teid seq npdu first h.rest) ≡ Ok h
headed_same h teid first seq npdu t s n f =
    ap header_read (ap (λ x. headed h.kind x seq npdu first h.rest) (sym t) ∙ (ap (λ x. headed h.kind h.teid x npdu first h.rest) (sym s)
    ∙ (ap (λ x. headed h.kind h.teid h.seq x first h.rest) (sym n) ∙ ap (λ x. headed h.kind h.teid h.seq h.npdu x h.rest) (sym f))))

plain_is : (octets : List ℕ) (h : Headed) → HeadedPlain octets h → header_at octets ≡ Ok h
plain_is octets h ((spare, high, low, a, b, c, d, encoding, small, long, teid), seq, npdu, first) =
    let f = flags_are spare (record { chain = false; seq = false; npdu = false }) small in
    ap header_at encoding ∙ (at_plain (48 + 8 * spare + 0) h.kind high low a b c d h.rest f.version f.protocol f.all long
    ∙ headed_same h (from_be_bytes w32 (a ∷ b ∷ c ∷ d ∷ [])) 0 None None teid seq npdu first)

after_is : (first kind teid a b c d : ℕ) (rest : List ℕ) (flags : Flags) → AreFlags first flags
    → after_flags first kind teid (a ∷ b ∷ c ∷ d ∷ rest) ≡ Ok (headed kind teid (where_set flags.seq (256 * a + b)) (where_set flags.npdu c) (cond flags.chain d 0) rest)
after_is first kind teid a b c d rest flags f = rw (f.chain, f.seq, f.npdu) refl

flags_headed : (octets : List ℕ) (h : Headed) → HeadedByFlags octets h → header_at octets ≡ Ok h
flags_headed octets h (flags, x, y, z, t, some, (spare, high, low, a, b, c, d, encoding, small, long, teid), seq, npdu, first) =
    let f = flags_are spare flags small in
    let number = from_be_bytes w32 (a ∷ b ∷ c ∷ d ∷ []) in
    ap header_at encoding
    ∙ (at_flags (48 + 8 * spare + bits flags) h.kind high low a b c d (x ∷ y ∷ z ∷ t ∷ h.rest) f.version f.protocol (omega (arith, f.all, some)) long
    ∙ (after_is (48 + 8 * spare + bits flags) h.kind (from_be_bytes w32 (a ∷ b ∷ c ∷ d ∷ [])) x y z t h.rest flags f
    ∙ headed_same h (from_be_bytes w32 (a ∷ b ∷ c ∷ d ∷ [])) (cond flags.chain t 0) (where_set flags.seq (256 * x + y)) (where_set flags.npdu z) teid seq npdu first))

-- ---- each fault is answered

few : (octets : List ℕ) → length octets < 8 → header_at octets ≡ Err (faults.Short (length octets))
few [] lt = refl
few (a ∷ []) lt = refl
few (a ∷ b ∷ []) lt = refl
few (a ∷ b ∷ c ∷ []) lt = refl
few (a ∷ b ∷ c ∷ d ∷ []) lt = refl
few (a ∷ b ∷ c ∷ d ∷ e ∷ []) lt = refl
few (a ∷ b ∷ c ∷ d ∷ e ∷ f ∷ []) lt = refl
few (a ∷ b ∷ c ∷ d ∷ e ∷ f ∷ g ∷ []) lt = refl
few (a ∷ b ∷ c ∷ d ∷ e ∷ f ∷ g ∷ h ∷ rest) lt = absurd (omega arith)

few_after : (flags kind teid : ℕ) (tail : List ℕ) → length tail < 4 → after_flags flags kind teid tail ≡ Err (faults.Short (8 + length tail))
few_after flags kind teid [] lt = refl
few_after flags kind teid (a ∷ []) lt = refl
few_after flags kind teid (a ∷ b ∷ []) lt = refl
few_after flags kind teid (a ∷ b ∷ c ∷ []) lt = refl
few_after flags kind teid (a ∷ b ∷ c ∷ d ∷ rest) lt = absurd (omega arith)

at_version : (first kind high low a b c d : ℕ) (tail : List ℕ) → first / 32 ≢ 1 → header_at (begins first kind high low a b c d tail) ≡ Err (faults.Version (first / 32))
at_version first kind high low a b c d tail ne = let t = test_not (first / 32) 1 ne in rw t refl

at_protocol : (flags kind high low a b c d : ℕ) (tail : List ℕ) → flags < 16 → header_at (begins (32 + flags) kind high low a b c d tail) ≡ Err faults.Protocol
at_protocol flags kind high low a b c d tail lt =
    let version : ((32 + flags) / 32 == 1) ≡ true = test_is _ _ (omega arith) in
    let protocol : (((32 + flags) / 16) % 2 == 0) ≡ true = test_is _ _ (omega arith) in
    rw (version, protocol) refl

at_length : (flags kind high low a b c d : ℕ) (tail : List ℕ) → flags < 16 → 256 * high + low ≢ length tail
    → header_at (begins (48 + flags) kind high low a b c d tail) ≡ Err (faults.Length (256 * high + low) (length tail))
at_length flags kind high low a b c d tail lt ne =
    let version : ((48 + flags) / 32 == 1) ≡ true = test_is _ _ (omega arith) in
    let protocol : (((48 + flags) / 16) % 2 == 0) ≡ false = test_not _ _ (λ e. omega arith) in
    let other : (256 * high + low == length tail) ≡ false = test_not _ _ ne in
    rw (version, protocol, other) refl

abbrev header_refused : UserFault → Result Headed UserFault
header_refused f = Err f

abbrev start : ℕ → ℕ → ℕ → ℕ → ℕ → ℕ → ℕ → List ℕ → ℕ → List ℕ
start kind high low a b c d tail first = begins first kind high low a b c d tail

fault_is : (octets : List ℕ) (f : UserFault) → HeaderFails octets f → header_at octets ≡ Err f
fault_is octets f (inl (lt, e)) = few octets lt ∙ ap header_refused (sym e)
fault_is octets f (inr (first, kind, high, low, a, b, c, d, tail, encoding, inl (ne, e))) = ap header_at encoding ∙ (at_version first kind high low a b c d tail ne ∙ ap header_refused (sym e))
fault_is octets f (inr (first, kind, high, low, a, b, c, d, tail, encoding, inr (inl (flags, lt, is, e)))) =
    ap header_at (encoding ∙ ap (start kind high low a b c d tail) is) ∙ (at_protocol flags kind high low a b c d tail lt ∙ ap header_refused (sym e))
fault_is octets f (inr (first, kind, high, low, a, b, c, d, tail, encoding, inr (inr (inl (flags, lt, is, ne, e))))) =
    ap header_at (encoding ∙ ap (start kind high low a b c d tail) is) ∙ (at_length flags kind high low a b c d tail lt ne ∙ ap header_refused (sym e))
fault_is octets f (inr (first, kind, high, low, a, b, c, d, tail, encoding, inr (inr (inr (flags, lt, is, some, same, short, e))))) =
    ap header_at (encoding ∙ ap (start kind high low a b c d tail) is)
    ∙ (at_flags (48 + flags) kind high low a b c d tail (omega arith) (omega arith) (omega (arith, some)) same
    ∙ (few_after (48 + flags) kind (from_be_bytes w32 (a ∷ b ∷ c ∷ d ∷ [])) tail short ∙ ap header_refused (sym e)))

-- ---- all octets have a form or a fault

abbrev Sorted : List ℕ → Type 0
Sorted octets = ((h : Headed) × IsHeaded octets h) ⊎ ((f : UserFault) × HeaderFails octets f)

-- the first octet of the two right version and protocol
record IsFirst (first : ℕ) : Type 0 where
  flags : ℕ
  small : flags < 16
  is : first ≡ 48 + flags

opens_by : (first kind high low a b c d : ℕ) (tail : List ℕ) (i : IsFirst first) → 256 * high + low ≡ length tail
    → Opens (begins first kind high low a b c d tail) (flags_in (48 + i.flags)) kind (from_be_bytes w32 (a ∷ b ∷ c ∷ d ∷ [])) tail
opens_by first kind high low a b c d tail i same =
    (i.flags / 8, high, low, a, b, c, d, ap (start kind high low a b c d tail) (i.is ∙ first_is i.flags i.small), omega (arith, i.small), same, refl)

flags_none : (flags : ℕ) → flags < 16 → flags % 8 ≡ 0 → flags_in (48 + flags) ≡ record { chain = false; seq = false; npdu = false }
flags_none flags lt z =
    let a : (((48 + flags) / 4) % 2 == 1) ≡ false = test_not _ _ (λ e. omega (arith, e)) in
    let b : (((48 + flags) / 2) % 2 == 1) ≡ false = test_not _ _ (λ e. omega (arith, e)) in
    let c : ((48 + flags) % 2 == 1) ≡ false = test_not _ _ (λ e. omega (arith, e)) in
    rw (a, b, c) refl

by_tail : (first kind high low a b c d : ℕ) (tail : List ℕ) (i : IsFirst first) → 256 * high + low ≡ length tail → 0 < i.flags % 8 → Sorted (begins first kind high low a b c d tail)
by_tail first kind high low a b c d (x ∷ y ∷ z ∷ t ∷ rest) i same some =
    let flags = flags_in (48 + i.flags) in
    let number = from_be_bytes w32 (a ∷ b ∷ c ∷ d ∷ []) in
    inl (
      headed kind (from_be_bytes w32 (a ∷ b ∷ c ∷ d ∷ [])) (where_set (((48 + i.flags) / 2) % 2 == 1) (256 * x + y))
          (where_set ((48 + i.flags) % 2 == 1) z) (cond (((48 + i.flags) / 4) % 2 == 1) t 0) rest,
      inr (flags_in (48 + i.flags), x, y, z, t, some_bits, opens_by first kind high low a b c d (x ∷ y ∷ z ∷ t ∷ rest) i same, refl, refl, refl),
    )
  where
    some_bits : 0 < bits (flags_in (48 + i.flags))
    some_bits = omega (arith, first_is i.flags i.small, some, i.small)
by_tail first kind high low a b c d [] i same some = inr (faults.Short 8, inr (first, kind, high, low, a, b, c, d, [], refl, inr (inr (inr (i.flags, i.small, i.is, some, same, omega arith, refl)))))
by_tail first kind high low a b c d (x ∷ []) i same some =
    inr
    (faults.Short 9, inr (first, kind, high, low, a, b, c, d, x ∷ [], refl, inr (inr (inr (i.flags, i.small, i.is, some, same, omega arith, refl)))))
by_tail first kind high low a b c d (x ∷ y ∷ []) i same some =
    inr (
      faults.Short 10,
      inr (first, kind, high, low, a, b, c, d, x ∷ y ∷ [], refl, inr (inr (inr (i.flags, i.small, i.is, some, same, omega arith, refl)))),
    )
by_tail first kind high low a b c d (x ∷ y ∷ z ∷ []) i same some =
    inr (
      faults.Short 11,
      inr (first, kind, high, low, a, b, c, d, x ∷ y ∷ z ∷ [], refl, inr (inr (inr (i.flags, i.small, i.is, some, same, omega arith, refl)))),
    )

by_flags : (first kind high low a b c d : ℕ) (tail : List ℕ) (i : IsFirst first) → 256 * high + low ≡ length tail → (t : Bool) → (i.flags % 8 == 0) ≡ t
    → Sorted (begins first kind high low a b c d tail)
by_flags first kind high low a b c d tail i same true e =
    let zero_is : i.flags % 8 ≡ 0 = grind (arith, nat_tests) in
    inl (
      plain kind (from_be_bytes w32 (a ∷ b ∷ c ∷ d ∷ [])) tail,
      inl (
        subst (λ (f : Flags). Opens (begins first kind high low a b c d tail) f kind (from_be_bytes w32 (a ∷ b ∷ c ∷ d ∷ [])) tail)
            (flags_none i.flags i.small zero_is) (opens_by first kind high low a b c d tail i same),
        refl,
        refl,
        refl,
      ),
    )
by_flags first kind high low a b c d tail i same false e = by_tail first kind high low a b c d tail i same (some_is (i.flags % 8) e) where
  some_is : (n : ℕ) → (n == 0) ≡ false → 0 < n
  some_is n h = grind (arith, nat_tests)

by_length : (first kind high low a b c d : ℕ) (tail : List ℕ) (i : IsFirst first) (t : Bool) → (256 * high + low == length tail) ≡ t → Sorted (begins first kind high low a b c d tail)
by_length first kind high low a b c d tail i true e = by_flags first kind high low a b c d tail i (eqb-true _ _ e) (i.flags % 8 == 0) refl
by_length first kind high low a b c d tail i false e =
    inr (
      faults.Length (256 * high + low) (length tail),
      inr (first, kind, high, low, a, b, c, d, tail, refl, inr (inr (inl (i.flags, i.small, i.is, unequal (256 * high + low) (length tail) e, refl)))),
    )

sorted_by : (first kind high low a b c d : ℕ) (tail : List ℕ) → Sorted (begins first kind high low a b c d tail)
sorted_by first kind high low a b c d tail = elim (cases_lt first 32) [
  | inl small ↦ inr (faults.Version (first / 32), inr (first, kind, high, low, a, b, c, d, tail, refl, inl ((λ e. omega (arith, e)), refl)))
  | inr le32 ↦ elim (cases_lt first 64) [
    | inr large ↦ inr (faults.Version (first / 32), inr (first, kind, high, low, a, b, c, d, tail, refl, inl ((λ e. omega (arith, e)), refl)))
    | inl lt64 ↦ elim (cases_lt first 48) [
      | inl lt48 ↦ inr (faults.Protocol, inr (first, kind, high, low, a, b, c, d, tail, refl, inr (inl (first - 32, omega arith, omega arith, refl))))
      | inr le48 ↦ by_length first kind high low a b c d tail (record { flags = first - 48; small = omega arith; is = omega arith }) (256 * high + low == length tail) refl
    ]
  ]
]

sorted : (octets : List ℕ) → Sorted octets
sorted [] = inr (faults.Short 0, inl (omega arith, refl))
sorted (a ∷ []) = inr (faults.Short 1, inl (omega arith, refl))
sorted (a ∷ b ∷ []) = inr (faults.Short 2, inl (omega arith, refl))
sorted (a ∷ b ∷ c ∷ []) = inr (faults.Short 3, inl (omega arith, refl))
sorted (a ∷ b ∷ c ∷ d ∷ []) = inr (faults.Short 4, inl (omega arith, refl))
sorted (a ∷ b ∷ c ∷ d ∷ e ∷ []) = inr (faults.Short 5, inl (omega arith, refl))
sorted (a ∷ b ∷ c ∷ d ∷ e ∷ f ∷ []) = inr (faults.Short 6, inl (omega arith, refl))
sorted (a ∷ b ∷ c ∷ d ∷ e ∷ f ∷ g ∷ []) = inr (faults.Short 7, inl (omega arith, refl))
sorted (first ∷ kind ∷ high ∷ low ∷ a ∷ b ∷ c ∷ d ∷ tail) = sorted_by first kind high low a b c d tail

headed_is : (octets : List ℕ) (h : Headed) → IsHeaded octets h → header_at octets ≡ Ok h
headed_is octets h (inl p) = plain_is octets h p
headed_is octets h (inr p) = flags_headed octets h p

-- reading a header decides its form
pub header_decided : (octets : List ℕ) → Decides (header_at octets) (IsHeaded octets) (HeaderFails octets)
header_decided octets = decided_by (header_at octets) (IsHeaded octets) (HeaderFails octets) (sorted octets) (headed_is octets) (fault_is octets)
