-- Reading a header decides its form.
use Rattle.std.proofs.Common.{◌≡◌, ◌≢◌, ℕ, ◌+◌, ◌-◌, ◌*◌, ◌/◌, ◌%◌, ◌<◌, ◌≤◌, Bool, true, false, cond, List, [], ◌∷◌, length, Some, None, Ok, Err, ◌⊎◌, inl, inr, refl, sym, ap, subst, ◌∙◌, arith}
use Rattle.std.specs.Prelude.{◌==◌, nat_le}
use Rattle.byteorder.specs.Endian.{big_number}
use Rattle.std.proofs.lemmas.Bool.Decides.{nat_tests}
use Rattle.std.proofs.lemmas.Bool.{cases_lt, eqb-true}
use Rattle.gtp_values.specs.Decides.{Decides}
use Rattle.gtp_v2.specs.declared.fault.V2Fault.{V2Fault}
use Rattle.gtp_v2.specs.declared.fault.V2Fault.TheVariants as faults
use Rattle.gtp_v2.specs.Headed.{Headed}
use Rattle.gtp_v2.specs.reading.Headed.{header_at, after_teid, after_no_teid}
use Rattle.gtp_v2.specs.Header.{HeadedPlain, HeadedByTeid, IsHeaded, HeaderFails}
use Rattle.gtp_values.proofs.Outcomes.{decided_by}
use Rattle.gtp_values.proofs.Tests.{unequal}

-- the parts of what was read are those of the octets: each form is read as itself
plain_is : (octets : List ℕ) (h : Headed) → HeadedPlain octets h → header_at octets ≡ Ok h
plain_is octets h (flags, a, b, c, spare, small, (high, low, lt, text, long), is) =
    let version : ((64 + flags) / 32 == 2) ≡ true = grind (arith, nat_tests) in
    let no_second : (((64 + flags) / 16) % 2 == 1) ≡ false = grind (arith, nat_tests) in
    let no_teid : (((64 + flags) / 8) % 2 == 1) ≡ false = grind (arith, nat_tests) in
    let same : (256 * high + low == length (a ∷ b ∷ c ∷ spare ∷ h.rest)) ≡ true = grind (arith, nat_tests) in
    ap header_at text ∙ rw (version, no_second, same, no_teid) (ap (λ (x : Headed). Ok x) (sym is))

third_flag : (flags : ℕ) → flags < 8 → (((64 + (8 + flags)) / 4) % 2 == 1) ≡ nat_le 4 flags
third_flag flags small = grind (arith, nat_tests)

teid_is : (octets : List ℕ) (h : Headed) → HeadedByTeid octets h → header_at octets ≡ Ok h
teid_is octets h (flags, a, b, c, d, e, f, g, last, small, (high, low, lt, text, long), is) =
    let version : ((64 + (8 + flags)) / 32 == 2) ≡ true = grind (arith, nat_tests) in
    let no_second : (((64 + (8 + flags)) / 16) % 2 == 1) ≡ false = grind (arith, nat_tests) in
    let has_teid : (((64 + (8 + flags)) / 8) % 2 == 1) ≡ true = grind (arith, nat_tests) in
    let same : (256 * high + low == length (a ∷ b ∷ c ∷ d ∷ e ∷ f ∷ g ∷ last ∷ h.rest)) ≡ true = grind (arith, nat_tests) in
    ap header_at text ∙ rw (version, no_second, same, has_teid, third_flag flags small) (ap (λ (x : Headed). Ok x) (sym is))

-- octets that are too few for the rest of a header
few_plain : (kind : ℕ) (following : List ℕ) → length following < 4 → after_no_teid kind following ≡ Err (faults.Short (4 + length following))
few_plain kind [] lt = refl
few_plain kind (a ∷ []) lt = refl
few_plain kind (a ∷ b ∷ []) lt = refl
few_plain kind (a ∷ b ∷ c ∷ []) lt = refl
few_plain kind (a ∷ b ∷ c ∷ d ∷ rest) lt = absurd (omega arith)

few_teid : (first kind : ℕ) (following : List ℕ) → length following < 8 → after_teid first kind following ≡ Err (faults.Short (4 + length following))
few_teid first kind [] lt = refl
few_teid first kind (a ∷ []) lt = refl
few_teid first kind (a ∷ b ∷ []) lt = refl
few_teid first kind (a ∷ b ∷ c ∷ []) lt = refl
few_teid first kind (a ∷ b ∷ c ∷ d ∷ []) lt = refl
few_teid first kind (a ∷ b ∷ c ∷ d ∷ e ∷ []) lt = refl
few_teid first kind (a ∷ b ∷ c ∷ d ∷ e ∷ f ∷ []) lt = refl
few_teid first kind (a ∷ b ∷ c ∷ d ∷ e ∷ f ∷ g ∷ []) lt = refl
few_teid first kind (a ∷ b ∷ c ∷ d ∷ e ∷ f ∷ g ∷ h ∷ rest) lt = absurd (omega arith)

few : (octets : List ℕ) → length octets < 4 → header_at octets ≡ Err (faults.Short (length octets))
few [] lt = refl
few (a ∷ []) lt = refl
few (a ∷ b ∷ []) lt = refl
few (a ∷ b ∷ c ∷ []) lt = refl
few (a ∷ b ∷ c ∷ d ∷ rest) lt = absurd (omega arith)

-- what the first octet says
abbrev begins : ℕ → ℕ → ℕ → ℕ → List ℕ → List ℕ
begins first kind high low following = first ∷ kind ∷ high ∷ low ∷ following

at_version : (first kind high low : ℕ) (following : List ℕ) → first / 32 ≢ 2 → header_at (begins first kind high low following) ≡ Err (faults.Version (first / 32))
at_version first kind high low following ne = let t : (first / 32 == 2) ≡ false = grind (arith, nat_tests) in rw t refl

pub at_second : (flags kind high low : ℕ) (following : List ℕ) → flags < 16 → header_at (begins (80 + flags) kind high low following) ≡ Err (faults.BadPiggyback 0)
at_second flags kind high low following lt =
    let version : ((80 + flags) / 32 == 2) ≡ true = grind (arith, nat_tests) in
    let second : (((80 + flags) / 16) % 2 == 1) ≡ true = grind (arith, nat_tests) in
    rw (version, second) refl

at_length : (flags kind high low : ℕ) (following : List ℕ) → flags < 16 → 256 * high + low ≢ length following
    → header_at (begins (64 + flags) kind high low following) ≡ Err (faults.Length (256 * high + low) (length following))
at_length flags kind high low following lt ne =
    let version : ((64 + flags) / 32 == 2) ≡ true = grind (arith, nat_tests) in
    let no_second : (((64 + flags) / 16) % 2 == 1) ≡ false = grind (arith, nat_tests) in
    let other : (256 * high + low == length following) ≡ false = grind (arith, nat_tests) in
    rw (version, no_second, other) refl

at_plain : (flags kind high low : ℕ) (following : List ℕ) → flags < 8 → 256 * high + low ≡ length following → header_at (begins (64 + flags) kind high low following) ≡ after_no_teid kind following
at_plain flags kind high low following lt e =
    let version : ((64 + flags) / 32 == 2) ≡ true = grind (arith, nat_tests) in
    let no_second : (((64 + flags) / 16) % 2 == 1) ≡ false = grind (arith, nat_tests) in
    let no_teid : (((64 + flags) / 8) % 2 == 1) ≡ false = grind (arith, nat_tests) in
    let same : (256 * high + low == length following) ≡ true = grind (arith, nat_tests) in
    rw (version, no_second, same, no_teid) refl

at_teid : (flags kind high low : ℕ) (following : List ℕ) → flags < 8 → 256 * high + low ≡ length following
    → header_at (begins (72 + flags) kind high low following) ≡ after_teid (72 + flags) kind following
at_teid flags kind high low following lt e =
    let version : ((72 + flags) / 32 == 2) ≡ true = grind (arith, nat_tests) in
    let no_second : (((72 + flags) / 16) % 2 == 1) ≡ false = grind (arith, nat_tests) in
    let has_teid : (((72 + flags) / 8) % 2 == 1) ≡ true = grind (arith, nat_tests) in
    let same : (256 * high + low == length following) ≡ true = grind (arith, nat_tests) in
    rw (version, no_second, same, has_teid) refl

fault_is : (octets : List ℕ) (f : V2Fault) → HeaderFails octets f → header_at octets ≡ Err f
fault_is octets f (inl (lt, e)) = few octets lt ∙ ap (λ (x : V2Fault). Err x) (sym e)
fault_is octets f (inr (first, kind, high, low, following, text, inl (ne, e))) = ap header_at text ∙ (at_version first kind high low following ne ∙ ap (λ (x : V2Fault). Err x) (sym e))
fault_is octets f (inr (first, kind, high, low, following, text, inr (inl (flags, lt, is, e)))) =
    ap header_at (text ∙ ap (λ n. begins n kind high low following) is) ∙ (at_second flags kind high low following lt ∙ ap (λ (x : V2Fault). Err x) (sym e))
fault_is octets f (inr (first, kind, high, low, following, text, inr (inr (inl (flags, lt, is, ne, e))))) =
    ap header_at (text ∙ ap (λ n. begins n kind high low following) is) ∙ (at_length flags kind high low following lt ne ∙ ap (λ (x : V2Fault). Err x) (sym e))
fault_is octets f (inr (first, kind, high, low, following, text, inr (inr (inr (inl (flags, lt, is, long, shorter, e)))))) =
    ap header_at (text ∙ ap (λ n. begins n kind high low following) is) ∙ (at_plain flags kind high low following lt long ∙ (few_plain kind following shorter ∙ ap (λ (x : V2Fault). Err x) (sym e)))
fault_is octets f (inr (first, kind, high, low, following, text, inr (inr (inr (inr (flags, lt, is, long, shorter, e)))))) =
    ap header_at (text ∙ ap (λ n. begins n kind high low following) is)
    ∙ (at_teid flags kind high low following lt long ∙ (few_teid (72 + flags) kind following shorter ∙ ap (λ (x : V2Fault). Err x) (sym e)))

-- ---- each list of octets is a header or at fault

abbrev Sorted : List ℕ → Type 0
Sorted octets = ((h : Headed) × IsHeaded octets h) ⊎ ((f : V2Fault) × HeaderFails octets f)

-- after four octets of which the first is below 72
sorted_plain : (flags kind high low : ℕ) (following : List ℕ) → flags < 8 → 256 * high + low ≡ length following → Sorted (begins (64 + flags) kind high low following)
sorted_plain flags kind high low (a ∷ b ∷ c ∷ spare ∷ rest) lt e =
    inl (record { kind = kind; teid = None; seq = big_number 3 (a ∷ b ∷ c ∷ []); priority = None; rest = rest; at = 8 }, inl (flags, a, b, c, spare, lt, (high, low, omega arith, refl, e), refl))
sorted_plain flags kind high low [] lt e = inr (faults.Short 4, inr (64 + flags, kind, high, low, [], refl, inr (inr (inr (inl (flags, lt, refl, e, omega arith, refl))))))
sorted_plain flags kind high low (a ∷ []) lt e = inr (faults.Short 5, inr (64 + flags, kind, high, low, a ∷ [], refl, inr (inr (inr (inl (flags, lt, refl, e, omega arith, refl))))))
sorted_plain flags kind high low (a ∷ b ∷ []) lt e = inr (faults.Short 6, inr (64 + flags, kind, high, low, a ∷ b ∷ [], refl, inr (inr (inr (inl (flags, lt, refl, e, omega arith, refl))))))
sorted_plain flags kind high low (a ∷ b ∷ c ∷ []) lt e = inr (faults.Short 7, inr (64 + flags, kind, high, low, a ∷ b ∷ c ∷ [], refl, inr (inr (inr (inl (flags, lt, refl, e, omega arith, refl))))))

long_teid : (flags kind high low : ℕ) (following : List ℕ) → flags < 8 → 256 * high + low ≡ length following → 8 ≤ length following → Sorted (begins (72 + flags) kind high low following)
long_teid flags kind high low [] lt e le = absurd (omega arith)
long_teid flags kind high low (a ∷ []) lt e le = absurd (omega arith)
long_teid flags kind high low (a ∷ b ∷ []) lt e le = absurd (omega arith)
long_teid flags kind high low (a ∷ b ∷ c ∷ []) lt e le = absurd (omega arith)
long_teid flags kind high low (a ∷ b ∷ c ∷ d ∷ []) lt e le = absurd (omega arith)
long_teid flags kind high low (a ∷ b ∷ c ∷ d ∷ p ∷ []) lt e le = absurd (omega arith)
long_teid flags kind high low (a ∷ b ∷ c ∷ d ∷ p ∷ q ∷ []) lt e le = absurd (omega arith)
long_teid flags kind high low (a ∷ b ∷ c ∷ d ∷ p ∷ q ∷ r ∷ []) lt e le = absurd (omega arith)
long_teid flags kind high low (a ∷ b ∷ c ∷ d ∷ p ∷ q ∷ r ∷ last ∷ rest) lt e le =
    inl (
      record { kind = kind; teid = Some (big_number 4 (a ∷ b ∷ c ∷ d ∷ [])); seq = big_number 3 (p ∷ q ∷ r ∷ []); priority = cond (nat_le 4 flags) (Some (last / 16)) None; rest = rest; at = 12 },
      inr (flags, a, b, c, d, p, q, r, last, lt, (high, low, omega arith, ap (λ n. begins n kind high low (a ∷ b ∷ c ∷ d ∷ p ∷ q ∷ r ∷ last ∷ rest)) (omega arith), e), refl),
    )

-- after four octets of which the first is from 72 to 79
sorted_teid : (flags kind high low : ℕ) (following : List ℕ) → flags < 8 → 256 * high + low ≡ length following → Sorted (begins (72 + flags) kind high low following)
sorted_teid flags kind high low following lt e = elim (cases_lt (length following) 8) [
  | inl few ↦ inr (faults.Short (4 + length following), inr (72 + flags, kind, high, low, following, refl, inr (inr (inr (inr (flags, lt, refl, e, few, refl))))))
  | inr enough ↦ long_teid flags kind high low following lt e enough
]

by_length : (first kind high low : ℕ) (following : List ℕ) → 64 ≤ first → first < 80 → (b : Bool) → (256 * high + low == length following) ≡ b → Sorted (begins first kind high low following)
by_length first kind high low following le lt false t =
    inr (
      faults.Length (256 * high + low) (length following),
      inr (
        first,
        kind,
        high,
        low,
        following,
        refl,
        inr (inr (inl (first - 64, omega arith, omega arith, (λ e. absurd (unequal (256 * high + low) (length following) t e)), refl))),
      ),
    )
by_length first kind high low following le lt true t =
    let e : 256 * high + low ≡ length following = eqb-true _ _ t in
    elim (cases_lt first 72) [
      | inl plain ↦ subst (λ n. Sorted (begins n kind high low following)) (omega arith) (sorted_plain (first - 64) kind high low following (omega arith) e)
      | inr named ↦ subst (λ n. Sorted (begins n kind high low following)) (omega arith) (sorted_teid (first - 72) kind high low following (omega arith) e)
    ]

-- by the first octet, and the length
sorted_by : (first kind high low : ℕ) (following : List ℕ) → Sorted (begins first kind high low following)
sorted_by first kind high low following = elim (cases_lt first 64) [
  | inl small ↦ inr (faults.Version (first / 32), inr (first, kind, high, low, following, refl, inl ((λ e. omega (arith, e)), refl)))
  | inr le64 ↦ elim (cases_lt first 96) [
    | inr large ↦ inr (faults.Version (first / 32), inr (first, kind, high, low, following, refl, inl ((λ e. omega (arith, e)), refl)))
    | inl lt96 ↦ elim (cases_lt first 80) [
      | inr le80 ↦ inr (faults.BadPiggyback 0, inr (first, kind, high, low, following, refl, inr (inl (first - 80, omega arith, omega arith, refl))))
      | inl lt80 ↦ by_length first kind high low following le64 lt80 (256 * high + low == length following) refl
    ]
  ]
]

sorted : (octets : List ℕ) → Sorted octets
sorted [] = inr (faults.Short 0, inl (omega arith, refl))
sorted (a ∷ []) = inr (faults.Short 1, inl (omega arith, refl))
sorted (a ∷ b ∷ []) = inr (faults.Short 2, inl (omega arith, refl))
sorted (a ∷ b ∷ c ∷ []) = inr (faults.Short 3, inl (omega arith, refl))
sorted (a ∷ b ∷ c ∷ d ∷ following) = sorted_by a b c d following

headed_is : (octets : List ℕ) (h : Headed) → IsHeaded octets h → header_at octets ≡ Ok h
headed_is octets h (inl p) = plain_is octets h p
headed_is octets h (inr p) = teid_is octets h p

-- reading a header decides its form
pub header_decided : (octets : List ℕ) → Decides (header_at octets) (IsHeaded octets) (HeaderFails octets)
header_decided octets = decided_by (header_at octets) (IsHeaded octets) (HeaderFails octets) (sorted octets) (headed_is octets) (fault_is octets)
