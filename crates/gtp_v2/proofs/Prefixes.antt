-- A proper prefix of a datagram is at fault.
use Rattle.std.proofs.Common.{◌≡◌, ℕ, zero, suc, ◌+◌, ◌*◌, ◌/◌, ◌%◌, ◌<◌, Bool, true, false, cond, List, [], ◌∷◌, length, take, Result, Ok, Err, inl, refl, ap, ◌∙◌, arith}
use Rattle.std.specs.Prelude.{◌==◌, ◌-◌, nat_lt}
use Rattle.std.proofs.lemmas.Bool.Decides.{nat_tests}
use Rattle.std.proofs.lemmas.List.{length-take}
use Rattle.gtp_v2.specs.declared.fault.V2Fault.TheVariants as faults
use Rattle.gtp_v2.specs.Headed.{Headed}
use Rattle.gtp_v2.specs.reading.Headed.{header_at}
use Rattle.gtp_v2.specs.Message.{MessageValue}
use Rattle.gtp_v2.specs.Datagram.{IsMessage, IsFault}
use Rattle.gtp_v2.proofs.Headers.{header_decided}
use Rattle.gtp_v2.specs.Prefixes.{prefix_fault}

-- what an if-chain let through
chosen : {X E : Type 0} (b : Bool) (e : E) (r : Result X E) (x : X) → cond b (Err e) r ≡ Ok x → (b ≡ false) × (r ≡ Ok x)
chosen true e r x h = absurd cc
chosen false e r x h = (refl, h)

chosen_else : {X E : Type 0} (b : Bool) (e : E) (r : Result X E) (x : X) → cond b r (Err e) ≡ Ok x → (b ≡ true) × (r ≡ Ok x)
chosen_else true e r x h = (refl, h)
chosen_else false e r x h = absurd cc

-- a prefix that keeps the first four octets
long_prefix : (a b c d n : ℕ) (rest : List ℕ) (h : Headed) → header_at (a ∷ b ∷ c ∷ d ∷ rest) ≡ Ok h → n < length rest → header_at (a ∷ b ∷ c ∷ d ∷ take n rest) ≡ Err (faults.Length (length rest) n)
long_prefix a b c d n rest h e lt =
    let v = chosen_else (a / 32 == 2) (faults.Version (a / 32)) _ h e in
    let p = chosen ((a / 16) % 2 == 1) (faults.BadPiggyback 0) _ h v.1 in
    let l = chosen_else (256 * c + d == length rest) (faults.Length (256 * c + d) (length rest)) _ h p.1 in
    let len : length (take n rest) ≡ n = omega (arith, length-take n rest) in
    let stated : 256 * c + d ≡ length rest = grind (arith, nat_tests) in
    let short : (256 * c + d == length (take n rest)) ≡ false = apart_length (256 * c + d) (length rest) (length (take n rest)) l.0 (omega arith) in
    rw (v.0, p.0, short, len) (ap (λ s. Err (faults.Length s n)) stated)
  where
    apart_length : (s m k : ℕ) → (s == m) ≡ true → k < m → (s == k) ≡ false
    apart_length s m k h lt = grind (arith, nat_tests)

-- it has fewer octets than stated
fewer_than_stated : (held whole n stated : ℕ) → held ≡ n + 4 → whole ≡ stated + 4 → faults.Length stated n ≡ prefix_fault held whole
fewer_than_stated held whole n stated h w =
    let enough : nat_lt held 4 ≡ false = grind (arith, nat_tests) in
    let s : whole - 4 ≡ stated = omega arith in
    let k : held - 4 ≡ n = omega arith in
    rw (enough, s, k) refl

-- the first fault of a prefix is that of its header
cut_prefix : (octets : List ℕ) (n : ℕ) (h : Headed) → header_at octets ≡ Ok h → n < length octets → header_at (take n octets) ≡ Err (prefix_fault n (length octets))
cut_prefix [] n h e lt = absurd (omega arith)
cut_prefix (a ∷ []) n h e lt = absurd cc
cut_prefix (a ∷ b ∷ []) n h e lt = absurd cc
cut_prefix (a ∷ b ∷ c ∷ []) n h e lt = absurd cc
cut_prefix (a ∷ b ∷ c ∷ d ∷ rest) zero h e lt = refl
cut_prefix (a ∷ b ∷ c ∷ d ∷ rest) (suc zero) h e lt = refl
cut_prefix (a ∷ b ∷ c ∷ d ∷ rest) (suc (suc zero)) h e lt = refl
cut_prefix (a ∷ b ∷ c ∷ d ∷ rest) (suc (suc (suc zero))) h e lt = refl
cut_prefix (a ∷ b ∷ c ∷ d ∷ rest) (suc (suc (suc (suc n)))) h e lt =
    let told = fewer_than_stated (suc (suc (suc (suc n)))) (length (a ∷ b ∷ c ∷ d ∷ rest)) n (length rest) (omega arith) (omega arith) in
    long_prefix a b c d n rest h e (omega arith) ∙ ap (λ f. Err f) told

pub prefixes_fail : (octets : List ℕ) (m : MessageValue) (n : ℕ) → IsMessage octets m → n < length octets → IsFault (take n octets) (prefix_fault n (length octets))
prefixes_fail octets m n is lt =
    inl ((header_decided (take n octets)).err (prefix_fault n (length octets)) (cut_prefix octets n is.0 ((header_decided octets).is is.0 is.1) lt))
