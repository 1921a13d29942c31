-- A proper prefix of a datagram is at fault.
use Rattle.std.proofs.Common.{◌≡◌, ℕ, suc, ◌+◌, ◌-◌, ◌*◌, ◌<◌, ◌≤◌, false, List, ◌∷◌, length, take, inl, inr, refl, sym, ap, subst, ◌∙◌, arith}
use Rattle.std.proofs.lemmas.List.{length-take}
use Rattle.gtp_user.specs.declared.fault.UserFault.TheVariants as faults
use Rattle.gtp_user.specs.Headed.{Headed}
use Rattle.gtp_values.proofs.Tests.{at_most_one}
use Rattle.gtp_user.specs.Flags.{Flags, bits}
use Rattle.gtp_user.specs.Header.{Opens, IsHeaded, HeaderFails}
use Rattle.gtp_user.specs.Message.{MessageValue}
use Rattle.gtp_user.specs.Datagram.{IsUserMessage, IsUserFault}

-- the first eight octets of a message, and the others
record IsOpened (octets : List ℕ) : Type 0 where
  first : ℕ
  kind : ℕ
  high : ℕ
  low : ℕ
  a : ℕ
  b : ℕ
  c : ℕ
  d : ℕ
  tail : List ℕ
  whole : octets ≡ first ∷ kind ∷ high ∷ low ∷ a ∷ b ∷ c ∷ d ∷ tail
  flags : ℕ
  small : flags < 16
  first_is : first ≡ 48 + flags
  stated : 256 * high + low ≡ length tail

opened_by : (octets : List ℕ) (flags : Flags) (kind teid : ℕ) (tail : List ℕ) → Opens octets flags kind teid tail → IsOpened octets
opened_by octets flags kind teid tail (spare, high, low, a, b, c, d, whole, small, stated, teid_is) = record {
  first = 48 + 8 * spare + bits flags;
  kind = kind;
  high = high;
  low = low;
  a = a;
  b = b;
  c = c;
  d = d;
  tail = tail;
  whole = whole;
  flags = 8 * spare + bits flags;
  small = omega (arith, small, at_most_one flags.chain, at_most_one flags.seq, at_most_one flags.npdu);
  first_is = omega arith;
  stated = stated;
}

opened : (octets : List ℕ) (h : Headed) → IsHeaded octets h → IsOpened octets
opened octets h (inl p) = opened_by octets (record { chain = false; seq = false; npdu = false }) h.kind h.teid h.rest p.0
opened octets h (inr (flags, a, b, c, d, some, p, seq, npdu, first)) = opened_by octets flags h.kind h.teid (a ∷ b ∷ c ∷ d ∷ h.rest) p

-- fewer than eight octets
pub few_fail : (octets : List ℕ) (m : MessageValue) (n : ℕ) → IsUserMessage octets m → n < 8 → IsUserFault (take n octets) (faults.Short n)
few_fail octets m n is lt =
    let o = opened octets is.0 is.1 in
    let size : length (take n octets) ≡ n = omega (arith, length-take n octets, ap length o.whole) in
    inl (inl (omega (arith, size), ap (λ k. faults.Short k) (sym size)))

-- eight octets and some of the others
cut_fails : (octets : List ℕ) (o : IsOpened octets) (k : ℕ) → k < length o.tail
    → HeaderFails (o.first ∷ o.kind ∷ o.high ∷ o.low ∷ o.a ∷ o.b ∷ o.c ∷ o.d ∷ take k o.tail) (faults.Length (length octets - 8) k)
cut_fails octets o k lt =
    let size : length (take k o.tail) ≡ k = omega (arith, length-take k o.tail) in
    let stated : length octets - 8 ≡ 256 * o.high + o.low = omega (arith, ap length o.whole, o.stated) in
    inr (
      o.first,
      o.kind,
      o.high,
      o.low,
      o.a,
      o.b,
      o.c,
      o.d,
      take k o.tail,
      refl,
      inr (inr (inl (
        o.flags,
        o.small,
        o.first_is,
        (λ same. omega (arith, same, size, o.stated)),
        ap (λ n. faults.Length n k) stated ∙ ap (λ n. faults.Length (256 * o.high + o.low) n) (sym size),
      ))),
    )

pub fewer_fail : (octets : List ℕ) (m : MessageValue) (n : ℕ) → IsUserMessage octets m → 8 ≤ n → n < length octets → IsUserFault (take n octets) (faults.Length (length octets - 8) (n - 8))
fewer_fail octets m n is some lt =
    let o = opened octets is.0 is.1 in
    let n_is : n ≡ suc (suc (suc (suc (suc (suc (suc (suc (n - 8)))))))) = omega arith in
    let cut : take n octets ≡ o.first ∷ o.kind ∷ o.high ∷ o.low ∷ o.a ∷ o.b ∷ o.c ∷ o.d ∷ take (n - 8) o.tail =
    ap (λ k. take k octets) n_is ∙ ap (take (suc (suc (suc (suc (suc (suc (suc (suc (n - 8)))))))))) o.whole in
    inl (subst (λ xs. HeaderFails xs (faults.Length (length octets - 8) (n - 8))) (sym cut) (cut_fails octets o (n - 8) (omega (arith, ap length o.whole))))
