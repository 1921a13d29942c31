-- What is written of an address, a tunnel end or a network spells it.
use Rattle.std.proofs.Common.{◌≡◌, ℕ, ◌+◌, ◌*◌, ◌/◌, ◌%◌, ◌<◌, true, false, List, [], ◌∷◌, ◌++◌, length, take, drop, Option, Some, None, refl, sym, ap, subst, ◌∙◌, arith, length-append}
use Rattle.std.specs.Prelude.{◌==◌}
use Rattle.std.proofs.lemmas.Bool.Decides.{nat_tests}
use Rattle.std.proofs.lemmas.List.{take_at, drop_at, append-nil}
use Rattle.std.proofs.lemmas.List.Elements.{All-head, All-tail}
use Rattle.gtp_values.specs.TunnelEnd.{TunnelEnd, IsTunnelEnd}
use Rattle.gtp_values.proofs.Same.{end_with, network_with}
use Rattle.gtp_values.specs.Plmn.{Network, IsNetwork}
use Rattle.gtp_values.specs.Paa.{IsOtherPdnType}
use Rattle.gtp_values.specs.declared.paa.Paa.TheVariants as paas
use Rattle.gtp_ie.specs.Value.{OfPaa, OfPlmn, OfFTeid, encoding_of, network_in}
use Rattle.gtp_ie.specs.Digits.{network_encoding}
use Rattle.gtp_ie.specs.Spelling.{Spells, Says}
use Rattle.gtp_ie.proofs.Again.{number_again}
use Rattle.gtp_ie.specs.Form.{number_of}
use Rattle.gtp_ie.specs.declared.form.Form.TheVariants as forms

-- the first octets of a list that has no others
take_whole : (n : ℕ) (xs : List ℕ) → length xs ≡ n → take n xs ≡ xs
take_whole n xs e = ap (take n) (sym (append-nil xs)) ∙ take_at xs [] n e

-- ---- addresses of subscribers

pub v4_again : (v4 : List ℕ) → length v4 ≡ 4 → Spells (number_of forms.Paa) (encoding_of (OfPaa (paas.V4 v4))) (OfPaa (paas.V4 v4))
unfolding encoding_of Says
v4_again v4 e = record { long_enough = omega arith; says = ap (λ (xs : List ℕ). OfPaa (paas.V4 xs)) (sym (take_whole 4 v4 e)) }

pub v6_again : (prefix : ℕ) (v6 : List ℕ) → length v6 ≡ 16 → Spells (number_of forms.Paa) (encoding_of (OfPaa (paas.V6 prefix v6))) (OfPaa (paas.V6 prefix v6))
unfolding encoding_of Says
v6_again prefix v6 e = record { long_enough = omega arith; says = ap (λ (xs : List ℕ). OfPaa (paas.V6 prefix xs)) (sym (take_whole 16 v6 e)) }

pub v4v6_again : (prefix : ℕ) (v6 v4 : List ℕ) → length v6 ≡ 16 → length v4 ≡ 4 → Spells (number_of forms.Paa) (encoding_of (OfPaa (paas.V4V6 prefix v6 v4))) (OfPaa (paas.V4V6 prefix v6 v4))
unfolding encoding_of Says
v4v6_again prefix v6 v4 e f =
    let first : take 16 (v6 ++ v4) ≡ v6 = take_at v6 v4 16 e in
    let second : take 4 (drop 16 (v6 ++ v4)) ≡ v4 = ap (take 4) (drop_at v6 v4 16 e) ∙ take_whole 4 v4 f in
    record {
      long_enough = omega (arith, length-append v6 v4);
      says = ap (λ (xs : List ℕ). OfPaa (paas.V4V6 prefix xs v4)) (sym first)
          ∙ ap (λ (xs : List ℕ). OfPaa (paas.V4V6 prefix (take 16 (v6 ++ v4)) xs)) (sym second);
    }

pub other_again : (pdn : ℕ) → IsOtherPdnType pdn → Spells (number_of forms.Paa) (encoding_of (OfPaa (paas.Other pdn))) (OfPaa (paas.Other pdn))
unfolding encoding_of Says
other_again pdn is =
    let same : (pdn / 1) % 8 ≡ pdn = grind (arith, nat_tests) in
    let not_v4 : (pdn == 1) ≡ false = grind (arith, nat_tests) in
    let not_v6 : (pdn == 2) ≡ false = grind (arith, nat_tests) in
    let not_both : (pdn == 3) ≡ false = grind (arith, nat_tests) in
    record { long_enough = rw (same, not_v4, not_v6, not_both) (omega arith); says = rw (same, not_v4, not_v6, not_both) refl }

-- ---- tunnel ends

end_parts : (interface teid : ℕ) (v4 v6 : Option (List ℕ)) → IsTunnelEnd (end_with interface teid v4 v6)
    → Spells (number_of forms.FTeid) (encoding_of (OfFTeid (end_with interface teid v4 v6))) (OfFTeid (end_with interface teid v4 v6))
unfolding encoding_of Says
end_parts interface teid (Some v4) (Some v6) is =
    let a : length v4 ≡ 4 = is.v4 in
    let b : length v6 ≡ 16 = is.v6 in
    let small = is.interface in
    let flag4 : ((128 * 1 + 64 * 1 + interface) / 128) % 2 ≡ 1 = omega arith in
    let flag6 : ((128 * 1 + 64 * 1 + interface) / 64) % 2 ≡ 1 = omega arith in
    let low : ((128 * 1 + 64 * 1 + interface) / 1) % 64 ≡ interface = omega arith in
    let again = number_again teid (v4 ++ v6) is.teid in
    let first : take 4 (v4 ++ v6) ≡ v4 = take_at v4 v6 4 a in
    let second : take 16 (drop 4 (v4 ++ v6)) ≡ v6 = ap (take 16) (drop_at v4 v6 4 a) ∙ take_whole 16 v6 b in
    record { long_enough = rw (flag4, flag6) (omega (arith, length-append v4 v6)); says = rw (flag4, flag6, low, again, first, second) (refl, refl) }
end_parts interface teid (Some v4) None is =
    let a : length v4 ≡ 4 = is.v4 in
    let small = is.interface in
    let flag4 : ((128 * 1 + 64 * 0 + interface) / 128) % 2 ≡ 1 = omega arith in
    let flag6 : ((128 * 1 + 64 * 0 + interface) / 64) % 2 ≡ 0 = omega arith in
    let low : ((128 * 1 + 64 * 0 + interface) / 1) % 64 ≡ interface = omega arith in
    let again = number_again teid (v4 ++ []) is.teid in
    let first : take 4 (v4 ++ []) ≡ v4 = take_at v4 [] 4 a in
    record { long_enough = rw (flag4, flag6) (omega (arith, length-append v4 [])); says = rw (flag4, flag6, low, again, first) (refl, refl) }
end_parts interface teid None (Some v6) is =
    let b : length v6 ≡ 16 = is.v6 in
    let small = is.interface in
    let flag4 : ((128 * 0 + 64 * 1 + interface) / 128) % 2 ≡ 0 = omega arith in
    let flag6 : ((128 * 0 + 64 * 1 + interface) / 64) % 2 ≡ 1 = omega arith in
    let low : ((128 * 0 + 64 * 1 + interface) / 1) % 64 ≡ interface = omega arith in
    let again = number_again teid v6 is.teid in
    let first : take 16 v6 ≡ v6 = take_whole 16 v6 b in
    record { long_enough = rw (flag4, flag6) (omega arith); says = rw (flag4, flag6, low, again, first) (refl, refl) }
end_parts interface teid None None is = let no : false ≡ true = is.some_address in absurd cc

pub fteid_again : (e : TunnelEnd) → IsTunnelEnd e → Spells (number_of forms.FTeid) (encoding_of (OfFTeid e)) (OfFTeid e)
fteid_again e is = end_parts e.interface e.teid e.v4 e.v6 is

-- ---- networks

-- digits in the halves of an octet
low_half : (a b : ℕ) → a < 16 → ((16 * b + a) / 1) % 16 ≡ a
low_half a b small = omega arith

high_half : (a b : ℕ) → a < 16 → b < 16 → ((16 * b + a) / 16) % 16 ≡ b
high_half a b p q = omega arith

plmn_two : (a b c d e : ℕ) → a < 10 → b < 10 → c < 10 → d < 10 → e < 10 → IsNetwork (network_with (a ∷ b ∷ c ∷ []) (d ∷ e ∷ []))
    → Spells (number_of forms.Plmn) (network_encoding (network_with (a ∷ b ∷ c ∷ []) (d ∷ e ∷ [])))
    (OfPlmn (network_with (a ∷ b ∷ c ∷ []) (d ∷ e ∷ [])))
unfolding Says
plmn_two a b c d e p q r s t is =
    let same : network_in (network_encoding (network_with (a ∷ b ∷ c ∷ []) (d ∷ e ∷ []))) ≡ network_with (a ∷ b ∷ c ∷ []) (d ∷ e ∷ []) =
    rw (
      low_half a b (omega arith),
      high_half a b (omega arith) (omega arith),
      low_half c 15 (omega arith),
      high_half c 15 (omega arith) (omega arith),
      low_half d e (omega arith),
      high_half d e (omega arith) (omega arith),
    ) refl in
    record { long_enough = omega arith; says = (subst IsNetwork (sym same) is, ap OfPlmn (sym same)) }

plmn_three : (a b c d e f : ℕ) → a < 10 → b < 10 → c < 10 → d < 10 → e < 10 → f < 10 → IsNetwork (network_with (a ∷ b ∷ c ∷ []) (d ∷ e ∷ f ∷ []))
    → Spells (number_of forms.Plmn) (network_encoding (network_with (a ∷ b ∷ c ∷ []) (d ∷ e ∷ f ∷ [])))
    (OfPlmn (network_with (a ∷ b ∷ c ∷ []) (d ∷ e ∷ f ∷ [])))
unfolding Says
plmn_three a b c d e f p q r s t u is =
    let third : (f == 15) ≡ false = grind (arith, nat_tests) in
    let same : network_in (network_encoding (network_with (a ∷ b ∷ c ∷ []) (d ∷ e ∷ f ∷ []))) ≡ network_with (a ∷ b ∷ c ∷ []) (d ∷ e ∷ f ∷ []) =
    rw (
      low_half a b (omega arith),
      high_half a b (omega arith) (omega arith),
      low_half c f (omega arith),
      high_half c f (omega arith) (omega arith),
      third,
      low_half d e (omega arith),
      high_half d e (omega arith) (omega arith),
    ) refl in
    record { long_enough = omega arith; says = (subst IsNetwork (sym same) is, ap OfPlmn (sym same)) }

abbrev IsDigit : ℕ → Type 0
IsDigit digit = digit < 10

-- the two digits of a list, and the three
by_mnc : (a b c : ℕ) (mnc : List ℕ) → a < 10 → b < 10 → c < 10 → IsNetwork (network_with (a ∷ b ∷ c ∷ []) mnc)
    → Spells (number_of forms.Plmn) (network_encoding (network_with (a ∷ b ∷ c ∷ []) mnc)) (OfPlmn (network_with (a ∷ b ∷ c ∷ []) mnc))
by_mnc a b c [] p q r is = absurd (omega (arith, is.least))
by_mnc a b c (d ∷ []) p q r is = absurd (omega (arith, is.least))
by_mnc a b c (d ∷ e ∷ []) p q r is =
    plmn_two a b c d e p q r (All-head IsDigit d (e ∷ []) is.network_digits) (All-head IsDigit e [] (All-tail IsDigit d (e ∷ []) is.network_digits)) is
by_mnc a b c (d ∷ e ∷ f ∷ []) p q r is =
    let rest = All-tail IsDigit d (e ∷ f ∷ []) is.network_digits in
    plmn_three a b c d e f p q r (All-head IsDigit d (e ∷ f ∷ []) is.network_digits) (All-head IsDigit e (f ∷ []) rest) (All-head IsDigit f [] (All-tail IsDigit e (f ∷ []) rest)) is
by_mnc a b c (d ∷ e ∷ f ∷ g ∷ mnc) p q r is = absurd (omega (arith, is.most))

by_mcc : (mcc mnc : List ℕ) → IsNetwork (network_with mcc mnc) → Spells (number_of forms.Plmn) (network_encoding (network_with mcc mnc)) (OfPlmn (network_with mcc mnc))
by_mcc [] mnc is = absurd (omega (arith, is.country))
by_mcc (a ∷ []) mnc is = absurd (omega (arith, is.country))
by_mcc (a ∷ b ∷ []) mnc is = absurd (omega (arith, is.country))
by_mcc (a ∷ b ∷ c ∷ []) mnc is =
    let rest = All-tail IsDigit a (b ∷ c ∷ []) is.country_digits in
    by_mnc a b c mnc (All-head IsDigit a (b ∷ c ∷ []) is.country_digits) (All-head IsDigit b (c ∷ []) rest) (All-head IsDigit c [] (All-tail IsDigit b (c ∷ []) rest)) is
by_mcc (a ∷ b ∷ c ∷ d ∷ mcc) mnc is = absurd (omega (arith, is.country))

pub plmn_again : (n : Network) → IsNetwork n → Spells (number_of forms.Plmn) (encoding_of (OfPlmn n)) (OfPlmn n)
unfolding encoding_of
plmn_again n is = by_mcc n.mcc n.mnc is
