-- What is written spells the value.
use Rattle.std.proofs.Common.{◌≡◌, Bool, true, false, ℕ, ◌+◌, ◌*◌, ◌<◌, ◌^◌, List, [], ◌++◌, refl, sym, ap, ◌∙◌, arith}
use Rattle.byteorder.specs.Endian.{big_bytes, big_number}
use Rattle.byteorder.specs.Numbers.{big_from-bytes}
use Rattle.gtp_ie.specs.Value.{OfRecovery, OfEbi, OfRat, OfChargingId, OfPdnType, OfPti, OfSelection, OfCause, OfAmbr, OfQos, encoding_of, rates_encoding, AreRates}
use Rattle.gtp_values.specs.Bit.{bit}
use Rattle.gtp_values.proofs.Same.{cause_with, offending_with, ambr_with, rates_with}
use Rattle.gtp_values.specs.declared.cause.Cause.{Cause}
use Rattle.gtp_values.specs.declared.cause.Offending.{Offending}
use Rattle.gtp_values.specs.declared.qos.Ambr.{Ambr}
use Rattle.gtp_values.specs.declared.qos.Qos.{Qos}
use Rattle.gtp_values.specs.declared.qos.Rates.{Rates}
use Rattle.std.specs.Prelude.{◌==◌, Option, Some, None}
use Rattle.gtp_ie.specs.Layout.{bits, is_set}
use Rattle.gtp_ie.specs.Spelling.{Spells, Says}
use Rattle.gtp_ie.specs.Form.{number_of}
use Rattle.gtp_ie.specs.declared.form.Form.TheVariants as forms

pub recovery_again : (counter : ℕ) → Spells (number_of forms.Recovery) (encoding_of (OfRecovery counter)) (OfRecovery counter)
unfolding encoding_of Says
recovery_again counter = record { long_enough = omega arith; says = refl }

pub ebi_again : (n : ℕ) → n < 16 → Spells (number_of forms.Ebi) (encoding_of (OfEbi n)) (OfEbi n)
unfolding encoding_of Says
ebi_again n small = record { long_enough = omega arith; says = ap OfEbi (omega arith) }

-- a number is read from its octets
pub number_again : (n : ℕ) (rest : List ℕ) → n < 2 ^ 32 → big_number 4 (big_bytes 4 n ++ rest) ≡ n
number_again n rest small = big_from-bytes 4 n rest ∙ omega arith

pub charging_id_again : (n : ℕ) → n < 2 ^ 32 → Spells (number_of forms.ChargingId) (encoding_of (OfChargingId n)) (OfChargingId n)
unfolding encoding_of Says
charging_id_again n small = record { long_enough = omega arith; says = ap OfChargingId (sym (number_again n [] small)) }

pub rat_again : (n : ℕ) → Spells (number_of forms.Rat) (encoding_of (OfRat n)) (OfRat n)
unfolding encoding_of Says
rat_again n = record { long_enough = omega arith; says = refl }

pub pti_again : (n : ℕ) → Spells (number_of forms.Pti) (encoding_of (OfPti n)) (OfPti n)
unfolding encoding_of Says
pti_again n = record { long_enough = omega arith; says = refl }

pub pdn_type_again : (n : ℕ) → n < 8 → Spells (number_of forms.PdnType) (encoding_of (OfPdnType n)) (OfPdnType n)
unfolding encoding_of Says
pdn_type_again n small = record { long_enough = omega arith; says = ap OfPdnType (omega arith) }

pub selection_again : (n : ℕ) → n < 4 → Spells (number_of forms.Selection) (encoding_of (OfSelection n)) (OfSelection n)
unfolding encoding_of Says
selection_again n small = record { long_enough = omega arith; says = ap OfSelection (omega arith) }

-- ---- causes

abbrev cause_flags : Bool → Bool → Bool → ℕ
cause_flags p b s = 4 * bit p + 2 * bit b + bit s

record AreFlags (p b s : Bool) : Type 0 where
  pub pce : is_set 3 (cause_flags p b s) ≡ p
  pub bce : is_set 2 (cause_flags p b s) ≡ b
  pub cs : is_set 1 (cause_flags p b s) ≡ s

flags_are : (p b s : Bool) → AreFlags p b s
flags_are true true true = record { pce = refl; bce = refl; cs = refl }
flags_are true true false = record { pce = refl; bce = refl; cs = refl }
flags_are true false true = record { pce = refl; bce = refl; cs = refl }
flags_are true false false = record { pce = refl; bce = refl; cs = refl }
flags_are false true true = record { pce = refl; bce = refl; cs = refl }
flags_are false true false = record { pce = refl; bce = refl; cs = refl }
flags_are false false true = record { pce = refl; bce = refl; cs = refl }
flags_are false false false = record { pce = refl; bce = refl; cs = refl }

pub same_cause : {m n : ℕ} {p q b c s t : Bool} {o u : Option Offending} → m ≡ n → p ≡ q → b ≡ c → s ≡ t → o ≡ u → cause_with m p b s o ≡ cause_with n q c t u
same_cause e f g h i = cc

-- an element at fault has its instance in half an octet
abbrev pub IsSmall : Option Offending → Type 0
IsSmall None = Unit {0}
IsSmall (Some o) = o.instance < 16

cause_parts : (v : ℕ) (o : Option Offending) (p b s : Bool) → IsSmall o → Spells (number_of forms.Cause) (encoding_of (OfCause (cause_with v p b s o))) (OfCause (cause_with v p b s o))
unfolding encoding_of Says
cause_parts v None p b s small =
    let f = flags_are p b s in
    record { long_enough = omega arith; says = ap OfCause (same_cause refl (sym f.pce) (sym f.bce) (sym f.cs) refl) }
cause_parts v (Some o) p b s small =
    let f = flags_are p b s in
    let same : o.instance ≡ bits 4 1 o.instance = omega arith in
    record { long_enough = omega arith; says = ap OfCause (same_cause refl (sym f.pce) (sym f.bce) (sym f.cs) (ap (λ (i : ℕ). Some (offending_with o.kind i)) same)) }

pub cause_again : (c : Cause) → IsSmall c.offending → Spells (number_of forms.Cause) (encoding_of (OfCause c)) (OfCause c)
cause_again c small = cause_parts c.value c.offending c.pce c.bce c.cs small

-- ---- rates

pub ambr_again : (a : Ambr) → a.up < 2 ^ 32 → a.down < 2 ^ 32 → Spells (number_of forms.Ambr) (encoding_of (OfAmbr a)) (OfAmbr a)
unfolding encoding_of Says
ambr_again a up down =
    let first : a.up ≡ big_number 4 (big_bytes 4 a.up ++ big_bytes 4 a.down) = sym (number_again a.up (big_bytes 4 a.down) up) in
    let second : a.down ≡ big_number 4 (big_bytes 4 a.down) = sym (number_again a.down [] down) in
    record { long_enough = omega arith; says = ap OfAmbr (ap (λ (n : ℕ). ambr_with n a.down) first ∙ ap (ambr_with (big_number 4 (big_bytes 4 a.up ++ big_bytes 4 a.down))) second) }

rate_again : (n : ℕ) (rest : List ℕ) → n < 2 ^ 40 → big_number 5 (big_bytes 5 n ++ rest) ≡ n
rate_again n rest small = big_from-bytes 5 n rest ∙ omega arith

rates_again : (r : Rates) (rest : List ℕ) → AreRates r → r ≡ rates_with (big_number 5 (rates_encoding r ++ rest)) (big_number 5 (big_bytes 5 r.down ++ rest))
rates_again r rest are =
    let up : r.up ≡ big_number 5 (rates_encoding r ++ rest) = sym (rate_again r.up (big_bytes 5 r.down ++ rest) are.up) in
    let down : r.down ≡ big_number 5 (big_bytes 5 r.down ++ rest) = sym (rate_again r.down rest are.down) in
    ap (λ (n : ℕ). rates_with n r.down) up ∙ ap (rates_with (big_number 5 (rates_encoding r ++ rest))) down

abbrev qos_flags : Bool → ℕ → Bool → ℕ
qos_flags c pl v = 64 * bit c + 4 * pl + bit v

record AreQosFlags (c : Bool) (pl : ℕ) (v : Bool) : Type 0 where
  pub pci : is_set 7 (qos_flags c pl v) ≡ c
  pub level : bits 6 3 (qos_flags c pl v) ≡ pl
  pub pvi : is_set 1 (qos_flags c pl v) ≡ v

is_one : (n : ℕ) → n ≡ 1 → (n == 1) ≡ true
is_one n e = rw e refl

is_zero : (n : ℕ) → n ≡ 0 → (n == 1) ≡ false
is_zero n e = rw e refl

qos_flags_are : (c : Bool) (pl : ℕ) (v : Bool) → pl < 16 → AreQosFlags c pl v
qos_flags_are true pl true small = record { pci = is_one _ (omega arith); level = omega arith; pvi = is_one _ (omega arith) }
qos_flags_are true pl false small = record { pci = is_one _ (omega arith); level = omega arith; pvi = is_zero _ (omega arith) }
qos_flags_are false pl true small = record { pci = is_zero _ (omega arith); level = omega arith; pvi = is_one _ (omega arith) }
qos_flags_are false pl false small = record { pci = is_zero _ (omega arith); level = omega arith; pvi = is_zero _ (omega arith) }

abbrev qos_with : ℕ → Bool → ℕ → Bool → Rates → Rates → Qos
qos_with qci c pl v m g = record { pci = c; pl = pl; pvi = v; qci = qci; mbr = m; gbr = g }

pub qos_again : (q : Qos) → q.pl < 16 → AreRates q.mbr → AreRates q.gbr → Spells (number_of forms.Qos) (encoding_of (OfQos q)) (OfQos q)
unfolding encoding_of Says
qos_again q small m g =
    let f = qos_flags_are q.pci q.pl q.pvi small in
    let flags : ℕ = qos_flags q.pci q.pl q.pvi in
    record {
      long_enough = omega arith;
      says =
          ap OfQos (ap (λ (c : Bool). qos_with q.qci c q.pl q.pvi q.mbr q.gbr) (sym f.pci) ∙
          (ap (λ (n : ℕ). qos_with q.qci (is_set 7 flags) n q.pvi q.mbr q.gbr) (sym f.level) ∙
          (ap (λ (v : Bool). qos_with q.qci (is_set 7 flags) (bits 6 3 flags) v q.mbr q.gbr) (sym f.pvi)
          ∙ (ap (λ (r : Rates). qos_with q.qci (is_set 7 flags) (bits 6 3 flags) (is_set 1 flags) r q.gbr) (rates_again q.mbr (rates_encoding q.gbr) m)
          ∙ ap (λ (r : Rates). qos_with q.qci (is_set 7 flags) (bits 6 3 flags) (is_set 1 flags)
          (rates_with (big_number 5 (rates_encoding q.mbr ++ rates_encoding q.gbr)) (big_number 5 (big_bytes 5 q.mbr.down ++ rates_encoding q.gbr)))
          r) (rates_again q.gbr [] g)))));
    }
