-- What is read of names.
use Rattle.std.proofs.Common.{◌≡◌, ℕ, ◌+◌, ◌*◌, ◌<◌, ◌≤◌, List, [], ◌∷◌, length, Result, Ok, Err, refl, sym, ap, subst, ◌∙◌, arith}
use Rattle.gtp_values.specs.Apn.{IsApn}
use Rattle.gtp_values.specs.Imsi.{IsImsi}
use Rattle.gtp_ie.specs.declared.fault.ReadFault.{ReadFault}
use Rattle.gtp_ie.specs.declared.fault.ReadFault.TheVariants.{Bad}
use Rattle.gtp_ie.specs.Digits.{packed, digits_in}
use Rattle.gtp_ie.specs.Value.{Value, OfApn, value_at}
use Rattle.std.specs.Prelude.{IsOk}
use Rattle.gtp_ie.specs.Spelling.{Says}
use Rattle.gtp_ie.proofs.Spelled.{value_decided, packed_again, digits_again}
use Rattle.gtp_ie.specs.Form.{number_of}
use Rattle.gtp_ie.specs.declared.form.Form.TheVariants as forms

pub apn_read : (body : List ℕ) → 1 ≤ length body → IsApn body → value_at (number_of forms.Apn) body ≡ Ok (OfApn body)
unfolding Says
apn_read body long is = (value_decided (number_of forms.Apn) body).is (OfApn body) (record { long_enough = long; says = (is, refl) })

pub apn_unread : (body : List ℕ) → 1 ≤ length body → (IsApn body → ⊥) → value_at (number_of forms.Apn) body ≡ Err Bad
unfolding Says
apn_unread body long none = (value_decided (number_of forms.Apn) body).fails Bad (record { long_enough = long; silent = λ v s. none s.0 })

pub apn_checked : (body : List ℕ) → IsOk (value_at (number_of forms.Apn) body) → IsApn body
unfolding Says
apn_checked body ok = by_outcome (value_at (number_of forms.Apn) body) refl ok where
  by_outcome : (outcome : Result Value ReadFault) → value_at (number_of forms.Apn) body ≡ outcome → IsOk outcome → IsApn body
  by_outcome (Ok v) same ok = ((value_decided (number_of forms.Apn) body).ok v same).says.0
  by_outcome (Err f) same ok = absurd cc

pub imsi_unread : (body : List ℕ) → 3 ≤ length body → (IsImsi (digits_in body) → ⊥) → value_at (number_of forms.Imsi) body ≡ Err Bad
unfolding Says
imsi_unread body long none =
    (value_decided (number_of forms.Imsi) body).fails Bad (record
    { long_enough = long; silent = λ v (digits, is, text, e). none (subst IsImsi (sym (ap digits_in text ∙ digits_again digits is.decimal)) is) })

-- at least one digit less than the halves of the octets
few_packed : (digits : List ℕ) → 2 * length (packed digits) ≤ length digits + 1
few_packed [] = omega arith
few_packed (a ∷ []) = omega arith
few_packed (a ∷ b ∷ digits) = let more = few_packed digits in omega (arith, more)

pub imsi_long : (body : List ℕ) → 8 < length body → value_at (number_of forms.Imsi) body ≡ Err Bad
imsi_long body long =
    let few = few_packed (digits_in body) in
    let same = ap length (packed_again body) in
    imsi_unread body (omega arith) (λ is. omega (arith, few, same, is.most))
