-- What is written of a name or a template spells it.
use Rattle.std.proofs.Common.{ℕ, ◌*◌, ◌≤◌, List, [], ◌∷◌, length, refl, arith}
use Rattle.gtp_values.specs.Apn.{IsApn}
use Rattle.gtp_values.specs.Imsi.{IsImsi}
use Rattle.gtp_ie.specs.Digits.{packed}
use Rattle.gtp_ie.specs.Value.{OfImsi, OfApn, OfTft, encoding_of}
use Rattle.gtp_ie.specs.Spelling.{Spells, Says}
use Rattle.gtp_ie.specs.Form.{number_of}
use Rattle.gtp_ie.specs.declared.form.Form.TheVariants as forms

-- two digits an octet, and one more where their count is odd
pub length-packed : (digits : List ℕ) → length digits ≤ 2 * length (packed digits)
length-packed [] = omega arith
length-packed (a ∷ []) = omega arith
length-packed (a ∷ b ∷ digits) = let more = length-packed digits in omega (arith, more)

pub imsi_again : (digits : List ℕ) → IsImsi digits → Spells (number_of forms.Imsi) (encoding_of (OfImsi digits)) (OfImsi digits)
unfolding encoding_of Says
imsi_again digits is = let long = length-packed digits in record { long_enough = omega (arith, is.least, long); says = (digits, is, refl, refl) }

pub apn_again : (octets : List ℕ) → IsApn octets → Spells (number_of forms.Apn) (encoding_of (OfApn octets)) (OfApn octets)
unfolding encoding_of Says
apn_again octets is = record { long_enough = is.least; says = (is, refl) }

pub tft_again : (octets : List ℕ) → length octets ≤ 255 → Spells (number_of forms.Tft) (encoding_of (OfTft octets)) (OfTft octets)
unfolding encoding_of Says
tft_again octets few = record { long_enough = omega arith; says = (few, refl) }
