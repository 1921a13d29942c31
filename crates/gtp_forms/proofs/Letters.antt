-- Characters of ASCII, as they are pushed.
use Rattle.std.proofs.Common.{◌≡◌, ℕ, Bool, true, false, cond, List, ◌∷◌, refl}
use Rattle.std.proofs.lemmas.Str.{encode_ascii}
use Rattle.gtp_forms.specs.Text.{is_printable, are_printable}

first : (b c : Bool) → cond b c false ≡ true → b ≡ true
first true c h = refl
first false c h = h

-- what stands first among printable characters is one
pub first_printable : (octet : ℕ) (octets : List ℕ) → are_printable (octet ∷ octets) ≡ true → is_printable octet ≡ true
first_printable octet octets h = first (is_printable octet) (are_printable octets) h

pub ruleset letters = (encode_ascii)

pub ruleset texts = (first_printable)
