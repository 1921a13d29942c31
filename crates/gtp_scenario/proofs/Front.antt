-- JSON in octets, and what its first octets show.
use Rattle.std.proofs.Common.{◌≡◌, ℕ, ◌≤◌, ◌<◌, List, Bool, true, false, length, take, cond, ◌&&◌, Option, None, IsUtf8, refl, sym, ap, ◌∙◌, ⊎_elim, arith}
use Rattle.std.specs.Prelude.{nat_le}
use Rattle.std.specs.Str.{is_utf8}
use Rattle.std.proofs.lemmas.Str.{IsUtf8-from_is_utf8, is_utf8-from_IsUtf8}
use Rattle.std.proofs.lemmas.Bool.{le-leb, lt-leb, cases_lt}
use Rattle.std.proofs.lemmas.List.{take_all, length-take-le}
use Rattle.serde_json.specs.Data.{Data}
use Rattle.serde_json.specs.Read.{read}
use Rattle.gtp_scenario.specs.Scenarios.{json_of, most_octets}

pub json_is : (octets : List ℕ) → length octets ≤ most_octets → IsUtf8 octets → json_of octets ≡ read octets
unfolding json_of
json_is octets small text = ap (λ b. cond (b && is_utf8 octets) (read octets) None) (le-leb _ _ small) ∙ ap (λ b. cond b (read octets) None) (is_utf8-from_IsUtf8 octets text)

not_chosen : (a b : Bool) (x : Option Data) → (b ≡ true → ⊥) → cond (a && b) x None ≡ None
not_chosen true true x h = absurd (h refl)
not_chosen true false x h = refl
not_chosen false b x h = refl

pub json_is_none : (octets : List ℕ) → (IsUtf8 octets → ⊥) → json_of octets ≡ None
unfolding json_of
json_is_none octets none = not_chosen (nat_le (length octets) most_octets) (is_utf8 octets) (read octets) (λ is. none (IsUtf8-from_is_utf8 octets is))

-- octets past the limit are no JSON, whatever comes after
json_past : (octets : List ℕ) → most_octets < length octets → json_of octets ≡ None
unfolding json_of
json_past octets long = ap (λ b. cond (b && is_utf8 octets) (read octets) None) (lt-leb _ _ long)

-- one octet past the limit shows as much as all
pub json_of_front : (n : ℕ) (octets : List ℕ) → most_octets < n → json_of (take n octets) ≡ json_of octets
json_of_front n octets more = ⊎_elim
    (λ long. json_past (take n octets) (rw (length-take-le n octets (omega arith)) more) ∙ sym (json_past octets (omega arith)))
    (λ small. ap json_of (take_all n octets small))
    (cases_lt n (length octets))
