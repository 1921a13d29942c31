-- One step of packing digits.
use Rattle.std.proofs.Common.{◌≡◌, ℕ, ◌+◌, ◌-◌, ◌*◌, ◌<◌, ◌≤◌, List, [], ◌∷◌, ◌++◌, length, take, drop, get_or, refl, sym, ap, ◌∙◌, arith, append_assoc, length-append}
use Rattle.std.specs.Prelude.{All}
use Rattle.std.proofs.lemmas.List.{append-nil, take_at}
use Rattle.std.proofs.lemmas.List.Elements.{All-tail}
use Rattle.gtp_ie.specs.Digits.{packed}

take_rest : (a b : ℕ) (rest : List ℕ) → take (length (a ∷ b ∷ rest) - 2) rest ≡ rest
take_rest a b rest = let n : length (a ∷ b ∷ rest) - 2 ≡ length rest = omega arith in rw n (ap (take (length rest)) (sym (append-nil rest)) ∙ take_at rest [] (length rest) refl)

-- what holds after two more digits
pub record IsStep (octets after : List ℕ) (left rest total : List ℕ) : Type 0 where
  pub text : after ++ packed rest ≡ total
  pub room : 2 * length after + length rest ≤ 15
  pub decimal : All (λ digit. digit < 10) rest

pub pack_step : (octets after left total : List ℕ) → 2 ≤ length left → octets ++ packed left ≡ total → 2 * length octets + length left ≤ 15 → All (λ digit. digit < 10) left
    → after ≡ octets ++ (16 * get_or left 1 0 + get_or left 0 0) ∷ [] → IsStep octets after left (take (length left - 2) (drop 2 left)) total
pack_step octets after [] total l text room decimal h = absurd (omega arith)
pack_step octets after (a ∷ []) total l text room decimal h = absurd (omega arith)
pack_step octets after (a ∷ b ∷ rest) total l text room decimal h =
    let all = All-tail (λ digit. digit < 10) b rest (All-tail (λ digit. digit < 10) a (b ∷ rest) decimal) in
    let now : after ++ packed rest ≡ total = rw h (append_assoc octets ((16 * b + a) ∷ []) (packed rest) ∙ text) in
    let fits : 2 * length after + length rest ≤ 15 = rw h (omega (arith, length-append octets ((16 * b + a) ∷ []))) in
    rw (take_rest a b rest) (record { text = now; room = fits; decimal = all })
