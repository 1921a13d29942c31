-- Labels, one octet further.
use Rattle.std.proofs.Common.{◌≡◌, ℕ, zero, suc, ◌-◌, ◌<◌, false, cond, List, ◌∷◌, refl, ap, arith}
use Rattle.gtp_forms.specs.Text.{is_printable, are_labels, label_text}

-- a length
pub size_next : (left size : ℕ) (octets : List ℕ) → left ≡ 0 → are_labels left (size ∷ octets) ≡ are_labels 0 (size ∷ octets)
size_next zero size octets e = refl
size_next (suc left) size octets e = absurd (omega arith)

-- a character
pub character_next : (left octet : ℕ) (octets : List ℕ) → 0 < left → are_labels left (octet ∷ octets) ≡ cond (is_printable octet) (are_labels (left - 1) octets) false
character_next zero octet octets l = absurd (omega arith)
character_next (suc left) octet octets l =
    let e : left ≡ suc left - 1 = omega arith in
    ap (λ n. cond (is_printable octet) (are_labels n octets) false) e

pub dot_next : (left size : ℕ) (octets : List ℕ) → left ≡ 0 → label_text left (size ∷ octets) ≡ 46 ∷ label_text size octets
dot_next zero size octets e = refl
dot_next (suc left) size octets e = absurd (omega arith)

pub letter_next : (left octet : ℕ) (octets : List ℕ) → 0 < left → label_text left (octet ∷ octets) ≡ octet ∷ label_text (left - 1) octets
letter_next zero octet octets l = absurd (omega arith)
letter_next (suc left) octet octets l =
    let e : left ≡ suc left - 1 = omega arith in
    ap (λ n. octet ∷ label_text n octets) e

pub ruleset labels = (size_next, character_next)

pub ruleset texts = (dot_next, letter_next)
