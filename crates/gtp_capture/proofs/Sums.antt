-- Sums in one's complement, of octets in parts.
use Rattle.std.proofs.Common.{◌≡◌, ℕ, zero, suc, ◌+◌, ◌*◌, ◌≤◌, List, [], ◌∷◌, ◌++◌, length, drop, refl, sym, ap, ◌∙◌, arith, length-drop, append_assoc}
use Rattle.std.proofs.lemmas.List.{drop-drop, drop_all}
use Rattle.std.specs.Int.{w16, from_be_bytes}
use Rattle.gtp_capture.specs.Writing.{ones_plus, ones_sum}
use Rattle.gtp_capture.specs.reading.Writing.{first_number, ones_onto}

pub sum_is : (octets : List ℕ) → ones_sum octets ≡ ones_onto octets 0
sum_is (a ∷ b ∷ octets) = ap (ones_plus (from_be_bytes w16 (a ∷ b ∷ []))) (sum_is octets)
sum_is (a ∷ []) = refl
sum_is [] = refl

-- an even number of octets before others
sum_behind : (n : ℕ) (front octets : List ℕ) (further : ℕ) → length front ≡ 2 * n → ones_onto (front ++ octets) further ≡ ones_onto front (ones_onto octets further)
sum_behind n [] octets further e = refl
sum_behind zero (a ∷ front) octets further e = absurd (omega (arith, e))
sum_behind (suc n) (a ∷ []) octets further e = absurd (omega (arith, e))
sum_behind (suc n) (a ∷ b ∷ front) octets further e = ap (ones_plus (from_be_bytes w16 (a ∷ b ∷ []))) (sum_behind n front octets further (omega (arith, e)))

-- of three parts, from the last one on
pub three_sums : (n m : ℕ) (a b c : List ℕ) (x y z : ℕ) → length a ≡ 2 * n → length b ≡ 2 * m → x ≡ ones_onto c 0 → y ≡ ones_onto b x → z ≡ ones_onto a y → ones_sum (a ++ (b ++ c)) ≡ z
three_sums n m a b c x y z ea eb ex ey ez =
    sum_is (a ++ (b ++ c)) ∙ sum_behind n a (b ++ c) 0 ea ∙ ap (ones_onto a) (sum_behind m b c 0 eb ∙ ap (ones_onto b) (sym ex) ∙ sym ey) ∙ sym ez

-- of five
pub five_sums : (n m : ℕ) (a b c d e : List ℕ) (v w x y z : ℕ) → length a ≡ 2 * n → length b ≡ 2 * n → length c ≡ 2 * m → length d ≡ 2 * m
    → v ≡ ones_onto e 0 → w ≡ ones_onto d v → x ≡ ones_onto c w → y ≡ ones_onto b x → z ≡ ones_onto a y → ones_sum (((a ++ b) ++ c) ++ (d ++ e)) ≡ z
five_sums n m a b c d e v w x y z ea eb ec ed ev ew ex ey ez =
    let behind : ones_sum (c ++ (d ++ e)) ≡ x = three_sums m m c d e v w x ec ed ev ew ex in
    ap ones_sum (append_assoc (a ++ b) c (d ++ e) ∙ append_assoc a b (c ++ (d ++ e))) ∙ sum_is (a ++ (b ++ (c ++ (d ++ e)))) ∙ sum_behind n a (b ++ (c ++ (d ++ e))) 0 ea
    ∙ ap (ones_onto a) (sum_behind n b (c ++ (d ++ e)) 0 eb ∙ ap (ones_onto b) (sym (sum_is (c ++ (d ++ e))) ∙ behind) ∙ sym ey) ∙ sym ez

first_then : (octets : List ℕ) (further : ℕ) → 1 ≤ length octets → ones_onto octets further ≡ ones_plus (first_number octets) (ones_onto (drop 2 octets) further)
first_then (a ∷ b ∷ octets) further some = refl
first_then (a ∷ []) further some = refl
first_then [] further some = absurd (omega (arith, some))

-- no number is left
pub sum_of_none : (octets : List ℕ) (at further : ℕ) → length octets ≤ at → further ≡ ones_onto (drop at octets) further
sum_of_none octets at further none = sym (ap (λ l. ones_onto l further) (drop_all at octets none))

-- one number more, before those that are counted
pub sum_of_more : (octets : List ℕ) (further at left sum : ℕ) → left ≡ suc at → 2 * left ≤ length octets + 1 → sum ≡ ones_onto (drop (2 * left) octets) further
    → ones_plus (first_number (drop (2 * at) octets)) sum ≡ ones_onto (drop (2 * at) octets) further
sum_of_more octets further at left sum e within is =
    let some : 1 ≤ length (drop (2 * at) octets) = omega (arith, e, within, length-drop (2 * at) octets) in
    let place : 2 * at + 2 ≡ 2 * left = omega (arith, e) in
    ap (ones_plus (first_number (drop (2 * at) octets))) (is ∙ ap (λ n. ones_onto (drop n octets) further) (sym place) ∙ ap (λ l. ones_onto l further) (sym (drop-drop 2 (2 * at) octets)))
    ∙ sym (first_then (drop (2 * at) octets) further some)
