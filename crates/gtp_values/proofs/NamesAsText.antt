-- Access point names and their texts: one is found from the other.
use Rattle.std.proofs.Common.{◌≡◌, ℕ, zero, suc, ◌+◌, ◌-◌, ◌<◌, ◌≤◌, drop, get_or, append_assoc, subst, Bool, true, false, not, ◌==◌, cond, Some}
use Rattle.std.proofs.Common.{None, List, [], ◌∷◌, ◌++◌, length, refl, sym, ap, ◌∙◌, arith}
use Rattle.std.proofs.lemmas.Bool.Decides.{nat_tests}
use Rattle.std.proofs.lemmas.List.{at_drop_more, at_drop_all, append-nil}
use Rattle.std.specs.Option.{unwrap_or}
use lib.Dec.{ltb}
use Rattle.gtp_values.specs.Apn.{is_label_octet, are_labels_from, IsApn, IsApnText, HasApnTextLength, HasApnLength, joined_from, joined, after_dots}
use Rattle.gtp_values.specs.Apn.{labels_text, apn_text, label_length, lengths_for_dots, octets_of_text}
use Rattle.gtp_values.proofs.Labels.{labels_are}
use Rattle.gtp_values.proofs.Tests.{Both, both}

-- one more character at the start
by_dot : (octet : ℕ) (octets : List ℕ) (b : Bool) → (octet == 46) ≡ b → joined_from (label_length octets) (lengths_for_dots octets) ≡ octets
    → joined_from (cond (not b) (1 + label_length octets) 0) (cond b (label_length octets) octet ∷ lengths_for_dots octets) ≡ octet ∷ octets
unfolding joined_from
by_dot octet octets true h e = let dot : octet ≡ 46 = grind (arith, nat_tests) in rw dot (ap (λ (xs : List ℕ). 46 ∷ xs) e)
by_dot octet octets false h e = in_label octet octets (label_length octets) e where
  in_label : (octet : ℕ) (octets : List ℕ) (n : ℕ) → joined_from n (lengths_for_dots octets) ≡ octets → joined_from (1 + n) (octet ∷ lengths_for_dots octets) ≡ octet ∷ octets
  in_label octet octets n e = let more : 1 + n ≡ suc n = omega arith in rw more (ap (λ (xs : List ℕ). octet ∷ xs) e)

-- the octets of a text have that text
pub text_of_octets : (text : List ℕ) → joined_from (label_length text) (lengths_for_dots text) ≡ text
unfolding joined_from
text_of_octets [] = refl
text_of_octets (octet ∷ octets) = by_dot octet octets (octet == 46) refl (text_of_octets octets)

-- the text of octets of labels has those octets
pub record Comes_back (left : ℕ) (octets : List ℕ) : Type 0 where
  pub count : label_length (joined_from left octets) ≡ left
  pub rest : lengths_for_dots (joined_from left octets) ≡ octets

pub octets_of_joined : (left : ℕ) (octets : List ℕ) → are_labels_from left octets ≡ true → Comes_back left octets
unfolding joined_from are_labels_from
octets_of_joined zero [] h = record { count = refl; rest = refl }
octets_of_joined (suc left) [] h = absurd cc
octets_of_joined zero (octet ∷ octets) h =
    let b = both _ (are_labels_from octet octets) h in
    let back = octets_of_joined octet octets b.right in
    record { count = refl; rest = rw (back.count, back.rest) refl }
octets_of_joined (suc left) (octet ∷ octets) h =
    let b = both (is_label_octet octet) (are_labels_from left octets) h in
    let back = octets_of_joined left octets b.right in
    let other : (octet == 46) ≡ false = grind (arith, nat_tests, b.left) in
    record { count = rw (other, back.count) (omega arith); rest = rw (other, back.rest) refl }

-- the first label of some
in_first : (octet : ℕ) (octets : List ℕ) → are_labels_from 0 (octet ∷ octets) ≡ true → are_labels_from octet octets ≡ true
unfolding are_labels_from
in_first octet octets h = (both _ _ h).right

-- something follows the length of a label
labels_go_on : (octet : ℕ) (octets : List ℕ) → are_labels_from 0 (octet ∷ octets) ≡ true → 0 < length octets
unfolding are_labels_from
labels_go_on zero [] h = absurd cc
labels_go_on (suc octet) [] h = absurd (ends octet (both _ _ h).right) where
  ends : (n : ℕ) → are_labels_from (suc n) [] ≡ true → ⊥
  ends n e = cc e
labels_go_on octet (x ∷ octets) h = omega arith

length_joined : (left : ℕ) (octets : List ℕ) → length (joined_from left octets) ≡ length octets
unfolding joined_from
length_joined left [] = refl
length_joined zero (octet ∷ octets) = ap suc (length_joined octet octets)
length_joined (suc left) (octet ∷ octets) = ap suc (length_joined left octets)

-- the text of a name has 1 to 99 characters
pub text_has_length : (text : List ℕ) → IsApnText text → HasApnTextLength text
text_has_length text (apn, is, says) = by_octets apn text is says where
  by_octets : (apn text : List ℕ) → IsApn apn → apn_text apn ≡ text → HasApnTextLength text
  by_octets [] text is says = absurd (let least = is.least in omega arith)
  by_octets (octet ∷ octets) text is says =
      let count : length text ≡ length octets = ap length (sym says) ∙ length_joined octet octets in
      let least : 0 < length octets = labels_go_on octet octets (labels_are (octet ∷ octets) is.labels) in
      let most : length (octet ∷ octets) ≤ 100 = is.most in
      record { least = omega arith; most = omega arith }

-- the octets of a name are those of its text
pub again : (apn : List ℕ) → IsApn apn → octets_of_text (apn_text apn) ≡ apn
again [] is = absurd (let least = is.least in omega arith)
again (octet ∷ octets) is =
    let b = octets_of_joined octet octets (in_first octet octets (labels_are (octet ∷ octets) is.labels)) in
    ap (λ (n : ℕ). n ∷ lengths_for_dots (joined_from octet octets)) b.count ∙ ap (λ (xs : List ℕ). octet ∷ xs) b.rest

-- no two names have the same text
pub one_name : (apn other : List ℕ) → IsApn apn → IsApn other → apn_text apn ≡ apn_text other → apn ≡ other
one_name apn other is is_other same = sym (again apn is) ∙ (ap octets_of_text same ∙ again other is_other)

-- the text of labels is labels joined by dots
pub text_of_labels : (labels : List (List ℕ)) → apn_text (labels_text labels) ≡ joined labels
unfolding joined_from
text_of_labels [] = refl
text_of_labels (label ∷ labels) = in_label label labels where
  in_label : (part : List ℕ) (labels : List (List ℕ)) → joined_from (length part) (part ++ labels_text labels) ≡ part ++ after_dots labels
  in_label [] [] = refl
  in_label [] (label ∷ labels) = ap (λ (xs : List ℕ). 46 ∷ xs) (in_label label labels)
  in_label (octet ∷ part) labels = ap (λ (xs : List ℕ). octet ∷ xs) (in_label part labels)

-- the name that a text says
pub name_of_text : (text : List ℕ) → IsApnText text → IsApn (octets_of_text text)
name_of_text text (apn, is, says) = subst IsApn (sym (again apn is) ∙ ap octets_of_text says) is

-- the text of the octets that a text stands for
pub same_text : (text apn : List ℕ) → apn ≡ octets_of_text text → apn_text apn ≡ text
same_text text apn e = ap apn_text e ∙ text_of_octets text

-- a text is that of a name where the octets that it stands for are one
pub says_its_name : (text : List ℕ) → IsApn (octets_of_text text) → IsApnText text
says_its_name text is = (octets_of_text text, is, text_of_octets text)

length_lengths : (text : List ℕ) → length (lengths_for_dots text) ≡ length text
length_lengths [] = refl
length_lengths (octet ∷ octets) = ap suc (length_lengths octets)

-- what a text of 1 to 99 characters stands for is a name, but for its labels
pub length_of_name : (text : List ℕ) → HasApnTextLength text → HasApnLength (octets_of_text text)
length_of_name text has =
    let count = length_lengths text in
    let most : length text ≤ 99 = has.most in
    record { least = omega (arith, count); most = omega (arith, count) }

-- what follows the first length of a name
pub labels_after_first : (apn : List ℕ) → IsApn apn → are_labels_from (get_or apn 0 0) (drop 1 apn) ≡ true
labels_after_first [] is = absurd (let least = is.least in omega arith)
labels_after_first (octet ∷ octets) is = in_first octet octets (labels_are (octet ∷ octets) is.labels)

-- ---- one step of the loop that writes

pub joined_end : (left : ℕ) (octets now total : List ℕ) (i : ℕ) → length octets ≤ i → now ++ joined_from left (drop i octets) ≡ total → now ≡ total
unfolding joined_from
joined_end left octets now total i le h =
    let none : joined_from left (drop i octets) ≡ [] = at_drop_all (λ xs. joined_from left xs) octets i le ∙ at_none left in
    sym (append-nil now) ∙ (ap (λ (xs : List ℕ). now ++ xs) (sym none) ∙ h)
  where
    at_none : (n : ℕ) → joined_from n [] ≡ []
    at_none n = refl

pub joined_dot : (octets now after total : List ℕ) (i : ℕ) → i < length octets → after ≡ now ++ 46 ∷ [] → now ++ joined_from 0 (drop i octets) ≡ total
    → after ++ joined_from (get_or octets i 0) (drop (i + 1) octets) ≡ total
unfolding joined_from
joined_dot octets now after total i lt e h =
    rw e (append_assoc now (46 ∷ []) (joined_from (get_or octets i 0) (drop (i + 1) octets)) ∙ (ap (λ (xs : List ℕ). now ++ xs) (sym (at_drop_more (λ xs. joined_from 0 xs) octets i 0 lt)) ∙ h))

pub joined_octet : (left : ℕ) (octets now after total : List ℕ) (i : ℕ) → i < length octets → 0 < left → after ≡ now ++ get_or octets i 0 ∷ []
    → now ++ joined_from left (drop i octets) ≡ total → after ++ joined_from (left - 1) (drop (i + 1) octets) ≡ total
unfolding joined_from
joined_octet zero octets now after total i lt some e h = absurd (omega arith)
joined_octet (suc left) octets now after total i lt some e h =
    let less : suc left - 1 ≡ left = omega arith in
    rw (e, less) (append_assoc now (get_or octets i 0 ∷ []) (joined_from left (drop (i + 1) octets))
    ∙ (ap (λ (xs : List ℕ). now ++ xs) (sym (at_drop_more (λ xs. joined_from (suc left) xs) octets i 0 lt)) ∙ h))

-- labels that are still to come, after the length of one
pub after_length : (octets : List ℕ) (i : ℕ) → i < length octets → are_labels_from 0 (drop i octets) ≡ true → are_labels_from (get_or octets i 0) (drop (i + 1) octets) ≡ true
unfolding are_labels_from
after_length octets i lt h = (both _ _ (sym (at_drop_more (λ xs. are_labels_from 0 xs) octets i 0 lt) ∙ h)).right

-- the same after an octet of one
pub after_octet : (left : ℕ) (octets : List ℕ) (i : ℕ) → i < length octets → 0 < left → are_labels_from left (drop i octets) ≡ true
    → Both (is_label_octet (get_or octets i 0)) (are_labels_from (left - 1) (drop (i + 1) octets))
unfolding are_labels_from
after_octet zero octets i lt some h = absurd (omega arith)
after_octet (suc left) octets i lt some h =
    let less : suc left - 1 ≡ left = omega arith in
    rw less (both _ _ (sym (at_drop_more (λ xs. are_labels_from (suc left) xs) octets i 0 lt) ∙ h))

-- ---- one step of the loop that reads

pub found_or_end : (p n : ℕ) → p ≤ n → unwrap_or (cond (ltb p n) (Some p) None) n ≡ p
found_or_end p n le = by_test (ltb p n) refl where
  by_test : (b : Bool) → ltb p n ≡ b → unwrap_or (cond b (Some p) None) n ≡ p
  by_test true h = refl
  by_test false h = grind (arith, nat_tests)
