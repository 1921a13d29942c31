-- Reading octets one by one finds labels exactly where they are labels.
use Rattle.std.proofs.Common.{◌≡◌, ℕ, zero, suc, ◌+◌, ◌-◌, get_or, drop, ◌<◌, true, List, [], ◌∷◌, ◌++◌, length, refl, sym, ap, ◌∙◌, arith}
use Rattle.std.specs.Prelude.{IsTrue}
use Rattle.std.specs.List.{AllByRecursion}
use Rattle.std.proofs.lemmas.Bool.Decides.{nat_tests}
use Rattle.std.proofs.lemmas.List.{at_drop_more, nil_from_length}
use Rattle.gtp_values.proofs.Tests.{both}
use Rattle.gtp_values.specs.Apn.{is_label_octet, is_label_length, IsLabel, labels_text, AreLabels, are_labels_from}

-- the rest of a label, and then labels
pub record Continues (left : ℕ) (octets : List ℕ) : Type 0 where
  pub part : List ℕ
  pub labels : List (List ℕ)
  pub count : length part ≡ left
  pub good : AllByRecursion (λ octet. IsTrue (is_label_octet octet)) part
  pub each : AllByRecursion IsLabel labels
  pub text : octets ≡ part ++ labels_text labels

label_here : (part : List ℕ) (octet : ℕ) → length part ≡ octet → is_label_length octet ≡ true → AllByRecursion (λ octet. IsTrue (is_label_octet octet)) part → IsLabel part
label_here part octet count long good = record { least = grind (arith, nat_tests); most = grind (arith, nat_tests); octets = good }

pub continues : (left : ℕ) (octets : List ℕ) → are_labels_from left octets ≡ true → Continues left octets
unfolding are_labels_from
continues zero [] h = record { part = []; labels = []; count = refl; good = tt; each = tt; text = refl }
continues (suc left) [] h = absurd cc
continues zero (octet ∷ octets) h =
    let b = both (is_label_length octet) (are_labels_from octet octets) h in
    let c = continues octet octets b.right in
    record {
      part = [];
      labels = c.part ∷ c.labels;
      count = refl;
      good = tt;
      each = (label_here c.part octet c.count b.left c.good, c.each);
      text = ap (λ (n : ℕ). n ∷ octets) (sym c.count) ∙ ap (λ (xs : List ℕ). length c.part ∷ xs) c.text;
    }
continues (suc left) (octet ∷ octets) h =
    let b = both (is_label_octet octet) (are_labels_from left octets) h in
    let c = continues left octets b.right in
    record { part = octet ∷ c.part; labels = c.labels; count = omega (arith, c.count); good = (b.left, c.good); each = c.each; text = ap (λ (xs : List ℕ). octet ∷ xs) c.text }

length_octet : (label : List ℕ) → IsLabel label → is_label_length (length label) ≡ true
length_octet label is = let least = is.least in let most = is.most in grind (arith, nat_tests)

-- the rest of a label, and then labels, is found
pub found : (part : List ℕ) (labels : List (List ℕ)) → AllByRecursion (λ octet. IsTrue (is_label_octet octet)) part → AllByRecursion IsLabel labels
    → are_labels_from (length part) (part ++ labels_text labels) ≡ true
unfolding are_labels_from
found [] [] good each = refl
found [] (label ∷ labels) good each = rw (length_octet label each.0) (found label labels each.0.octets each.1)
found (octet ∷ part) labels good each = rw good.0 (found part labels good.1 each)

pub labels_are : (octets : List ℕ) → AreLabels octets → are_labels_from 0 octets ≡ true
labels_are octets h = ap (are_labels_from 0) h.2 ∙ found [] h.0 tt h.1

pub are_labels : (octets : List ℕ) → are_labels_from 0 octets ≡ true → AreLabels octets
are_labels octets h =
    let c = continues 0 octets h in (c.labels, c.each, c.text ∙ ap (λ (xs : List ℕ). xs ++ labels_text c.labels) (nil_from_length c.part c.count))

-- ---- one step of the loop

pub at_length : (octets : List ℕ) (i : ℕ) → i < length octets → is_label_length (get_or octets i 0) ≡ true
    → are_labels_from (get_or octets i 0) (drop (i + 1) octets) ≡ are_labels_from 0 (drop i octets)
unfolding are_labels_from
at_length octets i lt h = sym (at_drop_more (λ xs. are_labels_from 0 xs) octets i 0 lt ∙ rw h refl)

pub in_label : (left : ℕ) (octets : List ℕ) (i : ℕ) → i < length octets → 0 < left → is_label_octet (get_or octets i 0) ≡ true
    → are_labels_from (left - 1) (drop (i + 1) octets) ≡ are_labels_from left (drop i octets)
unfolding are_labels_from
in_label zero octets i lt some h = absurd (omega arith)
in_label (suc left) octets i lt some h = let less : suc left - 1 ≡ left = omega arith in rw less (sym (at_drop_more (λ xs. are_labels_from (suc left) xs) octets i 0 lt ∙ rw h refl))
