-- Texts of access points are ASCII.
use Rattle.std.proofs.Common.{◌≡◌, ℕ, ◌<◌, List, [], ◌∷◌, ◌++◌, IsUtf8, subst, sym, ap, ◌∙◌, arith}
use Rattle.std.specs.Prelude.{IsTrue}
use Rattle.std.specs.List.{AllByRecursion}
use Rattle.std.proofs.lemmas.Bool.Decides.{nat_tests}
use Rattle.std.proofs.lemmas.List.Elements.{All-from_recursion}
use Rattle.std.proofs.lemmas.Str.{IsUtf8-from_ascii}
use Rattle.std.proofs.lemmas.Str.Ascii.{IsAscii-from_all}
use Rattle.gtp_values.specs.Apn.{is_label_octet, IsLabel, IsApnText, after_dots, apn_text, joined}
use Rattle.gtp_values.proofs.NamesAsText.{text_of_labels}

abbrev Small : ℕ → Type 0
Small octet = octet < 128

both : (xs ys : List ℕ) → AllByRecursion Small xs → AllByRecursion Small ys → AllByRecursion Small (xs ++ ys)
both [] ys one other = other
both (x ∷ xs) ys one other = (one.0, both xs ys one.1 other)

label_octets : (xs : List ℕ) → AllByRecursion (λ octet. IsTrue (is_label_octet octet)) xs → AllByRecursion Small xs
label_octets [] all = tt
label_octets (x ∷ xs) all = ((let is = all.0 in grind (arith, nat_tests)), label_octets xs all.1)

rest_is_ascii : (labels : List (List ℕ)) → AllByRecursion IsLabel labels → AllByRecursion Small (after_dots labels)
rest_is_ascii [] all = tt
rest_is_ascii (label ∷ labels) all = (omega arith, both label (after_dots labels) (label_octets label all.0.octets) (rest_is_ascii labels all.1))

joined_is_ascii : (labels : List (List ℕ)) → AllByRecursion IsLabel labels → AllByRecursion Small (joined labels)
joined_is_ascii [] all = tt
joined_is_ascii (label ∷ labels) all = both label (after_dots labels) (label_octets label all.0.octets) (rest_is_ascii labels all.1)

pub apn_is_text : (octets : List ℕ) → IsApnText octets → IsUtf8 octets
apn_is_text octets (apn, is, says) =
    let labels = is.labels in
    let text : octets ≡ joined labels.0 = sym says ∙ (ap apn_text labels.2 ∙ text_of_labels labels.0) in
    IsUtf8-from_ascii octets (IsAscii-from_all octets (All-from_recursion Small octets (subst (AllByRecursion Small) (sym text) (joined_is_ascii labels.0 labels.1))))
