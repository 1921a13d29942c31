-- Access point names (TS 29.274 8.6, TS 23.003 9.1).
use Rattle.std.specs.Prelude.{◌≡◌, ℕ, zero, suc, ◌≤◌, Bool, true, false, IsTrue, ◌&&◌, not, ◌==◌, nat_le, cond, List, [], ◌∷◌, ◌++◌, length, ◌<◌, ◌↔◌, Result, IsOk, IfOk, IsErrOf}
use Rattle.gtp_values.specs.declared.fault.ValueFault.{ValueFault}
use Rattle.gtp_values.specs.declared.fault.ValueFault.TheVariants.{TooShort, TooLong, BadLabel}
use Rattle.std.specs.List.{AllByRecursion, position_or_len}

-- an octet of a label: a letter, a digit or a mark of ASCII, and no dot (a choice of this product: TS 23.003 has fewer)
abbrev pub is_label_octet : ℕ → Bool
is_label_octet octet = (nat_le 33 octet && nat_le octet 126) && not (octet == 46)

-- a label: 1 to 63 such octets
pub record IsLabel (label : List ℕ) : Type 0 where
  pub least : 1 ≤ length label
  pub most : length label ≤ 63
  pub octets : AllByRecursion (λ octet. IsTrue (is_label_octet octet)) label

-- labels, each after an octet with its length
abbrev pub labels_text : List (List ℕ) → List ℕ
labels_text [] = []
labels_text (label ∷ labels) = length label ∷ (label ++ labels_text labels)

-- the octets are labels, each after its length
abbrev pub AreLabels : List ℕ → Type 0
AreLabels octets = (labels : List (List ℕ)) × AllByRecursion IsLabel labels × (octets ≡ labels_text labels)

-- 1 to 100 octets
pub record HasApnLength (octets : List ℕ) : Type 0 where
  pub least : 1 ≤ length octets
  pub most : length octets ≤ 100

-- the octets are an access point name: 1 to 100 octets of labels, with no closing zero
pub record IsApn (octets : List ℕ) : Type 0 where
  pub least : 1 ≤ length octets
  pub most : length octets ≤ 100
  pub labels : AreLabels octets

-- the octets of labels, of which so many of the present one are left; the length of each later one is a dot
unfoldable pub joined_from : ℕ → List ℕ → List ℕ
joined_from left [] = []
joined_from zero (octet ∷ octets) = 46 ∷ joined_from octet octets
joined_from (suc left) (octet ∷ octets) = octet ∷ joined_from left octets

-- the labels of an access point name, joined by dots
abbrev pub apn_text : List ℕ → List ℕ
apn_text [] = []
apn_text (octet ∷ octets) = joined_from octet octets

-- labels, each after a dot
abbrev pub after_dots : List (List ℕ) → List ℕ
after_dots [] = []
after_dots (label ∷ labels) = 46 ∷ (label ++ after_dots labels)

-- labels, joined by dots
abbrev pub joined : List (List ℕ) → List ℕ
joined [] = []
joined (label ∷ labels) = label ++ after_dots labels

-- 1 to 99 characters
pub record HasApnTextLength (text : List ℕ) : Type 0 where
  pub least : 1 ≤ length text
  pub most : length text ≤ 99

-- the text is that of an access point name
abbrev pub IsApnText : List ℕ → Type 0
IsApnText text = (apn : List ℕ) × IsApn apn × (apn_text apn ≡ text)

-- a label's length
abbrev pub is_label_length : ℕ → Bool
is_label_length n = nat_le 1 n && nat_le n 63

-- what a reader finds that has so many octets left of a label
unfoldable pub are_labels_from : ℕ → List ℕ → Bool
are_labels_from zero [] = true
are_labels_from (suc left) [] = false
are_labels_from zero (octet ∷ octets) = is_label_length octet && are_labels_from octet octets
are_labels_from (suc left) (octet ∷ octets) = is_label_octet octet && are_labels_from left octets

-- how many characters stand before the first dot
abbrev pub label_length : List ℕ → ℕ
label_length text = position_or_len (λ octet. octet == 46) text

-- characters with the length of the label after it in place of each dot
abbrev pub lengths_for_dots : List ℕ → List ℕ
lengths_for_dots [] = []
lengths_for_dots (octet ∷ octets) = cond (octet == 46) (label_length octets) octet ∷ lengths_for_dots octets

-- the octets that a text of labels stands for
abbrev pub octets_of_text : List ℕ → List ℕ
octets_of_text text = label_length text ∷ lengths_for_dots text

-- what reading a text answers: the name that has it, or the first refusal
pub record ReadsApn (text : List ℕ) (result : Result (List ℕ) ValueFault) : Type 0 where
  pub ok : IsOk result ↔ IsApnText text
  pub value : IfOk result (λ apn. apn_text apn ≡ text)
  pub short : IsErrOf result TooShort ↔ (length text < 1)
  pub long : IsErrOf result TooLong ↔ (99 < length text)
  pub label : IsErrOf result BadLabel ↔ (HasApnTextLength text × ¬ IsApnText text)
