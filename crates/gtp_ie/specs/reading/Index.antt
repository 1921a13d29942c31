-- Reading functions, for private contracts and proofs: where the first element of a type and instance stands.
use Rattle.std.specs.Prelude.{◌≡◌, ◌==◌, ◌&&◌, ◌<◌, ◌≤◌, ℕ, ◌+◌, ◌-◌, List, [], ◌∷◌, length, drop, get_or, Result, Ok, Err, if◌then◌else◌}
use Rattle.gtp_ie.specs.declared.form.Form.TheVariants as forms
use Rattle.gtp_ie.specs.Form.{number_of, bearer_context}
use Rattle.gtp_ie.specs.Element.{Element, elements_of}
use Rattle.gtp_ie.specs.reading.View.{IsWhole}

-- the types and instances that a message has a row of: each has a slot of its own, from 1 on
abbrev pub slots : List (ℕ × ℕ)
slots =
    (number_of forms.Imsi, 0)
    ∷ (number_of forms.Cause, 0)
    ∷ (number_of forms.Recovery, 0)
    ∷ (number_of forms.Apn, 0)
    ∷ (number_of forms.Ambr, 0)
    ∷ (number_of forms.Ebi, 0)
    ∷ (number_of forms.Paa, 0)
    ∷ (number_of forms.Qos, 0)
    ∷ (number_of forms.Rat, 0)
    ∷ (number_of forms.Plmn, 0)
    ∷ (number_of forms.Tft, 0)
    ∷ (number_of forms.FTeid, 0)
    ∷ (bearer_context, 0)
    ∷ (number_of forms.ChargingId, 0)
    ∷ (number_of forms.PdnType, 0)
    ∷ (number_of forms.Pti, 0)
    ∷ (number_of forms.Selection, 0)
    ∷ (number_of forms.Ebi, 1)
    ∷ (number_of forms.FTeid, 1)
    ∷ (number_of forms.FTeid, 2)
    ∷ (number_of forms.FTeid, 3)
    ∷ []

-- the slot among these, of which the first is this one; all others share slot 0
abbrev pub slot_among : ℕ → List (ℕ × ℕ) → ℕ → ℕ → ℕ
slot_among first [] kind instance = 0
slot_among first ((k, i) ∷ more) kind instance = if (kind == k) && (instance == i) then first else slot_among (first + 1) more kind instance

-- the slot of a type and instance
unfoldable pub slot : ℕ → ℕ → ℕ
slot kind instance = slot_among 1 slots kind instance

-- the elements from the first one of a slot on
abbrev pub from_slot : ℕ → List Element → List Element
from_slot s [] = []
from_slot s (e ∷ es) = if slot e.kind e.instance == s then e ∷ es else from_slot s es

-- the same of a walk
abbrev pub walk_from_slot : ℕ → Result (List Element) ℕ → Result (List Element) ℕ
walk_from_slot s (Ok es) = Ok (from_slot s es)
walk_from_slot s (Err at) = Err at

-- the elements in so many octets at the end
abbrev pub elements_left : ℕ → List ℕ → ℕ → Result (List Element) ℕ
elements_left base octets left = elements_of (base + (length octets - left)) (drop (length octets - left) octets)

-- the octets are whole elements, and by slot it is known how many octets are left from its first element on
pub record IsIndexed (base : ℕ) (octets : List ℕ) (lefts : List ℕ) : Type 0 where
  pub whole : IsWhole base octets
  pub room : (s : ℕ) → get_or lefts s 0 ≤ length octets
  pub slots : (s : ℕ) → s < 22 → elements_left base octets (get_or lefts s 0) ≡ walk_from_slot s (elements_of base octets)
