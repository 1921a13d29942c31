-- Decimal digits in the halves of octets.
use Rattle.std.specs.Prelude.{ℕ, ◌+◌, ◌*◌, ◌/◌, ◌%◌, Bool, ◌&&◌, List, [], ◌∷◌, length, slice_index, nat_lt, nat_le, ◌==◌, if◌then◌else◌}
use Rattle.std.specs.List.{list_all}
use Rattle.gtp_values.specs.Plmn.{Network}

-- TS 29.274 8.3: digits two an octet, the first in the low half; the filler 15 in the last high half for an odd count
abbrev pub packed : List ℕ → List ℕ
packed [] = []
packed (a ∷ []) = (240 + a) ∷ []
packed (a ∷ b ∷ digits) = (16 * b + a) ∷ packed digits

-- the digits of the last octet
abbrev pub last_digits : ℕ → List ℕ
last_digits octet = if octet / 16 == 15 then octet % 16 ∷ [] else octet % 16 ∷ octet / 16 ∷ []

-- the halves of octets but for a filler at the end
abbrev pub digits_in : List ℕ → List ℕ
digits_in [] = []
digits_in (octet ∷ []) = last_digits octet
digits_in (octet ∷ next ∷ octets) = octet % 16 ∷ octet / 16 ∷ digits_in (next ∷ octets)

-- decimal digits
abbrev pub are_decimal : List ℕ → Bool
are_decimal digits = list_all (λ digit. nat_lt digit 10) digits

-- 6 to 15 decimal digits
abbrev pub are_imsi_digits : List ℕ → Bool
are_imsi_digits digits = (nat_le 6 (length digits) && nat_le (length digits) 15) && are_decimal digits

-- decimal digits, as the two codes of a network have them
abbrev pub are_network_digits : Network → Bool
are_network_digits n = are_decimal n.mcc && are_decimal n.mnc

-- the third digit of a network code, or 15
abbrev pub third_or_filler : List ℕ → ℕ
third_or_filler mnc = if length mnc == 3 then slice_index mnc 2 else 15

-- TS 29.274 8.18: MCC digits 2 and 1, MNC digit 3 and MCC digit 3, MNC digits 2 and 1
abbrev pub network_encoding : Network → List ℕ
network_encoding n =
    (16 * slice_index n.mcc 1 + slice_index n.mcc 0) ∷ (16 * third_or_filler n.mnc + slice_index n.mcc 2) ∷ (16 * slice_index n.mnc 1 + slice_index n.mnc 0) ∷ []
