-- How the name of an access point that is asked for is compared with those that a gateway has (TS 23.003 9.1).
use Rattle.std.specs.Prelude.{ℕ, ◌-◌, Bool, true, false, ◌&&◌, nat_le, nat_eq, if◌then◌else◌, codes, map, List, ◌∷◌, ◌++◌, length, take, drop}
use Rattle.std.specs.Char.{is_ascii_digit, to_ascii_lowercase}
use Rattle.std.specs.Cmp.Lexicographic.{pointwise}

-- a letter in lower case, and a digit as 0
abbrev pub plain : ℕ → ℕ
plain octet = if is_ascii_digit octet then 48 else to_ascii_lowercase octet

-- an operator identifier in plain octets: the labels mnc and mcc, each with three digits, and gprs
abbrev pub plain_operator : List ℕ
plain_operator = 6 ∷ codes "mnc000" ++ 6 ∷ codes "mcc000" ++ 4 ∷ codes "gprs"

-- whether labels are one
abbrev pub is_operator : List ℕ → Bool
is_operator labels = pointwise nat_eq (map plain labels) plain_operator

-- the labels of a name without an operator identifier, which has 19 octets
abbrev pub network_identifier : List ℕ → List ℕ
network_identifier name = if nat_le 20 (length name) && is_operator (drop (length name - 19) name) then take (length name - 19) name else name

-- the same labels, but for the case of letters
abbrev pub is_like : List ℕ → List ℕ → Bool
is_like a b = pointwise nat_eq (map to_ascii_lowercase a) (map to_ascii_lowercase b)

-- whether an access point with the first name is meant by the second: as it is written, or by its network identifier, in either case
abbrev pub is_meant : Bool → List ℕ → List ℕ → Bool
is_meant false own name = pointwise nat_eq own name
is_meant true own name = is_like (network_identifier own) (network_identifier name)
