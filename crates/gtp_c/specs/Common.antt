-- What several definitions share.
use Rattle.std.specs.Prelude.{◌≡◌, ◌⊎◌, ℕ, ◌-◌, Bool, true, false, List, [], ◌∷◌, drop, length}

-- 1 where it holds
abbrev pub flag : Bool → ℕ
flag true = 1
flag false = 0

-- the number is one of these
abbrev pub IsOneOf : List ℕ → ℕ → Type 0
IsOneOf [] n = ⊥
IsOneOf (one ∷ more) n = (n ≡ one) ⊎ IsOneOf more n

-- these are the last of the octets
abbrev pub AreLast : List ℕ → List ℕ → Type 0
AreLast payload octets = drop (length octets - length payload) octets ≡ payload
