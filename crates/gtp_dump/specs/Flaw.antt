-- Why a line of a hex dump is bad, and how that is told.
use Rattle.std.specs.Prelude.{◌≡◌, ℕ, ◌-◌, ◌≤◌, if◌then◌else◌, List, [], ◌∷◌, ◌++◌, length, Option, codes, decimal}
use Rattle.std.specs.Char.{is_ascii_hexdigit, is_ascii_graphic}
use Rattle.gtp_values.specs.declared.plane.Plane.{Plane}
use Rattle.gtp_dump.specs.Text.{walked, Names, IsTooLong}
use Rattle.gtp_dump.specs.declared.flaw.Flaw.{Flaw}
use Rattle.gtp_dump.specs.declared.flaw.Flaw.TheVariants.{TooLong, Character, Odd}

-- a text from the first of its digits on that is no hexadecimal digit; nothing where there is none
abbrev pub wrong : ℕ → List ℕ → List ℕ → List ℕ
wrong c after more = if is_ascii_hexdigit c then more else (c ∷ after)

abbrev pub from_wrong : List ℕ → List ℕ
from_wrong text = walked wrong text

-- the line, behind the word of its plane, has this character first among those that are wrong, at this place of the line
abbrev pub HasWrong : List ℕ → ℕ → ℕ → Type 0
HasWrong line c place = (named : Option Plane) × (rest : List ℕ) × (after : List ℕ) × Names line named rest
    × (from_wrong rest ≡ c ∷ after) × (place ≡ length line - length (c ∷ after))

-- why a line is bad: it is too long, or has a wrong character, or else no more than an odd number of digits
abbrev pub IsFlaw : List ℕ → Flaw → Type 0
IsFlaw line TooLong = IsTooLong line
IsFlaw line (Character c place) = (length line ≤ 1048576) × HasWrong line c place
IsFlaw line Odd = (length line ≤ 1048576) × (named : Option Plane) × (rest : List ℕ) × Names line named rest × (from_wrong rest ≡ [])

-- why a text is bad with which a line ends: it has a wrong character, or else no more than an odd number of digits
abbrev pub IsFlawFrom : List ℕ → List ℕ → Flaw → Type 0
IsFlawFrom line rest TooLong = ⊥
IsFlawFrom line rest (Character c place) = (after : List ℕ) × (from_wrong rest ≡ c ∷ after) × (place ≡ length line - length (c ∷ after))
IsFlawFrom line rest Odd = from_wrong rest ≡ []

-- how an octet of a text is called
abbrev pub octet_text : ℕ → List ℕ
octet_text c = if is_ascii_graphic c then codes "the character " ++ c ∷ [] else codes "the octet " ++ decimal c

-- the flaw in words
abbrev pub flaw_text : Flaw → List ℕ
flaw_text TooLong = codes "more than 1048576 octets"
flaw_text (Character c place) = octet_text c ++ (codes " at place " ++ (decimal place ++ codes " is no hexadecimal digit"))
flaw_text Odd = codes "an odd number of digits"
