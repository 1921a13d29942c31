-- A line of a hex dump.
use Rattle.std.specs.Prelude.{◌≡◌, ◌≢◌, ℕ, ◌<◌, ◌≤◌, ◌/◌, ◌==◌, ◌||◌, ◌&&◌, ◌⊎◌, not, Bool, false, if◌then◌else◌, List, [], ◌∷◌, ◌++◌, length, slice_index, codes, Option, Some, None, Ok, IsErr}
use Rattle.std.specs.Char.{is_ascii_whitespace}
use Rattle.hex.specs.Hex.{decode_of}
use Rattle.gtp_values.specs.declared.plane.Plane.{Plane}
use Rattle.gtp_values.specs.declared.plane.Plane.TheVariants.{Control, User}

-- a blank, a line feed, a colon or a comma
abbrev pub is_between : ℕ → Bool
is_between c = is_ascii_whitespace c || ((c == 58) || (c == 44))

-- 0x or 0X
abbrev pub is_prefix : ℕ → ℕ → Bool
is_prefix a b = (a == 48) && ((b == 120) || (b == 88))

-- whether a text of this character and what follows begins with a prefix
abbrev pub begins_prefix : ℕ → List ℕ → Bool
begins_prefix a [] = false
begins_prefix a (b ∷ rest) = is_prefix a b

-- of a character that begins no prefix, before what follows it, of which a walk gives more: `#` begins a comment, and what stands between octets is passed over;
-- of any other character `found` says what the walk gives
abbrev pub step : (ℕ → List ℕ → List ℕ → List ℕ) → ℕ → List ℕ → List ℕ → List ℕ
step found c after more = if c == 35 then [] else (if is_between c then more else found c after more)

-- what a walk over a text gives: prefixes are passed over
unfoldable pub walked : (ℕ → List ℕ → List ℕ → List ℕ) → List ℕ → List ℕ
walked found [] = []
walked found (a ∷ []) = step found a [] []
walked found (a ∷ b ∷ rest) = if is_prefix a b then walked found rest else step found a (b ∷ rest) (walked found (b ∷ rest))

-- a text from the first of its digits on
abbrev pub first_on : ℕ → List ℕ → List ℕ → List ℕ
first_on c after more = c ∷ after

abbrev pub from_digit : List ℕ → List ℕ
from_digit text = walked first_on text

-- the digits of a text, which are all characters that are not passed over
abbrev pub taken : ℕ → List ℕ → List ℕ → List ℕ
taken c after more = c ∷ more

abbrev pub digits_in : List ℕ → List ℕ
digits_in text = walked taken text

abbrev pub has_digits : List ℕ → Bool
has_digits text = not (length (digits_in text) == 0)

-- the text has digits, and they spell these octets
pub record HasOctets (text octets : List ℕ) : Type 0 where
  pub some : digits_in text ≢ []
  pub spelled : decode_of (digits_in text) ≡ Ok octets

-- whether the text begins with the word of a plane, and what follows
abbrev pub Names : List ℕ → Option Plane → List ℕ → Type 0
Names text (Some Control) rest = text ≡ codes "control" ++ rest
Names text (Some User) rest = text ≡ codes "user" ++ rest
Names text None rest = (rest ≡ text) × ((after : List ℕ) → text ≢ codes "control" ++ after) × ((after : List ℕ) → text ≢ codes "user" ++ after)

-- the plane by the version in the first three bits: 1 is GTP-U (TS 29.281 5.1); the other versions are control's (TS 29.274 5.1)
abbrev pub plane_by_version : List ℕ → Plane
plane_by_version octets = if slice_index octets 0 / 32 == 1 then User else Control

-- the plane that is named, or else the one that is asked for, or else that of the version
abbrev pub plane_of : Option Plane → Option Plane → List ℕ → Plane
plane_of (Some named) asked octets = named
plane_of None (Some asked) octets = asked
plane_of None None octets = plane_by_version octets

-- a line has more octets than are read of one, its line feed with them
abbrev pub IsTooLong : List ℕ → Type 0
IsTooLong line = 1048576 < length line

-- the line spells the octets of a datagram
pub record Spells (asked : Option Plane) (line : List ℕ) (plane : Plane) (octets : List ℕ) : Type 0 where
  pub fits : length line ≤ 1048576
  pub named : Option Plane
  pub rest : List ℕ
  pub names : Names line named rest
  pub has : HasOctets rest octets
  pub plane_is : plane ≡ plane_of named asked octets

-- a word spells a datagram as a line does, and an empty word one of no octets
abbrev pub SpellsWord : Option Plane → List ℕ → Plane → List ℕ → Type 0
SpellsWord asked [] plane octets = (octets ≡ []) × (plane ≡ plane_of None asked [])
SpellsWord asked (c ∷ word) plane octets = Spells asked (c ∷ word) plane octets

-- the line has no digits
abbrev pub IsBlank : List ℕ → Type 0
IsBlank line = (length line ≤ 1048576) × (named : Option Plane) × (rest : List ℕ) × Names line named rest × (digits_in rest ≡ [])

-- the line is too long, or has what is no digit, or an odd number of digits
abbrev pub IsBad : List ℕ → Type 0
IsBad line = IsTooLong line ⊎ ((named : Option Plane) × (rest : List ℕ) × Names line named rest × IsErr (decode_of (digits_in rest)))
