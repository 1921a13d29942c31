-- Lines that are read together.
use Rattle.std.specs.Prelude.{◌≡◌, ℕ, ◌+◌, ◌/◌, ◌%◌, ◌==◌, ◌<◌, ◌≤◌, ◌&&◌, ◌||◌, ◌⊎◌, ⊤, not, Bool, true, false, List, [], ◌∷◌, ◌++◌, length, Option, None, Ok, IsErr, IsTrue}
use Rattle.std.specs.List.{All, list_all, sum_by, flat_map}
use Rattle.std.specs.Char.{is_ascii_hexdigit}
use Rattle.hex.specs.Hex.{decode_of}
use Rattle.gtp_values.specs.declared.plane.Plane.{Plane}
use Rattle.gtp_dump.specs.Text.{digits_in, has_digits, Names, plane_of, Spells, IsBlank, IsBad}
use Rattle.gtp_dump.specs.Row.{is_row_at, row_from, row_digits, begins_dump}
use Rattle.gtp_dump.specs.Flaw.{IsFlaw, IsFlawFrom}
use Rattle.gtp_dump.specs.declared.flaw.Flaw.{Flaw}
use Rattle.gtp_dump.specs.declared.flaw.Flaw.TheVariants.{TooLong, Odd}

-- what lines give: nothing, the number of one that is bad and its flaw, or the octets of a datagram
pub data Reading : Type 0 where
  Nothing : Reading
  Bad : ℕ → Flaw → Reading
  Datagram : Plane → List ℕ → Reading

-- ---- which lines are read together

-- a line of hexadecimal, without a word before it
abbrev pub IsPlain : List ℕ → Type 0
IsPlain line = Names line None line × IsTrue (has_digits line)

-- how many octets a row takes; half of one counts as one
abbrev pub row_size : List ℕ → ℕ
row_size line = (length (row_digits line) + 1) / 2

-- a line goes on after others: with plain lines that are joined, a plain line; with so many octets of rows, the row at that offset
abbrev pub GoesOnAt : Bool → ℕ → List ℕ → Type 0
GoesOnAt true octets line = IsPlain line
GoesOnAt false octets line = IsTrue (is_row_at octets line)

abbrev pub GoesOn : Bool → List (List ℕ) → List ℕ → Type 0
GoesOn joined lines line = GoesOnAt joined (sum_by row_size lines) line

-- each line goes on after those before it, of which there are so many octets
abbrev pub GoOn : Bool → ℕ → List (List ℕ) → Type 0
GoOn joined octets [] = ⊤
GoOn joined octets (line ∷ lines) = GoesOnAt joined octets line × GoOn joined (octets + row_size line) lines

-- lines stand together: the first begins a dump, and rows follow; or it does not, and it and what follows is plain
abbrev pub StandTogether : Bool → List (List ℕ) → Type 0
StandTogether joined [] = ⊥
StandTogether joined (line ∷ lines) = (begins_dump line ≡ not joined) × GoOn joined 0 (line ∷ lines)

-- any other line stands alone; so do plain lines where none are joined
abbrev pub StandsAlone : Bool → List ℕ → Type 0
StandsAlone join line = (begins_dump line ≡ false) × (join ≡ true → ¬ IsPlain line)

-- ---- what they give

-- from where on a line has its digits, and these
abbrev pub from_of : Bool → List ℕ → List ℕ
from_of true line = line
from_of false line = row_from line

abbrev pub digits_of : Bool → List ℕ → List ℕ
digits_of true line = digits_in line
digits_of false line = row_digits line

-- they are hexadecimal; in a row they write whole octets
abbrev pub is_good : Bool → List ℕ → Bool
is_good joined line = list_all is_ascii_hexdigit (digits_of joined line) && (joined || (length (digits_of joined line) % 2 == 0))

-- no line is wrong, nor are all too long together
abbrev pub AreGood : Bool → List (List ℕ) → Type 0
AreGood joined lines = (sum_by length lines ≤ 1048576) × All (λ line. is_good joined line ≡ true) lines

-- what is wrong with a line, after so many octets of text: with it they are too long, or it is no good
abbrev pub IsWrong : Bool → ℕ → List ℕ → Flaw → Type 0
IsWrong joined size line flaw = ((flaw ≡ TooLong) × (1048576 < size + length line))
    ⊎ ((size + length line ≤ 1048576) × (is_good joined line ≡ false) × IsFlawFrom line (from_of joined line) flaw)

-- the first line that is wrong, of lines after so many; lines count from 1
pub record IsFirstWrong (joined : Bool) (start : ℕ) (lines : List (List ℕ)) (number : ℕ) (flaw : Flaw) : Type 0 where
  pub front : List (List ℕ)
  pub line : List ℕ
  pub back : List (List ℕ)
  pub whole : lines ≡ front ++ line ∷ back
  pub good : AreGood joined front
  pub wrong : IsWrong joined (sum_by length front) line flaw
  pub counted : number ≡ start + length front + 1

-- what one line gives
abbrev pub Gives : Option Plane → ℕ → List ℕ → Reading → Type 0
Gives asked start line Nothing = IsBlank line
Gives asked start line (Bad number flaw) = (number ≡ start + 1) × IsBad line × IsFlaw line flaw
Gives asked start line (Datagram plane octets) = Spells asked line plane octets

-- and lines that stand together: the octets of all their digits, or the first that is wrong; if none is, an odd number of digits in all
abbrev pub GiveTogether : Option Plane → Bool → ℕ → List (List ℕ) → Reading → Type 0
GiveTogether asked joined start lines Nothing = ⊥
GiveTogether asked joined start lines (Bad number flaw) = IsFirstWrong joined start lines number flaw
    ⊎ (AreGood joined lines × IsErr (decode_of (flat_map (digits_of joined) lines)) × (number ≡ start + 1) × (flaw ≡ Odd))
GiveTogether asked joined start lines (Datagram plane octets) = AreGood joined lines
    × (decode_of (flat_map (digits_of joined) lines) ≡ Ok octets) × (plane ≡ plane_of None asked octets)

-- an entry of a dump, after so many lines and before the next, and what it gives: lines that stand together, and do not go on, or a line that stands alone
abbrev pub IsEntry : Option Plane → Bool → ℕ → List (List ℕ) → List ℕ → Reading → Type 0
IsEntry asked join start lines next reading =
    ((joined : Bool) × (joined ≡ true → join ≡ true) × StandTogether joined lines × (¬ GoesOn joined lines next) × GiveTogether asked joined start lines reading)
    ⊎ ((line : List ℕ) × (lines ≡ line ∷ []) × StandsAlone join line × Gives asked start line reading)
